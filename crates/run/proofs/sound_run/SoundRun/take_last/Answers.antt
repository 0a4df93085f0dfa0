-- `run::SoundRun::take_last` meets its contract: nothing is taken, or a last line that isn't empty.
use Rattle.std.proofs.Common.{arith, length-take}
use Rattle.network.specs.Sound.{whole}
use Rattle.run.specs.Runs.{line_alone}
use Rattle.run.specs.Sound.{whole_run}
use Rattle.run.proofs.Prints.{sound-fits}
use Rattle.run.proofs.Sound.{run-sound}
use Rattle.run.proofs.Finished.{last_line-taken}
use Rattle.run.proofs.sound_run.SoundRun.take_last.Goals as goal

pub slice_bounds-bytes-end : goal.slice_bounds-bytes-end
slice_bounds-bytes-end c =
    let wide = c.args.self.now.line_kept in
    omega (arith, sound-fits (whole_run c.args.self.now) (run-sound c.args.self.now))

pub slice_bounds-print_line-end : goal.slice_bounds-print_line-end
slice_bounds-print_line-end c =
    let wide = c.args.self.now.line_kept in
    let few = sound-fits (whole_run c.args.self.now) (run-sound c.args.self.now) in
    rw length-take (omega arith)

pub returns : goal.returns
returns c =
    let wide = c.args.self.now.line_kept in
    last_line-taken (whole_run c.args.self.now) (run-sound c.args.self.now) c.args.out.now
    (line_alone (whole c.print_line.new.s) c.print_line.result) _ c.if-length-eq0.false wide c.print_line.ensures

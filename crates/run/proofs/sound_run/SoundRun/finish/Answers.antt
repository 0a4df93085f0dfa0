-- `run::SoundRun::finish` meets its contract: the tallies, behind what a last line prints.
use Rattle.std.proofs.Common.{◌≤◌, length, rules}
use Rattle.semantics.specs.Limits.{min_room}
use Rattle.network.specs.Sound.{whole}
use Rattle.run.specs.Runs.{line_alone}
use Rattle.run.specs.Sound.{whole_run}
use Rattle.run.proofs.Sound.{run-sound}
use Rattle.run.proofs.Finished.{ends_tallies}
use Rattle.run.proofs.sound_run.SoundRun.finish.Goals as goal

pub returns : goal.returns
returns c =
    let room : min_room ≤ length c.args.out.now = search rules in
    let last = c.take_last-end in
    ends_tallies (whole_run c.args.self) (run-sound c.args.self) c.args.out.now (line_alone (whole last.new.self.state) last.result)
    last.new.out last.ensures c.write_tallies.result c.write_tallies.new.out room c.write_tallies.ensures.next
    c.write_tallies.ensures.written

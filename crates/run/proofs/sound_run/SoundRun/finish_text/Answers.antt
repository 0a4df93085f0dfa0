-- `run::SoundRun::finish_text` meets its contract: what the engine says of the state that a last line leaves.
use Rattle.network.specs.Sound.{whole}
use Rattle.run.specs.Runs.{line_alone}
use Rattle.run.specs.Sound.{whole_run}
use Rattle.run.proofs.Sound.{run-sound}
use Rattle.run.proofs.Finished.{ends_text}
use Rattle.run.proofs.sound_run.SoundRun.finish_text.Goals as goal

pub returns : goal.returns
returns c =
    let last = c.take_last in
    ends_text (whole_run c.args.self) (run-sound c.args.self) _ (line_alone (whole last.new.self.state) last.result) last.new.out last.ensures
    c.args.out.now c.save-answer.new.out c.save-answer.result (rw c.state.ensures at c.save-answer.ensures)

-- `run::SoundRun::new` meets its contract: the state is that of an unused run, and of the first line no byte has come in.
use Rattle.network.specs.Sound.{whole}
use Rattle.run.proofs.Prints.{starting}
use Rattle.run.proofs.Sound.{fresh_open}
use Rattle.run.proofs.sound_run.SoundRun.new.Goals as goal

pub invariant_of-result-clause-line_open : goal.invariant_of-result-clause-line_open
invariant_of-result-clause-line_open c = fresh_open _ c.fresh-pending.ensures

pub returns : goal.returns
returns c = starting (whole c.new-state.result) c.fresh-pending.result c.new-state.ensures c.fresh-pending.ensures

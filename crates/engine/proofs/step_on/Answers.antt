-- `engine::step_on` meets its contract.
use Rattle.network.specs.Sound.{whole}
use Rattle.network.proofs.Standing.{sound_holds}
use Rattle.engine.proofs.Stepping.{stepped}
use Rattle.engine.proofs.step_on.Goals as goal

pub returns : goal.returns
returns c =
    rw c.state-state.ensures
    (stepped (whole c.args.s) c.args.line.now c.args.out.now (whole c.take_line-answer.new.s) c.take_line-answer.result _ c.requires
    (sound_holds c.args.s) c.take_line-answer.ensures.answer c.take_line-answer.ensures.buffer)

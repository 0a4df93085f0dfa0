-- `engine::save` meets its contract: 9, then the text of the network.
use Rattle.refusals.specs.declared.Refusal.TheVariants.{BrokenState}
use Rattle.performing.proofs.Refusing.{missed, got}
use Rattle.engine.proofs.OtherCalls.{save_broken, save_told}
use Rattle.engine.proofs.save.Goals as goal

pub returns-in_err-sound : goal.returns-in_err-sound
returns-in_err-sound c =
    let none = missed c.of.result BrokenState _ c.ok_or.ensures.value _ c.in_err-sound.was _ c.from_residual.ensures.1 in
    rw none.1 (save_broken c.args.state c.args.out.now c.of.result c.of.ensures.kept none.0)

pub returns : goal.returns
returns c =
    let sound = got c.of.result BrokenState _ c.ok_or.ensures.value _ c.in_ok-sound.was in
    search save_told

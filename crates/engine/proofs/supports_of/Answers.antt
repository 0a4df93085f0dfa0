-- `engine::supports_of` meets its contract: 9 first.
use Rattle.refusals.specs.declared.Refusal.TheVariants.{BrokenState}
use Rattle.performing.proofs.Refusing.{missed, got}
use Rattle.engine.proofs.OtherCalls.{broken_uncounted, sound-counted}
use Rattle.engine.proofs.supports_of.Goals as goal

pub returns-in_err-sound : goal.returns-in_err-sound
returns-in_err-sound c =
    let none = missed c.of.result BrokenState _ c.ok_or.ensures.value _ c.in_err-sound.was _ c.from_residual.ensures.1 in
    rw none.1 (broken_uncounted c.args.s c.args.id.now c.of.result c.of.ensures.kept none.0)

pub returns : goal.returns
returns c =
    let sound = got c.of.result BrokenState _ c.ok_or.ensures.value _ c.in_ok-sound.was in
    search sound-counted

-- `engine::supports_on` meets its contract: a malformed id is no plot's.
use Rattle.network.specs.Sound.{whole}
use Rattle.std.proofs.lemmas.Option.{MatchOption-at_none, MatchOption-at_some}
use Rattle.refusals.specs.declared.Refusal.TheVariants.{NoPlot}
use Rattle.performing.proofs.Refusing.{missed, got}
use Rattle.network.proofs.Standing.{sound_holds}
use Rattle.engine.proofs.OtherCalls.{unnamed_uncounted, named-counted}
use Rattle.engine.proofs.supports_on.Goals as goal

pub returns-in_err-name : goal.returns-in_err-name
returns-in_err-name c =
    let none = missed c.read_id.result NoPlot _ c.ok_or.ensures.value _ c.in_err-name.was _ c.from_residual.ensures.1 in
    rw none.1
    (unnamed_uncounted (whole c.args.s.now) (sound_holds c.args.s.now) c.args.id.now (MatchOption-at_none _ _ none.0 c.read_id.ensures.field))

pub returns : goal.returns
returns c =
    let name = got c.read_id.result NoPlot _ c.ok_or.ensures.value _ c.in_ok-name.was in
    named-counted (whole c.args.s.now) (sound_holds c.args.s.now) c.args.id.now _ _ _ (MatchOption-at_some _ _ _ name c.read_id.ensures.field).1
    c.counts_of.ensures c.ok_or-2.ensures.value

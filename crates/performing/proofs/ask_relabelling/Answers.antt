-- `performing::ask_relabelling` meets its contract.
use Rattle.performing.proofs.Asking.{relabelling-refused, relabelling_told}
use Rattle.network.specs.Sound.{whole}
use Rattle.performing.proofs.Refusing.{missed, got}
use Rattle.refusals.specs.declared.Refusal.TheVariants.{NothingFits}
use Rattle.performing.proofs.ask_relabelling.Goals as goal

pub returns-in_err-found : goal.returns-in_err-found
returns-in_err-found c =
    let none = missed c.relabelling.result NothingFits _ c.ok_or.ensures.value _ c.in_err-found.was _ c.from_residual.ensures.1 in
    rw none.1 (relabelling-refused (whole c.args.s.now) _ c.relabelling.ensures c.args.out.now none.0)

pub returns : goal.returns
returns c =
    let found = got c.relabelling.result NothingFits _ c.ok_or.ensures.value _ c.in_ok-found.was in
    relabelling_told (whole c.args.s.now) _ c.relabelling.ensures _ _ c.args.s.now.network_rules found _ _
    c.write_relabelling.ensures.next c.write_relabelling.ensures.written

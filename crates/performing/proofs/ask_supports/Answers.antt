-- `performing::ask_supports` meets its contract.
use Rattle.std.proofs.Common.{arith, length-take}
use Rattle.performing.proofs.Asking.{supports-refused, supports_told, supports-few, supports-below}
use Rattle.network.specs.Sound.{whole}
use Rattle.performing.proofs.Refusing.{missed, got}
use Rattle.refusals.specs.declared.Refusal.TheVariants.{NoPlot}
use Rattle.performing.proofs.ask_supports.Goals as goal

pub shared_ref_as_front-write_supports : goal.shared_ref_as_front-write_supports
shared_ref_as_front-write_supports c =
    let found = got c.counts_of.result NoPlot _ c.ok_or.ensures.value _ c.in_ok-found.was in
    omega (arith, supports-few (whole c.args.s.now) c.args.id _ c.counts_of.ensures _ found c.args.s.now.network_rules)

pub write_supports-requires-clause-few_counts : goal.write_supports-requires-clause-few_counts
write_supports-requires-clause-few_counts c =
    let found = got c.counts_of.result NoPlot _ c.ok_or.ensures.value _ c.in_ok-found.was in
    let few = supports-few (whole c.args.s.now) c.args.id _ c.counts_of.ensures _ found c.args.s.now.network_rules in
    omega (arith, length-take c.in_ok-found.found.classes c.in_ok-found.found.counts)

pub write_supports-requires-clause-b_value : goal.write_supports-requires-clause-b_value
write_supports-requires-clause-b_value c =
    let found = got c.counts_of.result NoPlot _ c.ok_or.ensures.value _ c.in_ok-found.was in
    supports-below (whole c.args.s.now) c.args.id _ c.counts_of.ensures _ found c.args.s.now.network_rules

pub returns-in_err-found : goal.returns-in_err-found
returns-in_err-found c =
    let none = missed c.counts_of.result NoPlot _ c.ok_or.ensures.value _ c.in_err-found.was _ c.from_residual.ensures.1 in
    rw none.1 (supports-refused (whole c.args.s.now) c.args.id _ c.counts_of.ensures c.args.out.now none.0)

pub returns : goal.returns
returns c =
    let found = got c.counts_of.result NoPlot _ c.ok_or.ensures.value _ c.in_ok-found.was in
    supports_told (whole c.args.s.now) c.args.id _ c.counts_of.ensures _ found _ _ _ c.write_supports.ensures.next
    c.write_supports.ensures.written

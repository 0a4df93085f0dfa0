-- `performing::set_domain` meets its contract.
use Rattle.semantics.specs.Protocol.{set_domain}
use Rattle.text.specs.Ids.{id_bytes}
use Rattle.network.specs.Sound.{whole}
use Rattle.performing.proofs.Editing.{network_ruled, domain_nowhere, domain_lacks, domain_set}
use Rattle.performing.proofs.Refusing.{missed, got}
use Rattle.refusals.specs.declared.Refusal.TheVariants.{NoPlot}
use Rattle.performing.proofs.set_domain.Goals as goal

pub returns-in_err-i : goal.returns-in_err-i
returns-in_err-i c =
    let none = missed c.find.result NoPlot _ c.ok_or.ensures.value _ c.in_err-i.was _ c.from_residual.ensures.1 in
    rw none.1 (domain_nowhere (whole c.args.s.now) c.args.id c.args.mask c.find.result c.find.ensures none.0)

pub returns-then-lacks_one_of : goal.returns-then-lacks_one_of
returns-then-lacks_one_of c =
    let found = got c.find.result NoPlot _ c.ok_or.ensures.value _ c.in_ok-i.was in
    search domain_lacks

pub invariant_of-s-clause-network_rules : goal.invariant_of-s-clause-network_rules
invariant_of-s-clause-network_rules c =
    let found = got c.find.result NoPlot _ c.ok_or.ensures.value _ c.in_ok-i.was in
    network_ruled c.args.s.now (set_domain (id_bytes c.args.id) c.args.mask) c.requires c.lengths.ensures c.set_domain.new.n
    (search domain_set)

pub returns : goal.returns
returns c =
    let found = got c.find.result NoPlot _ c.ok_or.ensures.value _ c.in_ok-i.was in
    search domain_set

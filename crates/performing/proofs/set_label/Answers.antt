-- `performing::set_label` meets its contract.
use Rattle.semantics.specs.Protocol.{set_label}
use Rattle.text.specs.Ids.{id_bytes}
use Rattle.stored.specs.Values.{as_label}
use Rattle.network.specs.Sound.{whole}
use Rattle.performing.proofs.Editing.{network_ruled, label_short, label_nowhere, label_lacks, label_set}
use Rattle.performing.proofs.Refusing.{missed, got}
use Rattle.refusals.specs.declared.Refusal.TheVariants.{NoPlot}
use Rattle.performing.proofs.set_label.Goals as goal

pub returns-in_err-i : goal.returns-in_err-i
returns-in_err-i c =
    let none = missed c.find.result NoPlot _ c.ok_or.ensures.value _ c.in_err-i.was _ c.from_residual.ensures.1 in
    rw none.1 (label_nowhere (whole c.args.s.now) c.args.id c.args.label c.find.result c.find.ensures none.0)

pub label_byte-requires : goal.label_byte-requires
label_byte-requires c =
    let found = got c.find.result NoPlot _ c.ok_or.ensures.value _ c.in_ok-i.was in
    label_short (whole c.args.s.now) c.args.id c.args.label c.find.result c.find.ensures _ c.classes_at.result c.lacks.result
    found c.classes_at.ensures c.lacks.ensures c.args.s.now.network_rules c.if-lacks.false

pub returns-then-lacks : goal.returns-then-lacks
returns-then-lacks c =
    let found = got c.find.result NoPlot _ c.ok_or.ensures.value _ c.in_ok-i.was in
    search label_lacks

pub invariant_of-s-clause-network_rules : goal.invariant_of-s-clause-network_rules
invariant_of-s-clause-network_rules c =
    let found = got c.find.result NoPlot _ c.ok_or.ensures.value _ c.in_ok-i.was in
    network_ruled c.args.s.now (set_label (id_bytes c.args.id) (as_label c.args.label)) c.requires c.lengths.ensures c.set_label.new.n
    (search label_set)

pub returns : goal.returns
returns c =
    let found = got c.find.result NoPlot _ c.ok_or.ensures.value _ c.in_ok-i.was in
    search label_set

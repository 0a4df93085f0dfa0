-- `saving::domain_length` meets its contract: a plot that stands is within the arrays, and has no more classes than a plot may have.
use Rattle.std.proofs.Common.{arith}
use Rattle.network.proofs.Reach.{few-classes}
use Rattle.saving.proofs.Stands.{plot_within}
use Rattle.saving.proofs.domain_length.Goals as goal

pub domain_at-mask-requires : goal.domain_at-mask-requires
domain_at-mask-requires c = search plot_within

pub classes_at-k-requires : goal.classes_at-k-requires
classes_at-k-requires c = search plot_within

pub id_at-requires : goal.id_at-requires
id_at-requires c = search plot_within

pub all_classes-requires : goal.all_classes-requires
all_classes-requires c =
    let n = c.args.s.now.network in
    omega (arith, few-classes n c.args.s.now.network_rules c.args.i _ c.requires c.classes_at-k.ensures)

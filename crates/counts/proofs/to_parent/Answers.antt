-- `counts::to_parent` meets its contract. The invariant: the sums are those over the first c classes, each small enough for the others.
use Rattle.std.proofs.Common.{◌≤◌, arith}
use Rattle.semantics.specs.Limits.{max_classes}
use Rattle.messages.proofs.Filling.{replicate_any}
use Rattle.counts.proofs.Sums.{up_start, up_turn, up_end}
use Rattle.counts.proofs.to_parent.Goals as goal

pub loop-c-init : goal.loop-c-init
loop-c-init c = (
  up_start c.args.counts c.args.columns,
  λ b. replicate_any (λ x. x ≤ 0) 0 0 max_classes b (omega arith) (omega arith),
)

pub loop-c-preserved : goal.loop-c-preserved
loop-c-preserved c = (
  up_turn c.args.counts c.args.columns c.loop-c.c c.loop-c.sums _ c.loop-c.invariant.0 c.add_class-more.ensures.value,
  λ b. omega (arith, c.loop-c.invariant.1 b, c.add_class-more.ensures.by_index_2 b),
)

pub returns : goal.returns
returns c = search up_end

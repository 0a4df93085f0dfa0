-- `counts::to_child` meets its contract: the contribution to each class of the child.
use Rattle.std.proofs.Common.{rules}
use Rattle.semantics.specs.Limits.{max_classes}
use Rattle.semantics.specs.Solutions.{held}
use Rattle.messages.specs.Columns.{in_columns}
use Rattle.messages.proofs.Made.{row_made}
use Rattle.counts.specs.HeldRows.{added, down_through}
use Rattle.counts.proofs.to_child.Goals as goal

pub returns : goal.returns
unfolding down_through
returns c =
    row_made (λ d. held (added c.args.counts (λ b. in_columns c.args.columns b d) max_classes)) 0 _ _ (λ d x next l call. search rules)
    c.from_fn.ensures.items

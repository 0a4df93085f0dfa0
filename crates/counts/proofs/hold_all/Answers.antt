-- `counts::hold_all` meets its contract: each sum held.
use Rattle.std.proofs.Common.{get_or, rules}
use Rattle.semantics.specs.Solutions.{held}
use Rattle.messages.proofs.Made.{row_made}
use Rattle.counts.specs.HeldRows.{held_all}
use Rattle.counts.proofs.hold_all.Goals as goal

pub returns : goal.returns
unfolding held_all
returns c = row_made (λ b. held (get_or c.args.sums b 0)) 0 _ _ (λ b x next l call. search rules) c.from_fn.ensures.items

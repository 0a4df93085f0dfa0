-- `relabel::fold` meets its contract: the sum for each class.
use Rattle.std.proofs.Common.{get_or, ◌/◌, rules}
use Rattle.messages.proofs.Made.{row_made}
use Rattle.relabel.specs.Costs.{together}
use Rattle.relabel.specs.Keys.{ranks, folded_offer}
use Rattle.relabel.proofs.fold.Goals as goal

pub returns : goal.returns
unfolding folded_offer
returns c = row_made (λ d. together (get_or c.args.row d 0) (get_or c.args.offer d 0 / ranks)) 0 _ _ (λ i x next l call. search rules) c.from_fn.ensures.items

-- `relabel::own_row` meets its contract: the cost of each class.
use Rattle.std.proofs.Common.{rules}
use Rattle.messages.proofs.Made.{row_made}
use Rattle.stored.specs.Values.{as_label}
use Rattle.relabel.specs.Costs.{own_cost, own_costs}
use Rattle.relabel.proofs.own_row.Goals as goal

pub returns : goal.returns
unfolding own_costs
returns c = row_made (own_cost c.args.domain (as_label c.args.label)) 0 _ _ (λ i x next l call. search rules) c.from_fn.ensures.items

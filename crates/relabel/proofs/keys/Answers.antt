-- `relabel::keys` meets its contract: the key of each class.
use Rattle.std.proofs.Common.{get_or, rules}
use Rattle.messages.proofs.Made.{row_made}
use Rattle.stored.specs.Values.{as_label}
use Rattle.relabel.specs.Keys.{key_in, key_row}
use Rattle.relabel.proofs.keys.Goals as goal

pub returns : goal.returns
unfolding key_row
returns c = row_made (λ d. key_in (as_label c.args.label) (get_or c.args.row d 0) d) 0 _ _ (λ i x next l call. search rules) c.from_fn.ensures.items

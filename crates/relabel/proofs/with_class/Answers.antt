-- `relabel::with_class` meets its contract: the lesser key beside each class of the parent.
use Rattle.std.proofs.Common.{get_or, min, bit_or, rules}
use Rattle.messages.proofs.Made.{row_made}
use Rattle.relabel.specs.Keys.{lowered}
use Rattle.relabel.proofs.with_class.Goals as goal

pub returns : goal.returns
unfolding lowered
returns c = row_made (λ b. min (get_or c.args.offer b 0) (bit_or c.args.key (get_or c.args.bars b 0))) 0 _ _ (λ i x next l call. search rules) c.from_fn.ensures.items

-- `relabel::bars_of` meets its contract: the bar of each bit.
use Rattle.std.proofs.Common.{get_or, rules}
use Rattle.messages.proofs.Made.{row_made}
use Rattle.relabel.specs.Keys.{bar_of, bars_of}
use Rattle.relabel.proofs.bars_of.Goals as goal

pub returns : goal.returns
unfolding bars_of
returns c = row_made (λ b. bar_of (get_or c.args.column b 0)) 0 _ _ (λ b x next l call. search rules) c.from_fn.ensures.items

-- `counts::product` meets its contract: each product.
use Rattle.std.proofs.Common.{ℕ, List, ◌∙◌, sym, get_or, arith, rules}
use Rattle.semantics.specs.Limits.{max_classes}
use Rattle.semantics.specs.Messages.{held_times}
use Rattle.messages.proofs.Filling.{fill_done}
use Rattle.messages.proofs.Made.{row_made}
use Rattle.counts.specs.HeldRows.{products}
use Rattle.counts.proofs.product.Goals as goal

abbrev each : List ℕ → List ℕ → ℕ → ℕ
each a b c = held_times (get_or a c 0) (get_or b c 0)

pub returns : goal.returns
unfolding products
returns c =
    row_made (each c.args.a c.args.b) 0 _ _ (λ d x next l call. search rules) c.from_fn.ensures.items
    ∙ sym (fill_done 0 max_classes (each c.args.a c.args.b) max_classes (omega arith))

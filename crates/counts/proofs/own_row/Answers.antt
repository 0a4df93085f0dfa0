-- `counts::own_row` meets its contract: for each class whether it is in the domain and agrees with the label, as a number.
use Rattle.std.proofs.Common.{◌≡◌, Bool, true, false, cond, ◌&&◌, refl, rules}
use Rattle.std.specs.Int.{from_bool}
use Rattle.semantics.specs.Network.{allows}
use Rattle.semantics.specs.Solutions.{agrees}
use Rattle.stored.specs.Values.{as_label}
use Rattle.messages.proofs.Made.{row_made}
use Rattle.counts.specs.HeldRows.{own_counts}
use Rattle.counts.proofs.own_row.Goals as goal

as_number : (t : Bool) → from_bool t ≡ cond t 1 0
as_number true = refl
as_number false = refl

pub returns : goal.returns
unfolding own_counts
returns c =
    row_made (λ d. cond (allows c.args.domain d && agrees (as_label c.args.label) d) 1 0) 0 _ _ (λ d x next l call. search (rules, as_number))
    c.from_fn.ensures.items

-- An offer, class by class.
use Rattle.std.proofs.Common.{◌≡◌, refl, List, [], ℕ, ◌+◌, min, add-one, bit_or, get_or, replicate}
use Rattle.semantics.specs.Basics.{below, row_of}
use Rattle.semantics.specs.Limits.{max_classes}
use Rattle.messages.specs.Columns.{in_columns}
use Rattle.messages.proofs.Classes.{class_turn}
use Rattle.relabel.specs.Keys.{bar_number, least_key, offered, lowered}
use Rattle.relabel.proofs.LeastKey.{least_more}

module _ (keys : List ℕ) (bars : List (List ℕ)) where
  -- the least of the first c keys beside each class of the parent
  unfoldable pub offered_to : ℕ → List ℕ
  offered_to c = row_of max_classes (λ b. least_key keys bars b c)

  -- nothing at first
  pub none-offered : replicate max_classes bar_number ≡ offered_to 0
  unfolding offered_to
  none-offered = refl

  -- one class more lowers it beside all classes of the parent
  more : (b c : ℕ) → least_key keys bars b (c + 1) ≡ min (least_key keys bars b c) (bit_or (get_or keys c 0) (in_columns bars b c))
  more b c = rw add-one (least_more bar_number (λ d. bit_or (get_or keys d 0) (in_columns bars b d)) (below c) c)

  pub offer_turn : (c : ℕ) (offer next : List ℕ) → offer ≡ offered_to c → next ≡ lowered offer (get_or keys c 0) (get_or bars c [])
      → next ≡ offered_to (c + 1)
  unfolding offered_to lowered
  offer_turn = class_turn (λ least key bar. min least (bit_or key bar)) (least_key keys bars) keys bars more

  -- all of them
  pub all-offered : offered_to max_classes ≡ offered keys bars
  unfolding offered_to offered
  all-offered = refl

-- What a plot contributes: counts times bits, added up and held once. It is what equation 2 says, and what sums give that test each bit.
use Rattle.std.proofs.Common.{◌≡◌, refl, sym, ap, ap₂, ◌∙◌, Bool, true, false, cond, List, [], ◌∷◌, ℕ, zero, suc, ◌+◌, ◌*◌, ◌/◌, ◌%◌, ◌^◌}
use Rattle.std.proofs.Common.{◌≤◌, ◌<◌, add-one, arith, get_or, replicate, eqb, eqb-true}
use borrow.Author.Tests.{eqb-false}
use Rattle.semantics.specs.Basics.{below, row_of}
use Rattle.semantics.specs.Limits.{max_classes, max_count}
use Rattle.semantics.specs.Network.{allows}
use Rattle.semantics.specs.Solutions.{held}
use Rattle.semantics.specs.Messages.{held_contribution}
use Rattle.semantics.proofs.Lists.{in_below}
use Rattle.semantics.proofs.Sums.{sum-append}
use Rattle.semantics.proofs.Held.{held_add, held_small, held_bit}
use Rattle.semantics.proofs.Weights.{gate}
use Rattle.semantics.proofs.Rows.{row_cong, row-over}
use Rattle.semantics.proofs.Counting.{numbers}
use Rattle.semantics.proofs.Supports.{held-sum}
use Rattle.stored.specs.Values.{table_at}
use Rattle.stored.proofs.Masks.{bit_allows}
use Rattle.messages.specs.Columns.{in_columns}
use Rattle.messages.proofs.Filling.{at-end}
use Rattle.messages.proofs.Classes.{class_turn}
use Rattle.counts.specs.HeldRows.{counts_up, counts_down, spread_table, BitColumns, added, with_class, held_all, up_through, down_through}
use Rattle.counts.specs.HeldRows.{tested}
use Rattle.counts.proofs.Spread.{spread_bit}

module _ (counts : List ℕ) (bit : ℕ → ℕ) where
  -- no class at first
  pub none-added : 0 ≡ added counts bit 0
  unfolding added
  none-added = refl

  -- one class more adds its count times its bit
  pub added_more : (k : ℕ) → added counts bit (k + 1) ≡ added counts bit k + get_or counts k 0 * bit k
  unfolding added
  added_more k = rw (add-one, sum-append (λ c. get_or counts c 0 * bit c) (below k) (k ∷ [])) (omega arith)

  -- Held once, at the end, it is the contribution of equation 2, which is held at each addition.
  pub added_once : (k : ℕ) (beside : ℕ → Bool) → ((c : ℕ) → c < k → bit c ≡ gate numbers (beside c))
      → held (added counts bit k) ≡ held_contribution counts k beside
  unfolding added
  added_once k beside h =
      sym (held-sum _ (λ c. get_or counts c 0 * bit c) (below k) (λ c i. ap (λ x. held (get_or counts c 0 * x)) (sym (h c (in_below k i)))))

  -- Of counts that are held it is also the sum that tests each bit and is held at each addition.
  pub added-tested : ((c : ℕ) → get_or counts c 0 ≤ max_count) → ((c : ℕ) → bit c < 2) → (k : ℕ)
      → held (added counts bit k) ≡ tested counts (λ c. eqb (bit c) 1) k
  added-tested small bits zero = ap held (sym none-added)
  added-tested small bits (suc k) =
      ap held (rw (← add-one k) (added_more k))
      ∙ held_add (added counts bit k) (get_or counts k 0 * bit k)
      ∙ ap (λ x. held (held (added counts bit k) + x)) (term (eqb (bit k) 1) refl)
      ∙ held_bit (added counts bit k) (get_or counts k 0) (eqb (bit k) 1)
      ∙ ap₂ (λ x y. cond (eqb (bit k) 1) (held (x + y)) x) (added-tested small bits k) (held_small (get_or counts k 0) (small k))
    where
      term : (t : Bool) → eqb (bit k) 1 ≡ t → held (get_or counts k 0 * bit k) ≡ held (get_or counts k 0) * cond t 1 0
      term true e = rw (eqb-true (bit k) 1 e) (omega arith)
      term false e = let z : bit k ≡ 0 = omega (arith, bits k, eqb-false (bit k) 1 e) in rw z (omega arith)

-- The sums for all classes of the parent, class by class of the child: none at first, then one more with each turn of a loop, at last all
-- held.
module _ (counts : List ℕ) (columns : List (List ℕ)) where
  unfoldable pub sums_up : ℕ → List ℕ
  sums_up k = row_of max_classes (λ b. added counts (in_columns columns b) k)

  pub up_start : replicate max_classes 0 ≡ sums_up 0
  unfolding sums_up added
  up_start = refl

  pub up_turn : (k : ℕ) (sums next : List ℕ) → sums ≡ sums_up k → next ≡ with_class sums (get_or counts k 0) (get_or columns k [])
      → next ≡ sums_up (k + 1)
  unfolding sums_up with_class
  up_turn =
      class_turn (λ sum count bit. sum + count * bit) (λ b. added counts (in_columns columns b)) counts columns
      (λ b. added_more counts (in_columns columns b))

  all_held : held_all (sums_up max_classes) ≡ up_through counts columns
  unfolding sums_up held_all up_through
  all_held = row-over max_classes (λ b. held) (λ b. added counts (in_columns columns b) max_classes) 0

  pub up_end : (k : ℕ) (sums r : List ℕ) → k ≤ max_classes → max_classes ≤ k → sums ≡ sums_up k → r ≡ held_all sums
      → r ≡ up_through counts columns
  up_end k sums r h l e q = q ∙ ap held_all (at-end sums_up k max_classes sums h l e) ∙ all_held

-- the bit of a class, 0 or 1, is what its count is multiplied by in equation 2
bit_gate : (mask c : ℕ) → mask / 2 ^ c % 2 ≡ gate numbers (allows mask c)
bit_gate mask c = bit_allows mask c ∙ go (allows mask c)
  where
    go : (b : Bool) → cond b 1 0 ≡ gate numbers b
    go true = refl
    go false = refl

-- Through a spread table a child contributes to each class of its parent, and a parent to each class of its child, what equation 2 says.
module _ (counts rows : List ℕ) (table : ℕ) where
  table_bit : (b c : ℕ) → b < max_classes → c < max_classes
      → in_columns (spread_table rows table) b c ≡ gate numbers (allows (get_or (table_at rows table) b 0) c)
  table_bit b c l k = spread_bit rows table b c l k ∙ bit_gate (get_or (table_at rows table) b 0) c

  pub through_up : up_through counts (spread_table rows table) ≡ counts_up counts rows table max_classes
  unfolding up_through counts_up
  through_up =
      row_cong max_classes _ _
      (λ b l. added_once counts (in_columns (spread_table rows table) b) max_classes (allows (get_or (table_at rows table) b 0))
      (λ c k. table_bit b c l k))

  pub through_down : down_through counts (spread_table rows table) ≡ counts_down counts rows table
  unfolding down_through counts_down
  through_down =
      row_cong max_classes _ _
      (λ c k.
      added_once counts (λ b. in_columns (spread_table rows table) b c) max_classes (λ b. allows (get_or (table_at rows table) b 0) c)
      (λ b l. table_bit b c l k))

-- Of counts that are held, both are what sums give that test each bit.
module _ (counts : List ℕ) (columns : List (List ℕ)) (small : (c : ℕ) → get_or counts c 0 ≤ max_count) (bits : BitColumns columns) where
  pub up_tested : up_through counts columns ≡ row_of max_classes (λ b. tested counts (λ c. eqb (in_columns columns b c) 1) max_classes)
  unfolding up_through
  up_tested = row_cong max_classes _ _ (λ b l. added-tested counts (in_columns columns b) small (λ c. bits c b) max_classes)

  pub down_tested : down_through counts columns ≡ row_of max_classes (λ c. tested counts (λ b. eqb (in_columns columns b c) 1) max_classes)
  unfolding down_through
  down_tested = row_cong max_classes _ _ (λ c l. added-tested counts (λ b. in_columns columns b c) small (λ b. bits c b) max_classes)

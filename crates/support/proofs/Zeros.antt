-- Counts are zero past a plot's classes, so sums and products over all eight classes are those over the plot's own.
use Rattle.std.proofs.Common.{◌≡◌, refl, sym, ap, ◌∙◌, Bool, true, false, cond, ◌&&◌, List, [], ◌∷◌, ℕ, suc, ◌*◌, ◌<◌, ◌≤◌, arith, get_or}
use Rattle.std.proofs.Common.{ltb, ltb-false}
use Rattle.semantics.specs.Basics.{below}
use Rattle.semantics.specs.Limits.{max_classes}
use Rattle.semantics.specs.Network.{allows}
use Rattle.semantics.specs.Solutions.{held, agrees}
use Rattle.semantics.specs.Rules.{network_holds}
use Rattle.semantics.specs.Messages.{held_times, held_contribution}
use Rattle.semantics.proofs.Sums.{sum-append}
use Rattle.semantics.proofs.Rows.{row_cong, row_any}
use Rattle.semantics.proofs.Weights.{gate}
use Rattle.semantics.proofs.Counting.{numbers}
use Rattle.semantics.proofs.Supports.{held-sum}
use Rattle.network.specs.declared.Network.{Network}
use Rattle.network.specs.View.{view}
use Rattle.network.proofs.Standing.{rules-at}
use Rattle.stored.specs.Values.{table_at, classes_at, domain_at, label_at}
use Rattle.messages.specs.Rows.{filled, own_rows, Past}
use Rattle.messages.specs.Pass.{gathered}
use Rattle.messages.proofs.Filling.{fill_done, filled_upto}
use Rattle.messages.proofs.Past.{steady, no_class, past_gathered}
use Rattle.counts.specs.HeldRows.{counts_up, products, own_counts}
use Rattle.support.specs.Paths.{folded_counts}

module _ (row : List ℕ) (k : ℕ) (z : (c : ℕ) → k ≤ c → c < max_classes → get_or row c 0 ≡ 0) where
  -- classes past the plot's add nothing
  module _ (beside : ℕ → Bool) where
    abbrev term : ℕ → ℕ
    term c = get_or row c 0 * gate numbers (beside c)

    one_less : (m : ℕ) → k ≤ m → m < max_classes → held_contribution row (suc m) beside ≡ held_contribution row m beside
    one_less m l h =
        held-sum _ term (below (suc m)) (λ c i. refl)
        ∙ ap held (sum-append term (below m) (m ∷ []) ∙ rw (z m l h) (omega arith))
        ∙ sym (held-sum _ term (below m) (λ c i. refl))

  -- so a message over all eight classes is that over the plot's
  pub to_parent_past : (rows : List ℕ) (table : ℕ) → k ≤ max_classes → counts_up row rows table max_classes ≡ counts_up row rows table k
  unfolding counts_up
  to_parent_past rows table l =
      row_cong max_classes _ _
      (λ b i. let beside = allows (get_or (table_at rows table) b 0) in steady (λ m. held_contribution row m beside) k (one_less beside) l)

-- a count of zero stays zero when a message is multiplied in
module _ (a b : List ℕ) where
  abbrev both : ℕ → ℕ
  both c = held_times (get_or a c 0) (get_or b c 0)

  filled_zero : (m c : ℕ) → get_or a c 0 ≡ 0 → get_or (filled 0 m both m) c 0 ≡ 0
  filled_zero m c z = rw (fill_done 0 m both m (omega arith)) (row_any (λ x. x ≡ 0) 0 m both c refl (rw z (omega arith)))

  products-zero : (c : ℕ) → get_or a c 0 ≡ 0 → get_or (products a b max_classes) c 0 ≡ 0
  unfolding products
  products-zero = filled_zero max_classes

  -- so products with counts that are zero past k are those of the first k
  filled_past : (k m : ℕ) → ((c : ℕ) → k ≤ c → c < m → get_or a c 0 ≡ 0) → k ≤ m → filled 0 m both m ≡ filled 0 m both k
  filled_past k m z l = fill_done 0 m both m (omega arith) ∙ row_cong m _ _ (λ c i. go c i (ltb c k) refl) ∙ sym (filled_upto 0 m both k l)
    where
      go : (c : ℕ) → c < m → (t : Bool) → ltb c k ≡ t → both c ≡ cond t (both c) 0
      go c i true e = refl
      go c i false e = rw (z c (ltb-false c k e) i) (omega arith)

  pub products_past : (k : ℕ) → ((c : ℕ) → k ≤ c → c < max_classes → get_or a c 0 ≡ 0) → k ≤ max_classes
      → products a b max_classes ≡ products a b k
  unfolding products
  products_past k = filled_past k max_classes

-- A plot's own counts are zero outside its domain, which has no class past the plot's, and stay zero when messages are multiplied in. So at
-- the end of the pass up there are zeros past each plot's classes.
pub zeros_past : (n : Network) → network_holds (view n) ≡ true → (path : List Bool)
    → Past 0 n (gathered folded_counts counts_up n path n.plots (own_rows own_counts n))
unfolding own_counts
zeros_past n h path =
    past_gathered 0 n own_counts folded_counts counts_up path none (λ mine told c k. products-zero mine told c)
  where
    none : (i : ℕ) → i < n.plots → (c : ℕ) → classes_at n.classes i ≤ c → c < max_classes
        → get_or (own_counts (domain_at n.domains i) (label_at n.labels i)) c 0 ≡ 0
    none i l c p k =
        row_any (λ x. x ≡ 0) 0 max_classes (λ d. cond (allows (domain_at n.domains i) d && agrees (label_at n.labels i) d) 1 0) c refl
        (rw (no_class (domain_at n.domains i) (classes_at n.classes i) c (rules-at n h i l).own_classes p))

-- Rows by position, read newest first: as the laws of the definitions have them.
use Rattle.std.proofs.Common.{◌≡◌, refl, sym, ap, ap₂, ◌∙◌, cond, List, [], ◌∷◌, map, ℕ, zero, suc, ◌<◌, ◌≤◌, not-suc-le-zero, arith}
use Rattle.std.proofs.Common.{length, get_or, set, eqb, get_or-set_same, get_or-set_other, eq-eqb, ne_eqb}
use native.Mathlib.Decide.{ℕ_discrete}
use Rattle.semantics.specs.Basics.{row_of}
use Rattle.semantics.specs.Network.{Plot}
use Rattle.semantics.proofs.Rows.{folded_rows}
use Rattle.network.specs.declared.Network.{Network}
use Rattle.network.specs.View.{plot_at, plots_of}
use Rattle.messages.specs.Rows.{filled, newest_first}
use Rattle.messages.proofs.Filling.{get_or-filled}

module _ {A B : Type 0} (read : List A → List B) where
  abbrev newest : List (List A) → ℕ → List (List B)
  newest = newest_first read

  length_newest : (rows : List (List A)) (j : ℕ) → length (newest rows j) ≡ j
  length_newest rows zero = refl
  length_newest rows (suc j) = ap suc (length_newest rows j)

  -- rows that agree on the first positions are the same there
  newest_same : (rows other : List (List A)) (j : ℕ) → ((i : ℕ) → i < j → get_or other i [] ≡ get_or rows i []) → newest other j ≡ newest rows j
  newest_same rows other zero h = refl
  newest_same rows other (suc j) h = ap₂ ◌∷◌ (ap read (h j (omega arith))) (newest_same rows other j (λ i l. h i (omega arith)))

  -- the row of a position changed to what it is once a message is folded into it
  pub newest_folded : (times : B → B → B) (z : B) (m q : ℕ) (message : ℕ → B) (rows : List (List A)) (row : List A)
      → read row ≡ row_of m (λ c. times (get_or (read (get_or rows q [])) c z) (message c)) → (j : ℕ) → q < j → j ≤ length rows
      → newest (set rows q row) j ≡ folded_rows times z m q message (newest rows j)
  newest_folded times z m q message rows row e zero l h = absurd (not-suc-le-zero l)
  newest_folded times z m q message rows row e (suc j) l h =
      rw (length_newest rows j) (elim (ℕ_discrete q j) [ yes p ↦ here p | no d ↦ below d (newest_folded times z m q message rows row e j) ])
    where
      Goal : Type 0
      Goal =
          newest (set rows q row) (suc j)
          ≡ cond (eqb q j) (row_of m (λ c. times (get_or (read (get_or rows j [])) c z) (message c)) ∷ newest rows j)
          (read (get_or rows j []) ∷ folded_rows times z m q message (newest rows j))

      here : q ≡ j → Goal
      here p =
          rw (eq-eqb q j p, ← p)
          (ap₂ ◌∷◌ (ap read (get_or-set_same rows q row [] (omega arith)) ∙ e)
          (newest_same rows (set rows q row) q (λ i k. get_or-set_other rows q i row [] (λ g. omega arith))))

      below : (q ≡ j → ⊥) → (q < j → j ≤ length rows → newest (set rows q row) j ≡ folded_rows times z m q message (newest rows j)) → Goal
      below d ih =
          rw (ne_eqb q j d) (ap₂ ◌∷◌ (ap read (get_or-set_other rows q j row [] (λ g. d (sym g)))) (ih (omega arith) (omega arith)))

  -- rows that were filled in by position, for plots that have them
  pub newest_filled : (n : Network) (z : List A) (m : ℕ) (f : ℕ → List A) (own : Plot → List B) → ((i : ℕ) → read (f i) ≡ own (plot_at n i))
      → (k j : ℕ) → j ≤ k → newest (filled z m f k) j ≡ map own (plots_of n j)
  newest_filled n z m f own e k zero l = refl
  newest_filled n z m f own e k (suc j) l =
      ap₂ ◌∷◌ (ap read (get_or-filled z m f [] k j l) ∙ e j) (newest_filled n z m f own e k j (omega arith))

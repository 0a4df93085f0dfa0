-- Rows with one value past the classes of each plot, and that what is made of a row over all eight classes is then often what is made of it
-- over the plot's own.
use Rattle.std.proofs.Common.{◌≡◌, sym, ap, ◌∙◌, Bool, false, List, ⊎_elim, ℕ, zero, suc, ◌^◌, ◌<◌, ◌≤◌, eq-or-lt_of_le, le_of_suc-le-suc}
use Rattle.std.proofs.Common.{lt_of_lt_of_le, arith, get_or}
use native.Mathlib.Nat.{div-eq_of_lt, pow-le-pow_right}
use Rattle.semantics.specs.Limits.{max_classes}
use Rattle.semantics.specs.Network.{Label, allows}
use Rattle.network.specs.declared.Network.{Network}
use Rattle.stored.specs.Values.{classes_at, domain_at, label_at}
use Rattle.messages.specs.Rows.{own_rows, Past}
use Rattle.messages.specs.Pass.{gathered}
use Rattle.messages.proofs.Each.{each-gathered}

-- what each class from k on leaves as it was is the same over m classes as over k
steady_to {ℓ} : {A : Type ℓ} (F : ℕ → A) (k m : ℕ) → ((i : ℕ) → k ≤ i → i < m → F (suc i) ≡ F i) → k ≤ m → F m ≡ F k
steady_to F k zero s h = let e : 0 ≡ k = omega arith in ap F e
steady_to F k (suc m) s h =
    ⊎_elim (λ (e : k ≡ suc m). ap F (sym e))
    (λ (l : k < suc m). s m (le_of_suc-le-suc l) (omega arith) ∙ steady_to F k m (λ i a b. s i a (omega arith)) (le_of_suc-le-suc l))
    (eq-or-lt_of_le {n = k} {m = suc m} h)

-- What each class past k leaves as it was is the same over all eight classes as over k.
pub steady {ℓ} : {A : Type ℓ} (F : ℕ → A) (k : ℕ) → ((m : ℕ) → k ≤ m → m < max_classes → F (suc m) ≡ F m) → k ≤ max_classes
    → F max_classes ≡ F k
steady F k = steady_to F k max_classes

-- a domain has no class past the plot's
pub no_class : (mask k c : ℕ) → mask < 2 ^ k → k ≤ c → allows mask c ≡ false
no_class mask k c l h = rw (div-eq_of_lt (lt_of_lt_of_le l (pow-le-pow_right {n = 2} (omega arith) h)))

-- rows with one value past each plot's classes
module _ (z : ℕ) (n : Network) where
  -- the row of the plot at a position has it
  abbrev HasPast : ℕ → List ℕ → Type 0
  HasPast i row = (c : ℕ) → classes_at n.classes i ≤ c → c < max_classes → get_or row c 0 ≡ z

  -- Once the pass is done all rows have it, where each plot's own row does and folding keeps it.
  pub past_gathered : (own : ℕ → Label → List ℕ) (fold : List ℕ → List ℕ → List ℕ) (message : List ℕ → List ℕ → ℕ → ℕ → List ℕ)
      (standing : List Bool)
      → ((i : ℕ) → i < n.plots → HasPast i (own (domain_at n.domains i) (label_at n.labels i)))
      → ((mine told : List ℕ) (c : ℕ) → c < max_classes → get_or mine c 0 ≡ z → get_or (fold mine told) c 0 ≡ z)
      → Past z n (gathered fold message n standing n.plots (own_rows own n))
  past_gathered own fold message standing has keeps =
      record { at = each-gathered HasPast n own fold message standing has (λ i mine told h c p k. keeps mine told c k (h c p k)) }

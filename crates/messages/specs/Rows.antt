-- Rows of values as a program keeps them, by class and by position.
use Rattle.std.specs.Prelude.{◌≡◌, Option, List, [], ◌∷◌, ◌++◌, map, ℕ, zero, suc, ◌-◌, ◌≤◌, ◌<◌, get_or, drop, replicate}
use Rattle.semantics.specs.Basics.{below}
use Rattle.semantics.specs.Limits.{max_classes, max_plots}
use Rattle.semantics.specs.Network.{Label}
use Rattle.network.specs.declared.Network.{Network}
use Rattle.stored.specs.Values.{as_label, classes_at, domain_at, label_at}

module _ {ℓ} {A : Type ℓ} where
  -- m values: the first k of them those of f, the rest z
  abbrev pub filled : A → ℕ → (ℕ → A) → ℕ → List A
  filled z m f k = map f (below k) ++ replicate (m - k) z

-- the rows of the first j positions, newest first, each as it is read
abbrev pub newest_first : {A B : Type 0} → (List A → List B) → List (List A) → ℕ → List (List B)
newest_first read rows zero = []
newest_first read rows (suc j) = read (get_or rows j []) ∷ newest_first read rows j

-- the own rows of a network's plots, each made of the plot's domain and label: what the messages start from
unfoldable pub own_rows : (ℕ → Label → List ℕ) → Network → List (List ℕ)
own_rows own n = filled (replicate max_classes 0) max_plots (λ i. own (domain_at n.domains i) (label_at n.labels i)) n.plots

-- rows of which calls of a plot's domain and label make those of the first i plots, and of which the others are as they were before: those
-- of any function whose values the calls give
pub record MadeBy {A : Type 0} (gives : ℕ → Option ℕ → List A → Type 0) (n : Network) (i : ℕ) (before rows : List (List A)) : Type 0 where
  pub made : (row : ℕ → Label → List A) → ((domain : ℕ) (label : Option ℕ) (r : List A) → gives domain label r → r ≡ row domain (as_label label))
      → rows ≡ map (λ j. row (domain_at n.domains j) (label_at n.labels j)) (below i) ++ drop i before

-- rows by position that have one value, z, for each class past those of the plot
pub record Past (z : ℕ) (n : Network) (rows : List (List ℕ)) : Type 0 where
  pub at : (j : ℕ) → j < n.plots → (c : ℕ) → classes_at n.classes j ≤ c → c < max_classes → get_or (get_or rows j []) c 0 ≡ z

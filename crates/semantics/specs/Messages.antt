-- What the messages of counts (004: equations 2 and 4) and of costs (equation 5) are written with: held sums and products, and costs of
-- which some can't be had. No contract of the engine names them. Those of the layers below it do, and the laws say what they come to.
use Rattle.std.specs.Prelude.{Bool, cond, List, [], ◌∷◌, ℕ, ◌+◌, ◌*◌, get_or}
use Rattle.semantics.specs.Basics.{below}
use Rattle.semantics.specs.Solutions.{held}
use Rattle.semantics.specs.Relabelling.{Best, none, best, better}

-- a sum and a product, held
abbrev pub held_plus : ℕ → ℕ → ℕ
held_plus a b = held (a + b)

abbrev pub held_times : ℕ → ℕ → ℕ
held_times a b = held (a * b)

-- a sum over a list, held at each addition
abbrev pub held_sum {ℓ} : {A : Type ℓ} → (A → ℕ) → List A → ℕ
held_sum f [] = 0
held_sum f (x ∷ xs) = held_plus (f x) (held_sum f xs)

-- equation 2 over a row of counts: those of the first k classes that pass a test, added up
abbrev pub held_contribution : List ℕ → ℕ → (ℕ → Bool) → ℕ
held_contribution r k beside = held_sum (λ y. held_times (get_or r y 0) (cond (beside y) 1 0)) (below k)

-- a cost, or that the choice is not allowed
pub data Cost : Type 0 where
  never : Cost
  some : ℕ → Cost

-- two costs together
abbrev pub plus : Cost → Cost → Cost
plus never c = never
plus (some m) never = never
plus (some m) (some n) = some (m + n)

module _ {ℓ} {A : Type ℓ} where
  -- a choice at its cost
  abbrev pub at_cost : Cost → A → Best A
  at_cost never x = none
  at_cost (some m) x = best m x

  -- the first of least cost among those that are allowed
  abbrev pub least : (A → Cost) → List A → Best A
  least f [] = none
  least f (x ∷ xs) = better (at_cost (f x) x) (least f xs)

-- what the best costs, and which it is; 0 where there is none
abbrev pub worth : Best ℕ → Cost
worth none = never
worth (best n c) = some n

abbrev pub chosen : Best ℕ → ℕ
chosen none = 0
chosen (best n c) = c

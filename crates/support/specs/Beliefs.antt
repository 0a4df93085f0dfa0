-- What is believed, as the code says it.
use Rattle.std.specs.Prelude.{Option, Some, None, Bool, true, List, ℕ, ◌≤◌, ◌<◌, get_or, ltb, MatchOption}
use Rattle.semantics.specs.Solutions as model
use Rattle.semantics.specs.Solutions.{nothing, believed}

-- an enum of the code, as the definitions have it
abbrev pub as_belief : Option ℕ → model.Belief
as_belief None = nothing
as_belief (Some c) = believed c

-- and one of the definitions, as the code has it
abbrev pub to_belief : model.Belief → Option ℕ
to_belief nothing = None
to_belief (believed c) = Some c

-- what is believed, if anything, is a class below k
abbrev pub believed_below : ℕ → model.Belief → Bool
believed_below k nothing = true
believed_below k (believed c) = ltb c k

module _ (counts : List ℕ) (k : ℕ) where
  -- no class from one to another has a count but zero
  abbrev pub Zeros : ℕ → ℕ → Type 0
  Zeros a b = (c : ℕ) → a ≤ c → c < b → get_or counts c 0 ≤ 0

  -- the first class of k, at a or past it, whose count isn't zero, if there is one
  abbrev pub First : ℕ → Option ℕ → Type 0
  First a r = MatchOption r (Zeros a k) (λ i. (a ≤ i) × (i < k) × (0 < get_or counts i 0) × Zeros a i)

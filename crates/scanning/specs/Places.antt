-- The place of a byte.
use Rattle.std.specs.Prelude.{Bool, true, false, List, [], ◌∷◌, ℕ, suc, eqb}

-- a place found among the bytes behind, with one byte before them that is the one sought or not
abbrev pub index_after : Bool → ℕ → ℕ
index_after true n = 0
index_after false n = suc n

-- how many bytes stand before the first that is b: all, where none is
abbrev pub index_of : ℕ → List ℕ → ℕ
index_of b [] = 0
index_of b (x ∷ xs) = index_after (eqb x b) (index_of b xs)

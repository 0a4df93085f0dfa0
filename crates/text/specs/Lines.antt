-- The fields of a line from a place on.
use Rattle.std.specs.Prelude.{cond, List, [], ℕ, length, drop, leb}
use Rattle.semantics.specs.Text.{fields}

-- none past the end of the line
abbrev pub fields_from : List ℕ → ℕ → List (List ℕ)
fields_from line from = cond (leb from (length line)) (fields (drop from line)) []

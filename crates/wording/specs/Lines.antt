-- The text of a line with its end, and of the line that gives a plot a value.
use Rattle.std.specs.Prelude.{List, [], ◌∷◌, ◌++◌, ℕ}
use Rattle.semantics.specs.Text.{decimal}

-- a line with the byte 10 that ends it
abbrev pub ended : List ℕ → List ℕ
ended line = line ++ (10 ∷ [])

-- a letter, an id and a number: the S line of a mask (`domain_text`), the L line of a class (`label_text`)
abbrev pub value_text : ℕ → List ℕ → ℕ → List ℕ
value_text letter id value = (letter ∷ 44 ∷ id) ++ (44 ∷ decimal value)

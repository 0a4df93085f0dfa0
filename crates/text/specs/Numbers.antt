-- What the readers of numbers answer.
use Rattle.std.specs.Prelude.{cond, List, [], ◌∷◌, ℕ, ◌+◌, ◌-◌, ◌*◌, Option, None, Some}
use Rattle.semantics.specs.Text as model
use Rattle.semantics.specs.Text.{is_digit, malformed, value}

-- an answer, as the definitions have it
abbrev pub as_number : Option ℕ → model.Number
as_number None = malformed
as_number (Some v) = value v

-- the value of digits that follow a number v: all of them have to be digits
abbrev pub digits_from : ℕ → List ℕ → model.Number
digits_from v [] = value v
digits_from v (b ∷ bs) = cond (is_digit b) (digits_from (v * 10 + (b - 48)) bs) malformed

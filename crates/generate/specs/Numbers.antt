-- A number behind the program's name, in base ten.
use Rattle.std.specs.Prelude.{Result, Ok, Err, cond, List, [], ◌∷◌, ℕ, ◌+◌, ◌-◌, ◌*◌, ◌^◌, eqb, ltb}
use Rattle.semantics.specs.Text.{is_digit}
use Rattle.generate.specs.declared.word.Fault.{Fault}
use Rattle.generate.specs.declared.word.Fault.TheVariants.{Malformed, TooLarge}

-- digits that follow a number v: the first byte that is none tells that it is malformed, and the first digit that makes it larger than 64
-- bits hold that it is too large, whichever comes first
abbrev pub digits_from : ℕ → List ℕ → Result ℕ Fault
digits_from v [] = Ok v
digits_from v (b ∷ bs) =
    cond (is_digit b) (cond (ltb (v * 10 + (b - 48)) (2 ^ 64)) (digits_from (v * 10 + (b - 48)) bs) (Err TooLarge)) (Err Malformed)

-- what a word says: a number, with no leading zero but in 0 itself, as in a line, or why it says none
abbrev pub number_said : List ℕ → Result ℕ Fault
number_said [] = Err Malformed
number_said (b ∷ []) = digits_from 0 (b ∷ [])
number_said (b ∷ c ∷ bs) = cond (eqb b 48) (Err Malformed) (digits_from 0 (b ∷ c ∷ bs))

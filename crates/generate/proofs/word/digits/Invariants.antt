-- `generate::word::digits` meets its contract. The invariant: what is left of the digits, after v, says what the whole says.
use Rattle.std.proofs.Common.{◌≡◌, drop}
use Rattle.generate.specs.Numbers.{digits_from}
use Rattle.generate.proofs.word.digits.Given as goal

abbrev pub invariant-loop-b : goal.invariant-loop-b
invariant-loop-b l = digits_from l.v (drop l.b-index l.word) ≡ digits_from 0 l.word

-- `text::read_digits` meets its contract. The invariant: what is left of the digits, after v, says what the whole says.
use mathlib.Core.Path.{◌≡◌}
use Prim.Native.Nat.{◌<◌, ◌^◌}
use lib.ListN.{drop}
use Rattle.text.specs.Numbers.{digits_from}
use Rattle.text.proofs.read_digits.Given as goal

abbrev pub invariant-loop-b : goal.invariant-loop-b
invariant-loop-b l = (l.v < 10 ^ l.b-index) × (digits_from l.v (drop l.b-index l.s) ≡ digits_from 0 l.s)

-- `saving::length_each` meets its contract. The invariant: the sum is the length of the first texts.
use Rattle.std.proofs.Common.{◌≡◌, ℕ, List, length}
use Rattle.saving.specs.Texts.{up_to, MeasuresEach}
use Rattle.saving.proofs.length_each.Given as goal

abbrev pub invariant-loop-i : goal.invariant-loop-i
invariant-loop-i g l =
    (text : ℕ → List ℕ) → MeasuresEach (goal.F-pre g l.measure) (goal.F-post g l.measure) l.n text → l.sum ≡ length (up_to text l.i)

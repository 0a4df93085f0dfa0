-- `saving::write_each` meets its contract. The invariant: the first texts are written.
use Rattle.std.proofs.Common.{ℕ, List, length}
use Rattle.writing.specs.Pages.{HasRoom, Wrote}
use Rattle.saving.specs.Texts.{up_to, WritesEach}
use Rattle.saving.proofs.write_each.Given as goal

abbrev pub invariant-loop-i : goal.invariant-loop-i
invariant-loop-i g l =
    (text : ℕ → List ℕ) → WritesEach (goal.F-pre g l.write) (goal.F-post g l.write) l.n text
    → HasRoom l.initial.page (length (up_to text l.n))
    → Wrote l.initial.page (up_to text l.i) l.page

-- `wording::write_fields` meets its contract. The invariant: the numbers passed are written.
use Rattle.std.proofs.Common.{take}
use Rattle.semantics.specs.Text.{comma_each}
use Rattle.writing.specs.Pages.{Wrote}
use Rattle.wording.proofs.write_fields.Given as goal

abbrev pub invariant-loop-n : goal.invariant-loop-n
invariant-loop-n l = Wrote l.initial.page (comma_each (take l.n-index l.numbers)) l.page

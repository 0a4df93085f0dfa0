-- `answers::write_changes` meets its contract. The invariant: the lines of the plots passed are written.
use Rattle.std.proofs.Common.{◌+◌, ◌*◌, ◌≤◌}
use Rattle.writing.specs.Pages.{place_of, Wrote}
use Rattle.wording.specs.Room.{line_room}
use Rattle.answers.specs.Changes.{change_lines}
use Rattle.answers.proofs.write_changes.Given as goal

abbrev pub invariant-loop-i : goal.invariant-loop-i
invariant-loop-i l =
    (place_of l.page ≤ place_of l.initial.page + line_room * l.i)
    × Wrote l.initial.page (change_lines l.n.ids l.n.labels l.classes l.i) l.page

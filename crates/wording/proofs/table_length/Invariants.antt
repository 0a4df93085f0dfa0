-- `wording::table_length` meets its contract. The invariant: the sum is the length of the rows passed, each behind a comma, and 2.
use Rattle.std.proofs.Common.{◌≡◌, ◌+◌, ◌*◌, ◌≤◌, length, take}
use Rattle.semantics.specs.Text.{comma_each}
use Rattle.wording.specs.Room.{field_room}
use Rattle.wording.proofs.table_length.Given as goal

abbrev pub invariant-loop-row : goal.invariant-loop-row
invariant-loop-row l = (l.sum ≤ field_room * l.row-index + 2) × (l.sum ≡ length (comma_each (take l.row-index l.rows)) + 2)

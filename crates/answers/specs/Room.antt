-- How many bytes are enough for the end of the input.
use Rattle.std.specs.Prelude.{ℕ, ◌+◌, ◌*◌}
use Rattle.semantics.specs.Limits.{max_scanners}
use Rattle.wording.specs.Room.{field_room}

-- the line of a scanner: N, three numbers of 32 bits, each behind a comma, and the line's end
abbrev pub tally_room : ℕ
tally_room = 2 + field_room * 3

abbrev pub tallies_room : ℕ
tallies_room = tally_room * max_scanners

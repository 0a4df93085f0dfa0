-- How many bytes are enough for fields and lines.
use Rattle.std.specs.Prelude.{ℕ, ◌+◌, ◌*◌}
use Rattle.semantics.specs.Limits.{table_rows}
use Rattle.text.specs.Ids.{slot_bytes}

-- a number behind a comma: ten digits at most
abbrev pub field_room : ℕ
field_room = 11

-- a letter, and an id behind a comma, of as many bytes as one is stored in
abbrev pub front_room : ℕ
front_room = 2 + slot_bytes

-- the line that gives a plot a value: its front, a number behind a comma, and the line's end
abbrev pub line_room : ℕ
line_room = front_room + field_room + 1

-- any line that is written here: the longest is that of a table, with eight numbers
abbrev pub longest_room : ℕ
longest_room = field_room * table_rows + 2

-- `protocol::row_numbers` meets its contract. The invariant: the first fields say the first numbers, and the others are left.
use Rattle.std.proofs.Common.{◌≡◌, ◌+◌, ◌++◌, length, take, map}
use Rattle.semantics.specs.Limits.{table_rows}
use Rattle.semantics.specs.Text.{number, value}
use Rattle.protocol.proofs.row_numbers.Given as goal

abbrev pub invariant-loop-n : goal.invariant-loop-n
invariant-loop-n l =
    (length l.fields + l.n-index ≡ table_rows)
    × (map number l.fn.fields ≡ map value (take l.n-index l.n-items) ++ map number l.fields)

-- `protocol::row_masks` meets its contract. The invariant: the first i rows are the first i numbers, which are masks.
use Rattle.std.proofs.Common.{◌≡◌, true, length, take, leb}
use Rattle.std.specs.List.{list_all}
use Rattle.semantics.specs.Limits.{table_rows, max_mask}
use Rattle.protocol.proofs.row_masks.Given as goal

abbrev pub invariant-loop-i : goal.invariant-loop-i
invariant-loop-i l =
    (length l.rows ≡ table_rows)
    × (take l.i l.rows ≡ take l.i l.n-items)
    × (list_all (λ n. leb n max_mask) (take l.i l.n-items) ≡ true)

-- The closure of `relabel::table_bars` meets its contract: a column holds nothing but bits.
use Rattle.messages.proofs.Columns.{column_bits}
use Rattle.relabel.proofs.fn.table_bars.from_fn.Goals as goal

pub bars_of-requires : goal.bars_of-requires
bars_of-requires c = rw c.column_of.ensures (column_bits c.captures.rows.now c.captures.table c.args.c)

-- `relabel::table_bars` meets its contract: the bars of each column.
use Rattle.std.proofs.Common.{[], rules}
use Rattle.messages.proofs.Made.{row_made}
use Rattle.messages.specs.Columns.{column_of}
use Rattle.relabel.specs.Keys.{bars_of, table_bars}
use Rattle.relabel.proofs.table_bars.Goals as goal

pub returns : goal.returns
unfolding table_bars
returns c = row_made (λ d. bars_of (column_of c.args.rows.now c.args.table d)) [] _ _ (λ i x next l call. search rules) c.from_fn.ensures.items

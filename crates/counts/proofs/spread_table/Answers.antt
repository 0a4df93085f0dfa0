-- `counts::spread_table` meets its contract: each column of the table.
use Rattle.std.proofs.Common.{[], rules}
use Rattle.messages.specs.Columns.{column_of}
use Rattle.messages.proofs.Made.{row_made}
use Rattle.counts.specs.HeldRows.{spread_table}
use Rattle.counts.proofs.spread_table.Goals as goal

pub returns : goal.returns
unfolding spread_table
returns c = row_made (column_of c.args.rows.now c.args.table) [] _ _ (λ b x next l call. search rules) c.from_fn.ensures.items

-- `counts::spread_tables` meets its contract. The invariant: the first t tables are spread.
use Rattle.std.proofs.Common.{◌<◌, replicate, arith}
use Rattle.semantics.specs.Limits.{max_tables, max_classes}
use Rattle.messages.proofs.Filling.{fill_start, fill_turn}
use Rattle.counts.specs.HeldRows.{spread_table, spread_tables}
use Rattle.counts.proofs.spread_tables.Goals as goal

pub loop-t-init : goal.loop-t-init
unfolding spread_tables
loop-t-init c = fill_start (replicate max_classes (replicate max_classes 0)) max_tables (spread_table c.args.rows.now)

pub loop-t-preserved : goal.loop-t-preserved
unfolding spread_tables
loop-t-preserved c = let l : c.loop-t.t < max_tables = omega arith in search fill_turn

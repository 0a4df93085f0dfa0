-- `relabel::all_bars` meets its contract. The invariant: what bars the classes below the first t tables stands.
use Rattle.std.proofs.Common.{◌<◌, replicate, arith}
use Rattle.semantics.specs.Limits.{max_classes, max_tables}
use Rattle.messages.proofs.Filling.{fill_start, fill_turn}
use Rattle.relabel.specs.Keys.{table_bars, all_bars}
use Rattle.relabel.proofs.all_bars.Goals as goal

pub loop-t-init : goal.loop-t-init
unfolding all_bars
loop-t-init c = fill_start (replicate max_classes (replicate max_classes 0)) max_tables (table_bars c.args.rows.now)

pub loop-t-preserved : goal.loop-t-preserved
unfolding all_bars
loop-t-preserved c = let l : c.loop-t.t < max_tables = omega arith in search fill_turn

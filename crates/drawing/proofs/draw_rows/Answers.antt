-- `drawing::draw_rows` meets its contract: a turn draws the next row.
use Rattle.std.proofs.Common.{refl}
use Rattle.drawing.proofs.Rows.{next_row, all_rows, after_rows}
use Rattle.drawing.proofs.draw_rows.Goals as goal

pub loop-i-init : goal.loop-i-init
loop-i-init c = record { long = refl; first = refl; at = refl }

pub loop-i-preserved : goal.loop-i-preserved
loop-i-preserved c = search next_row

pub returns-clause-rows : goal.returns-clause-rows
returns-clause-rows c = search all_rows

pub returns-clause-state : goal.returns-clause-state
returns-clause-state c = search after_rows

-- `drawing::drawn` meets its contract: each turn draws one plot more.
use Rattle.std.proofs.Common.{arith}
use Rattle.drawing.proofs.Begun.{table_put, plots-begun, tables-begun, one_more, all_drawn}
use Rattle.drawing.proofs.drawn.Goals as goal

pub loop-init : goal.loop-init
loop-init c = search table_put

pub draw_plot-requires-clause-room : goal.draw_plot-requires-clause-room
draw_plot-requires-clause-room c = omega (arith, plots-begun _ _ _ _ c.loop.invariant)

pub draw_plot-requires-clause-table : goal.draw_plot-requires-clause-table
draw_plot-requires-clause-table c = search tables-begun

pub loop-preserved : goal.loop-preserved
loop-preserved c = search one_more

pub returns : goal.returns
returns c = search all_drawn

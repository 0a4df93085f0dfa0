-- `drawing::draw_rows` meets its contract. The invariant: the first rows are those that are drawn.
use Rattle.drawing.proofs.Rows.{Rows}
use Rattle.drawing.proofs.draw_rows.Given as goal

abbrev pub invariant-loop-i : goal.invariant-loop-i
invariant-loop-i l = Rows l.initial.g.state l.i l.rows l.g.state

-- `drawing::drawn` meets its contract. The invariant: the first plots are drawn.
use Rattle.drawing.proofs.Begun.{Begun}
use Rattle.drawing.proofs.drawn.Given as goal

abbrev pub invariant-loop : goal.invariant-loop
invariant-loop l = Begun l.start l.counter l.state l.g.state

-- `messages::own_rows` meets its contract. The invariant: the rows of the first i plots are made.
use Rattle.messages.specs.Rows.{MadeBy}
use Rattle.messages.proofs.start.own_rows.Given as goal

abbrev pub invariant-loop-i : goal.invariant-loop-i
invariant-loop-i g l = MadeBy (λ domain label r. goal.F-post g l.own domain label r) l.s.network l.i l.initial.rows l.rows

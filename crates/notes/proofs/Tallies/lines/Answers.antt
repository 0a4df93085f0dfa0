-- `notes::Tallies::lines` meets its contract.
use Rattle.std.proofs.Common.{arith, rules}
use Rattle.notes.proofs.Sums.{start, next, finish}
use Rattle.notes.proofs.Tallies.lines.Goals as goal

pub loop-t-init : goal.loop-t-init
loop-t-init c = search (start, rules)

pub overflow_add-lines : goal.overflow_add-lines
overflow_add-lines c = omega (arith, c.loop-t.invariant.short, c.lines-lines.ensures.short)

pub loop-t-preserved : goal.loop-t-preserved
loop-t-preserved c = search (next, rules)

pub returns : goal.returns
returns c = search (finish, rules)

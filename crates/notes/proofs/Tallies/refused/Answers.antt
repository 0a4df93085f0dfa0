-- `notes::Tallies::refused` meets its contract.
use Rattle.std.proofs.Common.{refl, arith, rules}
use Rattle.notes.specs.Views.{refused_of}
use Rattle.notes.proofs.Sums.{start, next, finish}
use Rattle.notes.proofs.Tallies.refused.Goals as goal

pub loop-t-init : goal.loop-t-init
loop-t-init c = search (start, rules)

pub overflow_add-refused : goal.overflow_add-refused
overflow_add-refused c = omega (arith, c.loop-t.invariant.short)

pub loop-t-preserved : goal.loop-t-preserved
loop-t-preserved c = next refused_of c.args.self.now.each _ _ _ c.loop-t.invariant c.loop-t-test.true refl (omega arith)

pub returns : goal.returns
returns c = search (finish, rules)

-- `saving::length_each` meets its contract: the sum of the next length and those before it is no more than the whole.
use Rattle.std.proofs.Common.{rules, arith}
use Rattle.saving.proofs.UpTo.{length-next, next_room}
use Rattle.saving.proofs.length_each.Goals as goal

pub measure-sum-requires : goal.measure-sum-requires
measure-sum-requires g c = search (rules, c.requires.1.can)

pub overflow_add-sum : goal.overflow_add-sum
overflow_add-sum g c =
    let asked = c.requires in
    let text = asked.0 in
    let now = c.loop-i.invariant text asked.1 in
    let told = asked.1.tells _ _ c.measure-sum.ensures in
    omega (arith, next_room text c.loop-i.i c.args.n c.loop-i-test.true)

pub loop-i-preserved : goal.loop-i-preserved
loop-i-preserved g c = λ text measures.
    let now = c.loop-i.invariant text measures in
    let told = measures.tells _ _ c.measure-sum.ensures in
    omega (arith, length-next text c.loop-i.i)

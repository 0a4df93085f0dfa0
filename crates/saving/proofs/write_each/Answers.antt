-- `saving::write_each` meets its contract: the next text has room where all have, and is written behind the first.
use Rattle.std.proofs.Common.{rules, length, arith}
use Rattle.writing.specs.Pages.{HasRoom}
use Rattle.saving.proofs.UpTo.{next_room, turn}
use Rattle.saving.proofs.write_each.Goals as goal

pub write-requires : goal.write-requires
write-requires g c =
    let asked = c.requires in
    let text = asked.0 in
    let now = c.loop-i.invariant text asked.1 asked.2 in
    let room : HasRoom c.loop-i.page (length (text c.loop-i.i)) = omega (arith, next_room text c.loop-i.i c.args.n c.loop-i-test.true) in
    search (rules, asked.1.can)

pub loop-i-preserved : goal.loop-i-preserved
loop-i-preserved g c = λ text writes room. turn text _ _ _ _ (c.loop-i.invariant text writes room) (writes.leaves _ _ _ _ c.write.ensures)

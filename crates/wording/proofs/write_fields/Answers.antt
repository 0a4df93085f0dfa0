-- `wording::write_fields` meets its contract: the next number has room where all have, and is written behind those before it.
use Rattle.std.proofs.Common.{arith}
use Rattle.writing.proofs.Pages.{wrote_two}
use Rattle.wording.proofs.Each.{each_more, each_room}
use Rattle.wording.proofs.write_fields.Goals as goal

pub write_field-requires : goal.write_field-requires
write_field-requires c = omega (arith, each_room c.args.numbers.now c.loop-n.n-index c.loop-n-test.true)

pub loop-n-preserved : goal.loop-n-preserved
loop-n-preserved c =
    let more = each_more c.args.numbers.now c.loop-n.n-index c.loop-n-test.true in
    search wrote_two

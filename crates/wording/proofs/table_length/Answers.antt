-- `wording::table_length` meets its contract: a row has few digits, and a turn adds those of the next one and its comma.
use Rattle.std.proofs.Common.{get_or, arith}
use Rattle.semantics.proofs.Decimals.{u32_length}
use Rattle.wording.proofs.Each.{each_length}
use Rattle.wording.proofs.table_length.Goals as goal

pub loop-row-preserved : goal.loop-row-preserved
loop-row-preserved c =
    let i = c.loop-row.row-index in
    let few = u32_length (get_or c.args.rows.now i 0) (omega (arith, c.type_inv.rows i)) in
    (omega arith, omega (arith, each_length c.args.rows.now i c.loop-row-test.true))

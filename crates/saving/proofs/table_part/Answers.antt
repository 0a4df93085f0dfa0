-- `saving::table_part` meets its contract: the eight rows from the table's place on are its own.
use Rattle.std.proofs.Common.{◌≡◌, ◌+◌, ◌-◌, ◌*◌, arith}
use Rattle.saving.proofs.Stands.{table_within}
use Rattle.saving.proofs.table_part.Goals as goal

pub overflow_mul-from : goal.overflow_mul-from
overflow_mul-from c = omega (arith, table_within c.args.s.now c.args.t c.requires)

pub overflow_add-result : goal.overflow_add-result
overflow_add-result c = omega (arith, table_within c.args.s.now c.args.t c.requires)

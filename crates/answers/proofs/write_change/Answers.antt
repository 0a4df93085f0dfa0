-- `answers::write_change` meets its contract: the line of a class has room.
use Rattle.std.proofs.Common.{arith}
use Rattle.wording.proofs.Lengths.{value-fits}
use Rattle.answers.proofs.write_change.Goals as goal

pub write_value-requires : goal.write_value-requires
write_value-requires c = omega (arith, value-fits 76 c.args.id c.args.class (omega arith))

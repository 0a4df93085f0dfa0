-- `answers::write_counts` meets its contract: a number of 32 bits takes no more than a field's room.
use Rattle.std.proofs.Common.{arith}
use Rattle.wording.proofs.Lengths.{fields_fit}
use Rattle.answers.proofs.write_counts.Goals as goal

pub write_fields-requires : goal.write_fields-requires
write_fields-requires c = omega (arith, fields_fit c.args.counts.now (λ i l. c.type_inv.counts i))

pub returns-clause-short : goal.returns-clause-short
returns-clause-short c = omega (arith, fields_fit c.args.counts.now (λ i l. c.type_inv.counts i))

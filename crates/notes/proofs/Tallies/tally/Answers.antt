-- `notes::Tallies::tally` meets its contract.
use Rattle.std.proofs.Common.{arith}
use Rattle.notes.proofs.Tallying.{one-of_all}
use Rattle.notes.proofs.Tallies.tally.Goals as goal

pub with_line-requires : goal.with_line-requires
with_line-requires c = omega (arith, one-of_all c.args.self.now.each c.args.scanner)

-- `counts::contribution` meets its contract. The invariant: the sum is that over the classes so far, and small enough for the others.
use Rattle.std.proofs.Common.{get_or, arith}
use Rattle.counts.proofs.Sums.{none-added, added_more}
use Rattle.counts.proofs.contribution.Goals as goal

pub loop-b-init : goal.loop-b-init
loop-b-init c = (none-added c.args.counts (λ b. get_or c.args.column b 0), omega arith)

pub loop-b-preserved : goal.loop-b-preserved
loop-b-preserved c = (rw added_more (omega arith), omega arith)

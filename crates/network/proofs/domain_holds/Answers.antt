-- `network::domain_holds` meets its contract: a mask has no bit at k or past it exactly when it is below 2 ^ k.
use borrow.Author.Tests.{le-leb}
use Rattle.stored.proofs.Masks.{no_bit_past}
use Rattle.network.proofs.domain_holds.Goals as goal

pub returns-then-mask-ge1 : goal.returns-then-mask-ge1
returns-then-mask-ge1 c = simp (le-leb 1 _ c.if-mask-ge1.true, no_bit_past)

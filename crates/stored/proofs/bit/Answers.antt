-- `stored::bit` meets its contract: to shift by c is to divide by 2 ^ c, and the last bit is what is left modulo 2.
use lib.Bits.{and_mask}
use Rattle.stored.proofs.bit.Goals as goal

pub returns : goal.returns
returns c = and_mask _ 1

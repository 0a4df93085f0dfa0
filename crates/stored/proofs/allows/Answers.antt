-- `stored::allows` meets its contract: the bit is 1.
use Rattle.stored.proofs.allows.Goals as goal

pub returns : goal.returns
returns c = rw c.bit.ensures

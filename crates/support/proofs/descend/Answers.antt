-- `support::descend` meets its contract. The invariant: the counts are those that came down past the first j plots.
use Rattle.network.proofs.Reach.{link_reaches}
use Rattle.support.proofs.descend.Goals as goal

pub from_above-above-requires : goal.from_above-above-requires
from_above-above-requires c = search link_reaches

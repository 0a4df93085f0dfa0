-- `network::State::empty` meets its contract: its notes are those of an unused run.
use Rattle.std.proofs.Common.{refl}
use Rattle.network.proofs.State.empty.Goals as goal

pub returns : goal.returns
returns c = rw c.unused.ensures.whole (record { whole = refl; seen = refl })

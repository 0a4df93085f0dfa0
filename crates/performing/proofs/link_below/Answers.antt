-- `performing::link_below` meets its contract.
use Rattle.network.proofs.Standing.{few-plots}
use Rattle.performing.proofs.link_below.Goals as goal

pub find-requires : goal.find-requires
find-requires c = few-plots c.args.s.now.network c.args.s.now.network_rules

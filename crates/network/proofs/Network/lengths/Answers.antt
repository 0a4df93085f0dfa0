-- `Network::lengths` meets its contract.
use borrow.Author.Rules.{rules}
use Rattle.network.proofs.Network.lengths.Goals as goal

pub returns : goal.returns
returns c =
    record {
      rows = search rules;
      ids = search rules;
      parents = search rules;
      through = search rules;
      classes = c.is_whole.ensures;
      domains = c.is_whole-2.ensures;
      labels = c.is_whole-3.ensures;
    }

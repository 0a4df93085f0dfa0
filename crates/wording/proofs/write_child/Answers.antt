-- `wording::write_child` meets its contract: four pieces, one behind the other.
use Rattle.writing.proofs.Pages.{wrote_four}
use Rattle.wording.proofs.write_child.Goals as goal

pub returns : goal.returns
returns c = search wrote_four

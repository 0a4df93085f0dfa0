-- `wording::write_link` meets its contract: three pieces, one behind the other.
use Rattle.writing.proofs.Pages.{wrote_three}
use Rattle.wording.proofs.write_link.Goals as goal

pub returns : goal.returns
returns c = search wrote_three

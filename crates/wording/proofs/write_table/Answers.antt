-- `wording::write_table` meets its contract: three pieces, one behind the other.
use Rattle.writing.proofs.Pages.{wrote_three}
use Rattle.wording.proofs.write_table.Goals as goal

pub returns : goal.returns
returns c = search wrote_three

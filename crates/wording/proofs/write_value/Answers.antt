-- `wording::write_value` meets its contract: three pieces, one behind the other.
use Rattle.writing.proofs.Pages.{wrote_three}
use Rattle.wording.proofs.write_value.Goals as goal

pub returns-clause-written : goal.returns-clause-written
returns-clause-written c = search wrote_three

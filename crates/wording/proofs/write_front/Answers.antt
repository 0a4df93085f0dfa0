-- `wording::write_front` meets its contract: a letter and a comma, and the id behind them.
use Rattle.writing.proofs.Pages.{wrote_two}
use Rattle.wording.proofs.write_front.Goals as goal

pub returns-clause-written : goal.returns-clause-written
returns-clause-written c = search wrote_two

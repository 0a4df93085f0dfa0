-- `answers::write_tally` meets its contract: three pieces, one behind the other, where the scanner has lines.
use Rattle.std.proofs.Common.{◌≡◌, false, arith, eqb, ne_eqb}
use Rattle.semantics.specs.Notes.{lines_of}
use Rattle.writing.proofs.Pages.{wrote_three}
use Rattle.notes.specs.Views.{as_tally}
use Rattle.answers.proofs.write_tally.Goals as goal

pub returns-clause-written : goal.returns-clause-written
returns-clause-written c =
    let some : eqb (lines_of (as_tally c.args.t)) 0 ≡ false = ne_eqb _ 0 (omega arith) in
    rw some (search wrote_three)

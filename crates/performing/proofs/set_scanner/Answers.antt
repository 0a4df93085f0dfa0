-- `performing::set_scanner` meets its contract.
use Rattle.semantics.specs.Protocol.{from_scanner}
use Rattle.network.specs.Sound.{whole}
use Rattle.performing.specs.Performed.{scanner_stored}
use Rattle.performing.proofs.Editing.{notes_ruled, scanner_set}
use Rattle.performing.proofs.set_scanner.Goals as goal

pub invariant_of-s-clause-notes_rules : goal.invariant_of-s-clause-notes_rules
invariant_of-s-clause-notes_rules c =
    notes_ruled c.args.s.now (from_scanner c.args.scanner) c.requires c.lengths.ensures (scanner_stored (whole c.args.s.now) c.args.scanner)
    (scanner_set (whole c.args.s.now) c.args.scanner)

pub returns : goal.returns
returns c = scanner_set (whole c.args.s.now) c.args.scanner

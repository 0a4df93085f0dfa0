-- `taking::obey` meets its contract.
use Rattle.std.proofs.Common.{◌≡◌, Err}
use mathlib.Core.Path.{sym, ap, ◌∙◌}
use Rattle.protocol.specs.Lines.{as_read}
use Rattle.performing.proofs.Refusing.{handed_on}
use Rattle.taking.proofs.Taking.{read_well, unread}
use Rattle.taking.proofs.obey.Goals as goal

pub returns-in_err-read_line : goal.returns-in_err-read_line
returns-in_err-read_line c =
    let unread_so : c.read_line.result ≡ Err c.in_err-read_line.field-0.0 = c.in_err-read_line.was in
    rw (handed_on _ _ c.from_residual.ensures.1) (search unread)

pub perform-requires-clause-well_read : goal.perform-requires-clause-well_read
perform-requires-clause-well_read c = read_well c.args.line.now c.read_line.result _ c.read_line.ensures c.in_ok-read_line.was

pub returns : goal.returns
returns c = rw (ap as_read (sym c.in_ok-read_line.was) ∙ c.read_line.ensures) at c.perform.ensures

-- `relay::take_all` meets its contract: read by read.
use Rattle.std.specs.Prelude.{is_ok}
use Rattle.std.proofs.Common.{◌≡◌, ap, refl, rules}
use Rattle.std.proofs.KnownBytes.{Keeps-refl}
use Rattle.relay.proofs.Sending.{read-ends, piece_counted, piece_some, unread, read_all, not_read, read_more, read_cut}
use Rattle.relay.proofs.take_all.Goals as goal

pub loop-init : goal.loop-init
loop-init g c = (unread _ _ _ _ _ c.new-r.ensures, refl, refl)

pub returns-in-Err : goal.returns-in-Err
returns-in-Err g c = not_read _ _ _ _ _ _ _ _ _ _ c.loop.invariant.0 _ _ (λ h. absurd (read-ends _ h)) c.in-Err.ensures.bytes

pub returns-in-Ok-eq0 : goal.returns-in-Ok-eq0
returns-in-Ok-eq0 g c =
    let none : c.in-Ok-eq0.field-0 ≡ 0 = search rules in
    let gave = c.in-Ok-eq0.ensures.bytes in
    read_all _ _ _ _ _ _ _ _ _ _ c.loop.invariant.0 _ (rw none at gave.0) (gave.1 none (search rules))

pub returns-in_err-take_piece : goal.returns-in_err-take_piece
returns-in_err-take_piece g c =
    read_cut _ _ _ _ _ _ _ _ _ _ c.loop.invariant.0 _ c.take_piece.new.r _ _ _ _ _ c.take_piece.ensures
    (piece_counted c.loop.read c.in-Ok.n c.read.new.buf (search rules)) c.in-Ok.ensures.bytes.0
    c.in_err-take_piece.field-0.0 c.in_err-take_piece.was _ c.from_residual.ensures.1

pub loop-preserved : goal.loop-preserved
loop-preserved g c = (
  read_more _ _ _ _ _ _ _ _ _ _ c.loop.invariant.0 _ c.take_piece.new.r _ _ _ _ _ c.take_piece.ensures
      (piece_counted c.loop.read c.in-Ok.n c.read.new.buf (search rules)) c.in-Ok.ensures.bytes.0 (ap is_ok c.in_ok-take_piece.was)
      (piece_some c.in-Ok.n c.read.new.buf (search rules) (search rules)),
  search rules,
  search rules,
)

pub returns : goal.returns
returns g c = not_read _ _ _ _ _ _ _ _ _ _ c.loop.invariant.0 _ _ (λ h. search rules) (Keeps-refl _)

-- `relay::take_piece` meets its contract. The invariant: what is left is still to be fed, and what lines print up to there was sent.
use Rattle.std.proofs.Common.{◌≡◌, length}
use Rattle.run.specs.Sound.{whole_run}
use Rattle.relay.proofs.Sending.{FedUpTo}
use Rattle.relay.proofs.take_piece.Given as goal

abbrev pub invariant-loop-rest : goal.invariant-loop-rest
invariant-loop-rest g l =
    FedUpTo (whole_run l.initial.r) l.piece l.initial.sent (g.W.Write.contents l.initial.to) (whole_run l.r) l.rest l.sent (g.W.Write.contents l.to)
    × (length l.out ≡ length l.initial.out)

abbrev pub decreases-loop-rest : goal.decreases-loop-rest
decreases-loop-rest g l = length l.rest

-- `taking::take_lines` meets its contract. The invariant is `Going`; the measure is what is left of the piece.
use Prim.Native.Nat.{◌-◌}
use lib.ListN.{length}
use Rattle.network.specs.Sound.{whole}
use Rattle.taking.proofs.Going.{Going}
use Rattle.taking.proofs.take_lines.Given as goal

abbrev pub invariant-loop-out : goal.invariant-loop-out
invariant-loop-out l = Going l.piece l.initial.out (whole l.initial.s) l.out (whole l.s) l.next l.end

abbrev pub decreases-loop-out : goal.decreases-loop-out
decreases-loop-out l = length l.piece - l.next

-- `relabel::offer` meets its contract. The invariant: the offer is that of the first c classes.
use mathlib.Core.Path.{◌≡◌}
use Rattle.relabel.proofs.Offered.{offered_to}
use Rattle.relabel.proofs.offer.Given as goal

abbrev pub invariant-loop-c : goal.invariant-loop-c
invariant-loop-c l = l.offer ≡ offered_to l.keys l.bars l.c

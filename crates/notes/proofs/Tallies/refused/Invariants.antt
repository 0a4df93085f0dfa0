-- `notes::Tallies::refused` meets its contract. The invariant is `Summed`, of the lines refused.
use Rattle.notes.specs.Views.{refused_of}
use Rattle.notes.proofs.Sums.{Summed}
use Rattle.notes.proofs.Tallies.refused.Given as goal

abbrev pub invariant-loop-t : goal.invariant-loop-t
invariant-loop-t l = Summed refused_of l.self.each l.t-index l.refused

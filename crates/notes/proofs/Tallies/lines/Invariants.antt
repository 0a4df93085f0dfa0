-- `notes::Tallies::lines` meets its contract. The invariant is `Summed`, of the lines.
use Rattle.semantics.specs.Notes.{lines_of}
use Rattle.notes.proofs.Sums.{Summed}
use Rattle.notes.proofs.Tallies.lines.Given as goal

abbrev pub invariant-loop-t : goal.invariant-loop-t
invariant-loop-t l = Summed lines_of l.self.each l.t-index l.lines

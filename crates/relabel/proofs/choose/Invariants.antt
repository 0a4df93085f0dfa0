-- `relabel::choose` meets its contract. The invariant: the classes read for the first j plots stand at their positions.
use mathlib.Core.Path.{◌≡◌}
use Rattle.relabel.specs.Keys.{read_to}
use Rattle.relabel.specs.Answer.{by_position}
use Rattle.relabel.proofs.choose.Given as goal

abbrev pub invariant-loop-j : goal.invariant-loop-j
invariant-loop-j l = l.classes ≡ by_position (read_to l.s.network l.offers l.j)

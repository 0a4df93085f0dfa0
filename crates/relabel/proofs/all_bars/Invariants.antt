-- `relabel::all_bars` meets its contract. The invariant: what bars the classes below the first t tables stands.
use mathlib.Core.Path.{◌≡◌}
use Rattle.relabel.specs.Keys.{all_bars}
use Rattle.relabel.proofs.all_bars.Given as goal

abbrev pub invariant-loop-t : goal.invariant-loop-t
invariant-loop-t l = l.bars ≡ all_bars l.rows l.t

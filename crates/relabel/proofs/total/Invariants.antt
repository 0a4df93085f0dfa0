-- `relabel::total` meets its contract. The invariant: the cost with those of the roots among the first j plots is that of all roots.
use mathlib.Core.Path.{◌≡◌}
use Rattle.relabel.specs.Keys.{totalled_by}
use Rattle.relabel.proofs.total.Given as goal

abbrev pub invariant-loop-j : goal.invariant-loop-j
invariant-loop-j l =
    let n = l.s.network in
    totalled_by n l.offers l.j l.cost ≡ totalled_by n l.offers n.plots 0

-- `support::descend` meets its contract. The invariant: the counts are those that came down past the first j plots.
use mathlib.Core.Path.{◌≡◌}
use Rattle.support.specs.Paths.{descended_through}
use Rattle.support.proofs.descend.Given as goal

abbrev pub invariant-loop-j : goal.invariant-loop-j
invariant-loop-j l = l.counts ≡ descended_through l.s.network l.path l.spread.tables.now l.rows l.j

-- `support::path_to` meets its contract. The invariant: what is still to be marked, marked from here, gives the whole path.
use mathlib.Core.Path.{◌≡◌}
use Rattle.support.specs.Paths.{marked, path_to}
use Rattle.support.proofs.path_to.Given as goal

abbrev pub invariant-loop-j : goal.invariant-loop-j
invariant-loop-j l = marked l.s.network l.j l.at l.path ≡ path_to l.s.network l.i

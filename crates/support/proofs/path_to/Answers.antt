-- `support::path_to` meets its contract. The invariant: what is still to be marked, marked from here, gives the whole path.
use mathlib.Core.Path.{refl}
use Rattle.support.specs.Paths.{path_to}
use Rattle.support.proofs.path_to.Goals as goal

pub loop-j-init : goal.loop-j-init
unfolding path_to
loop-j-init c = refl

-- `Network::plots_hold` meets its contract. The invariant: the plots passed keep the rules, and their ids are marked.
use mathlib.Core.Path.{◌≡◌}
use mathlib.Core.Bool.{Bool, true}
use mathlib.Core.List.{List}
use Prim.Native.Nat.{ℕ}
use lib.ListN.{length}
use Rattle.semantics.specs.Rules.{plots_hold}
use Rattle.network.specs.declared.Network.{Network}
use Rattle.network.specs.View.{plots_of}
use Rattle.network.specs.Marks.{places, Marked}
use Rattle.network.proofs.Network.plots_hold.Given as goal

pub record Passed (n : Network) (i : ℕ) (seen : List Bool) : Type 0 where
  pub ruled : plots_hold n.tables (plots_of n i) ≡ true
  pub sized : length seen ≡ places
  pub marked : Marked n.ids i seen

abbrev pub invariant-loop-i : goal.invariant-loop-i
invariant-loop-i l = Passed l.self l.i l.seen

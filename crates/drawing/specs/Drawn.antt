-- What is drawn, as the definitions have it, and what `generate` answers and leaves, for every start, number of plots and buffer.
use Rattle.std.specs.Prelude.{Result, ◌≡◌, ◌∷◌, List, ℕ, length}
use Rattle.semantics.specs.Notes.{unused}
use Rattle.semantics.specs.Engine as model
use Rattle.semantics.specs.Engine.{buffer_after, returned_for}
use Rattle.semantics.specs.Drawing.{plot_drawn, after_plot, network_drawn, generated}
use Rattle.network.specs.declared.Network.{Network}
use Rattle.network.specs.View.{view}
use Rattle.refusals.specs.declared.Refusal.{Refusal}
use Rattle.performing.specs.Performed.{returned}

-- a plot more, drawn from a state of the generator, and the state that its draws leave
pub record DrawsPlot (n : Network) (v : ℕ) (r : Network) (w : ℕ) : Type 0 where
  pub network : view r ≡ record { tables = (view n).tables; plots = plot_drawn n.plots v ∷ (view n).plots }
  pub state : w ≡ after_plot n.plots v

-- the state of a run that has a drawn network and took no line
abbrev pub with_drawn : ℕ → ℕ → model.State
with_drawn start plots = record { network = network_drawn start plots; notes = unused }

-- `generate`: what is returned, and every byte of the buffer
pub record Generating (start plots : ℕ) (out : List ℕ) (r : Result ℕ Refusal) (lent_after : List ℕ) : Type 0 where
  pub answered : returned r ≡ returned_for (generated start plots (length out))
  pub buffer : lent_after ≡ buffer_after out (generated start plots (length out))

-- a call of `generate`: the start, how many plots and the buffer that it was handed, what it gave, and the buffer afterwards
pub record GenerateCall : Type 0 where
  pub start : ℕ
  pub plots : ℕ
  pub lent : List ℕ
  pub gave : Result ℕ Refusal
  pub lent_after : List ℕ
  pub generating : Generating start plots lent gave lent_after

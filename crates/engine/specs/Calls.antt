-- What each call of the engine answers and leaves, for every state, line, id and buffer whatsoever.
use Rattle.std.specs.Prelude.{Result, Ok, Err, ◌≡◌, cond, List, [], ◌++◌, ℕ, ◌-◌, length, take, replicate}
use Rattle.semantics.specs.Limits.{max_classes}
use Rattle.semantics.specs.Engine as model
use Rattle.semantics.specs.Engine.{is_short, checked, holds, ended, text_into, saved, supports_answer, buffer_after, returned_for}
use Rattle.network.specs.declared.Network.{Network}
use Rattle.network.specs.declared.State.{State}
use Rattle.network.specs.View.{view, view_state}
use Rattle.refusals.specs.declared.Refusal.{Refusal}
use Rattle.refusals.specs.Refusals.{number_of}
use Rattle.support.specs.Beliefs.{as_belief}
use Rattle.performing.specs.Performed.{returned}
use Rattle.engine.specs.declared.Stepped.{Stepped}
use Rattle.taking.specs.Lines.{struct_taken}
use Rattle.performing.specs.declared.PlotCounts.{PlotCounts}

-- after any line: a line that isn't taken leaves the struct as it was
abbrev pub struct_stepped : State → List ℕ → ℕ → State
struct_stepped s line room = cond (is_short room) s (cond (holds (view_state s)) (struct_taken s line) s)

-- a line that isn't taken
abbrev pub untaken_by : State → Refusal → Stepped
untaken_by s q = record { state = s; answer = Err q }

-- `step`: the whole struct, the state that it stands for, what is returned, and every byte of the buffer
pub record Stepping (s : State) (line out : List ℕ) (r : Stepped) (lent_after : List ℕ) : Type 0 where
  pub struct : r.state ≡ struct_stepped s line (length out)
  pub seen : view_state r.state ≡ (checked (view_state s) line (length out)).state
  pub answered : returned r.answer ≡ returned_for (checked (view_state s) line (length out)).said
  pub buffer : lent_after ≡ buffer_after out (checked (view_state s) line (length out)).said

-- `end`: what is returned, and every byte of the buffer
pub record Ending (s : State) (out : List ℕ) (r : Result ℕ Refusal) (lent_after : List ℕ) : Type 0 where
  pub answered : returned r ≡ returned_for (ended (view_state s) (length out))
  pub buffer : lent_after ≡ buffer_after out (ended (view_state s) (length out))

-- `save`: what is returned, and every byte of the buffer
pub record Saving (s : State) (out : List ℕ) (r : Result ℕ Refusal) (lent_after : List ℕ) : Type 0 where
  pub answered : returned r ≡ returned_for (saved (view_state s) (length out))
  pub buffer : lent_after ≡ buffer_after out (saved (view_state s) (length out))

-- the same of a network that keeps the rules
pub record SavingNetwork (n : Network) (out : List ℕ) (r : Result ℕ Refusal) (lent_after : List ℕ) : Type 0 where
  pub answered : returned r ≡ returned_for (text_into (view n) (length out))
  pub buffer : lent_after ≡ buffer_after out (text_into (view n) (length out))

-- what was answered when counts were asked for, as the definitions have it
abbrev pub as_supports : Result PlotCounts Refusal → model.SupportsAnswer
as_supports (Err q) = model.no_supports (number_of q)
as_supports (Ok c) = model.supports_are c.classes (take c.classes c.counts) (as_belief c.belief)

-- all eight counts: zeros past the plot's classes
abbrev pub eight : model.SupportsAnswer → List ℕ
eight (model.no_supports m) = []
eight (model.supports_are k values b) = values ++ replicate (max_classes - k) 0

-- those that were given
abbrev pub counts_given : Result PlotCounts Refusal → List ℕ
counts_given (Err q) = []
counts_given (Ok c) = c.counts

pub record SupportsGiven (due : model.SupportsAnswer) (r : Result PlotCounts Refusal) : Type 0 where
  pub answered : as_supports r ≡ due
  pub values : counts_given r ≡ eight due

-- `supports_of`
abbrev pub SupportsOf : State → List ℕ → Result PlotCounts Refusal → Type 0
SupportsOf s id r = SupportsGiven (supports_answer (view_state s) id) r

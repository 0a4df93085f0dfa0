-- What is demanded of the text of the book (02: U1), as statements about calls.
use Rattle.std.specs.Prelude.{Result, ◌≡◌, List, [], ◌∷◌, map, ℕ, ◌≤◌, length, take}
use Rattle.refusals.specs.declared.Refusal.{Refusal}
use Rattle.semantics.specs.Limits.{min_room}
use Rattle.semantics.specs.Network as model
use Rattle.semantics.specs.Notes.{only_accepted}
use Rattle.semantics.specs.Engine.{wrote_bytes}
use Rattle.semantics.specs.Program.{lines, passed}
use Rattle.network.specs.declared.State.{State}
use Rattle.notes.specs.Views.{as_notes}
use Rattle.network.specs.View.{view}
use Rattle.performing.specs.Performed.{returned}
use Rattle.engine.specs.Calls.{Saving}
use Rattle.engine.specs.Lists.{Exchange}

-- a call of `save`: the state and the buffer that it was handed, what it gave, and the buffer afterwards
pub record SaveCall : Type 0 where
  pub state : State
  pub lent : List ℕ
  pub gave : Result ℕ Refusal
  pub lent_after : List ℕ
  pub saving : Saving state lent gave lent_after

-- what a call that was lent a buffer gave, and the buffer afterwards: it wrote a text, which stands at the front
pub record TextWritten (lent : List ℕ) (gave : Result ℕ Refusal) (lent_after text : List ℕ) : Type 0 where
  pub length_told : returned gave ≡ wrote_bytes (length text)
  pub fits : length text ≤ length lent
  pub front : take (length text) lent_after ≡ text

-- the lines of calls of `step` are those of a text, cut as the program cuts its input
abbrev pub LinesOf : List ℕ → List Exchange → Type 0
LinesOf text ms = map (λ (m : Exchange). m.line) ms ≡ map passed (lines text)

-- of each call
abbrev pub Each : (Exchange → Type 0) → List Exchange → Type 0
Each P [] = Unit
Each P (m ∷ ms) = P m × Each P ms

-- it came with a buffer that is long enough
abbrev pub HasRoom : Exchange → Type 0
HasRoom m = min_room ≤ length m.lent

-- it was accepted, answered nothing, and left its buffer as it was
abbrev pub IsQuiet : Exchange → Type 0
IsQuiet m = (returned m.gave.answer ≡ wrote_bytes 0) × (m.lent_after ≡ m.lent)

-- Calls read a network in: each line was accepted, the struct that they lead to stands for that network, and scanner 0 has as many lines
-- accepted and none refused, and no other scanner has lines.
pub record ReadsIn (n : model.Network) (ms : List Exchange) (t : State) : Type 0 where
  pub accepted : Each IsQuiet ms
  pub equal : view t.network ≡ n
  pub notes : as_notes t.notes ≡ only_accepted (length ms)

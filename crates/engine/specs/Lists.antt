-- Lists of calls of `step`, each with the state that the call before it returned, and the state that their lines make
-- (document 01: "The book that lines make").
use Rattle.std.specs.Prelude.{◌≡◌, List, [], ◌∷◌, map, ℕ, length}
use Rattle.semantics.specs.Engine as model
use Rattle.semantics.specs.Engine.{Call, start, after}
use Rattle.network.specs.declared.State.{State}
use Rattle.network.specs.View.{view_state}
use Rattle.engine.specs.declared.Stepped.{Stepped}
use Rattle.engine.specs.Calls.{Stepping}

-- what went into a call and what came of it: the line and the buffer that it came with, of any length and holding anything; what it gave,
-- and the buffer afterwards
pub record Exchange : Type 0 where
  pub line : List ℕ
  pub lent : List ℕ
  pub gave : Stepped
  pub lent_after : List ℕ

-- the state of an unused run: no table, no plot and no line taken, whatever lies where nothing stands
abbrev pub Unused : State → Type 0
Unused s = view_state s ≡ start

-- a call for a state: what `step` ensures of it, and nothing else
abbrev pub MadeFor : State → Exchange → Type 0
MadeFor s m = Stepping s m.line m.lent m.gave m.lent_after

-- calls one after the other, refused ones included, that lead from a state to another
abbrev pub Leads : State → List Exchange → State → Type 0
Leads s [] t = s ≡ t
Leads s (m ∷ ms) t = MadeFor s m × Leads m.gave.state ms t

-- what the state that lines make follows from: their bytes, and the lengths of their buffers
abbrev pub calls : List Exchange → List Call
calls ms = map (λ (m : Exchange). record { line = m.line; room = length m.lent }) ms

-- the state that they make from an unused run
abbrev pub made : List Exchange → model.State
made ms = after start (calls ms)

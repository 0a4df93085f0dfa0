-- What a line leaves of the whole struct and answers, for a state that keeps the rules.
use Rattle.std.specs.Prelude.{Result, ◌≡◌, cond, List, ℕ}
use Rattle.semantics.specs.Protocol.{Line, read_line}
use Rattle.semantics.specs.Engine as model
use Rattle.semantics.specs.Engine.{perform, run_over, answer_of, is_accepted, returned_for}
use Rattle.network.specs.declared.State.{State}
use Rattle.network.specs.View.{view_state}
use Rattle.network.specs.Sound.{with_line}
use Rattle.refusals.specs.declared.Refusal.{Refusal}
use Rattle.performing.specs.Performed.{returned, struct_after}

-- the whole struct, byte for byte, after a line that says something or is malformed
abbrev pub struct_by : State → Line → State
struct_by s line = let d = perform (view_state s) line in with_line (is_accepted (answer_of d)) (struct_after s line d)

-- after a line with room for its answer, to a state that keeps the rules
abbrev pub struct_taken : State → List ℕ → State
struct_taken s line = cond (run_over (view_state s)) s (struct_by s (read_line line))

-- a call that gives the whole struct, and of the state that it stands for and of the answer what the definitions say
pub record LineTaken (whole : State) (t : model.Step) (after : State) (answer : Result ℕ Refusal) : Type 0 where
  pub struct : after ≡ whole
  pub seen : view_state after ≡ t.state
  pub answered : returned answer ≡ returned_for t.said

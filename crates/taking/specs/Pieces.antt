-- What lines of a piece of the input leave, print and take up: those that byte 10 ends in it, one after the other, as many as the buffer has
-- room for.
use Rattle.std.specs.Prelude.{◌≡◌, true, cond, List, [], ◌∷◌, ◌++◌, ℕ, suc, ◌+◌, ◌≤◌, length, drop, leb}
use Rattle.semantics.specs.Limits.{min_room}
use Rattle.semantics.specs.Buffers.{written}
use Rattle.semantics.specs.Engine as model
use Rattle.semantics.specs.Engine.{taken, holds}
use Rattle.semantics.specs.Program.{lines, passed, printed, run_to}
use Rattle.network.specs.declared.State.{State}
use Rattle.network.specs.View.{view_state}
use Rattle.input.specs.Cutting.{ended_lines, no_end}
use Rattle.taking.specs.declared.Taken.{Taken}
use Rattle.taking.specs.Lines.{struct_taken}

-- what a line prints, for a state that keeps the rules
abbrev pub line_prints : State → List ℕ → List ℕ
line_prints s line = printed (taken (view_state s) line).said

-- how far lines were taken: the whole struct, all that was printed, and the place of the piece after them
pub record Took : Type 0 where
  pub state : State
  pub text : List ℕ
  pub next : ℕ

-- one line more, with its byte 10
abbrev pub took_line : Took → List ℕ → Took
took_line t line =
    record {
      state = struct_taken t.state (passed line);
      text = t.text ++ line_prints t.state (passed line);
      next = t.next + suc (length line);
    }

-- lines are taken while a buffer of this size has room for one more answer
abbrev pub taking : ℕ → Took → List (List ℕ) → Took
taking size t [] = t
taking size t (line ∷ ls) = cond (leb (length t.text + min_room) size) (taking size (took_line t line) ls) t

-- nothing is taken yet
abbrev pub untouched : State → Took
untouched s = record { state = s; text = []; next = 0 }

-- the lines of a piece
abbrev pub took_of : State → List ℕ → ℕ → Took
took_of s piece size = taking size (untouched s) (ended_lines piece)

-- `take_lines`: the whole struct, the places after what was taken and written, and every byte of the buffer
pub record TakingLines (s : State) (piece out : List ℕ) (t : State) (r : Taken) (lent_after : List ℕ) : Type 0 where
  pub struct : t ≡ (took_of s piece (length out)).state
  pub next : r.next ≡ (took_of s piece (length out)).next
  pub end : r.end ≡ length (took_of s piece (length out)).text
  pub buffer : lent_after ≡ written out 0 (took_of s piece (length out)).text
  -- the rules are kept, and whatever comes after the piece and whatever is printed at the end, what is printed now and what is still printed
  -- is what would have been
  pub rules : holds (view_state t) ≡ true
  pub goes_on : (at_end : model.State → List ℕ) (more : List ℕ)
      → run_to at_end (view_state s) (lines (piece ++ more))
      ≡ (took_of s piece (length out)).text ++ run_to at_end (view_state t) (lines (drop r.next piece ++ more))
  -- both places are within, and with room for one more answer no line is left that byte 10 ends
  pub within : r.next ≤ length piece
  pub room : r.end ≤ length out
  pub stopped : r.end + min_room ≤ length out → no_end (drop r.next piece) ≡ true

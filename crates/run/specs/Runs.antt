-- What a run still prints, and what each call prints of it.
use Rattle.std.specs.Prelude.{Result, Ok, Err}
use Rattle.std.specs.Prelude.{◌≡◌, Bool, true, cond, ◌&&◌, List, [], ◌∷◌, ◌++◌, ℕ, ◌+◌, ◌-◌, ◌≤◌, ◌<◌, length, drop, leb}
use Rattle.std.specs.Option.{unwrap_or}
use Rattle.semantics.specs.Limits.{min_room}
use Rattle.semantics.specs.Text.{is_blank}
use Rattle.semantics.specs.Answers.{max_relabelling}
use Rattle.semantics.specs.Buffers.{written}
use Rattle.semantics.specs.Notes.{Tally}
use Rattle.notes.specs.Views.{as_tallies}
use Rattle.semantics.specs.Engine as model
use Rattle.semantics.specs.Engine.{start, end_text, is_short, holds, saved, returned_for, buffer_after}
use Rattle.semantics.specs.Program.{lines, run_to, after_lines}
use Rattle.network.specs.declared.State.{State}
use Rattle.network.specs.View.{view_state}
use Rattle.network.specs.Unused.{zeros}
use Rattle.input.specs.declared.Pending.{Pending}
use Rattle.input.specs.Cutting.{has_end, so_far, grown, read_on, is_open, no_line}
use Rattle.refusals.specs.declared.Refusal.{Refusal}
use Rattle.refusals.specs.declared.Refusal.TheVariants.{BrokenState, ShortBuffer}
use Rattle.performing.specs.Performed.{returned}
use Rattle.taking.specs.Lines.{struct_taken}
use Rattle.taking.specs.Pieces.{line_prints, Took, took_of}
use Rattle.run.specs.declared.Run.{Run}
use Rattle.run.specs.declared.Fed.{Fed}
use Rattle.run.specs.declared.Saved.{Saved}

-- a run by its state and its line so far
abbrev pub run_of : State → Pending → Run
run_of s p = record { state = s; pending = p }

-- what a line that went to the engine alone leaves: the state, and the place of the buffer after what was written
pub record LineAlone : Type 0 where
  pub state : State
  pub end : ℕ

abbrev pub line_alone : State → ℕ → LineAlone
line_alone s end = record { state = s; end = end }

-- the state keeps the rules, and the line so far is one
abbrev pub is_sound : Run → Bool
is_sound r = holds (view_state r.state) && is_open r.pending

-- what a run still prints if these bytes are the rest of its input, by what is printed at the end
abbrev pub prints_to : (model.State → List ℕ) → Run → List ℕ → List ℕ
prints_to at_end r bytes = run_to at_end (view_state r.state) (lines (so_far r.pending ++ bytes))

-- that with the tallies at the end
abbrev pub prints : Run → List ℕ → List ℕ
prints = prints_to end_text

-- the state that these bytes then make
abbrev pub makes : Run → List ℕ → model.State
makes r bytes = after_lines (view_state r.state) (lines (so_far r.pending ++ bytes))

-- an unused run, byte for byte; whatever is printed at the end, it prints what the lines of the whole input do: with the tallies there, the
-- output
pub record Starting (r : Run) : Type 0 where
  pub struct : r ≡ record { state = zeros; pending = no_line }
  pub sound : is_sound r ≡ true
  pub whole : (at_end : model.State → List ℕ) (input : List ℕ) → prints_to at_end r input ≡ run_to at_end start (lines input)

-- a line prints at most so many bytes, those of R's longest answer: a buffer has room for them and for the tallies (`tallies_room`)
abbrev pub line_room : ℕ
line_room = max_relabelling

-- `print_line`: the text at the front and every other byte of the buffer as it was, the place after it, within what a line may print;
-- the whole struct of the state, which keeps the rules, and what that means for what is still printed
pub record Printing (s : State) (line out : List ℕ) (r : LineAlone) (lent_after : List ℕ) : Type 0 where
  pub wrote : lent_after ≡ written out 0 (line_prints s line)
  pub end : r.end ≡ length (line_prints s line)
  pub room : r.end ≤ line_room
  pub struct : r.state ≡ struct_taken s line
  pub rules : holds (view_state r.state) ≡ true
  pub goes_on : (at_end : model.State → List ℕ) (more : List ℕ)
      → run_to at_end (view_state s) (lines (line ++ (10 ∷ more))) ≡ line_prints s line ++ run_to at_end (view_state r.state) (lines more)

-- a buffer of this size has room for one more answer behind a place
abbrev pub has_room : ℕ → ℕ → Bool
has_room size end = leb (end + min_room) size

-- `left_over`: with room for one more answer, the bytes behind a place of the piece are the line that is coming in; else it is empty, and
-- they are still to be read
abbrev pub left_over : List ℕ → ℕ → Bool → Pending × ℕ
left_over piece next room =
    let c = read_on no_line piece next in
    (cond room c.pending no_line, cond room (unwrap_or c.next (length piece)) next)

-- the bytes that lines are taken of: the line so far, and then the piece
abbrev pub heard : Run → List ℕ → List ℕ
heard r piece = so_far r.pending ++ piece

-- the lines that are taken of them, as long as there is room for one more answer
abbrev pub took_by : Run → List ℕ → ℕ → Took
took_by r piece size = took_of r.state (heard r piece) size

-- what is left of them is the line that is coming in: its first bytes. Where no byte 10 came the line so far has grown
abbrev pub pending_after : Run → List ℕ → Took → Pending
pending_after r piece t = cond (has_end piece) (grown no_line (drop t.next (heard r piece))) (grown r.pending piece)

-- that with room for one more answer, and then the piece is used up; else the line that is coming in is empty, and what is left of the
-- piece is still to be read
abbrev pub run_after : Run → List ℕ → ℕ → Took → Run
run_after r piece size t =
    record { state = t.state; pending = cond (has_room size (length t.text)) (pending_after r piece t) no_line }

abbrev pub next_after : Run → List ℕ → ℕ → Took → ℕ
next_after r piece size t = cond (has_room size (length t.text)) (length piece) (t.next - length (so_far r.pending))

-- a piece for a sound run, with room
abbrev pub fed_on : Run → List ℕ → ℕ → Fed
fed_on r piece size =
    let t = took_by r piece size in
    record { run = run_after r piece size t; answer = Ok (length t.text); next = next_after r piece size t }

-- a call that is refused leaves the run as it was
abbrev pub unfed : Run → Refusal → Fed
unfed r q = record { run = r; answer = Err q; next = 0 }

-- a piece for any run and any buffer: 10, then 9, else what the lines come to
abbrev pub fed_by : Run → List ℕ → ℕ → Fed
fed_by r piece size = cond (is_short size) (unfed r ShortBuffer) (cond (is_sound r) (fed_on r piece size) (unfed r BrokenState))

abbrev pub fed_text : Run → List ℕ → ℕ → List ℕ
fed_text r piece size = cond (is_short size) [] (cond (is_sound r) (took_by r piece size).text [])

-- `feed`: the whole struct that is returned, and every byte of the buffer
pub record Feeding (r : Run) (piece out : List ℕ) (f : Fed) (lent_after : List ℕ) : Type 0 where
  pub whole : f ≡ fed_by r piece (length out)
  pub wrote : lent_after ≡ written out 0 (fed_text r piece (length out))
  -- a run that was sound stays so
  pub sound : is_sound f.run ≡ is_sound r
  -- whatever bytes come after the piece and whatever is printed at the end, what is printed now and what the run still prints are what it
  -- would have printed
  pub goes_on : (at_end : model.State → List ℕ) (more : List ℕ)
      → prints_to at_end r (piece ++ more)
      ≡ fed_text r piece (length out) ++ prints_to at_end f.run (drop f.next piece ++ more)
  -- so a loop over a piece ends, within its piece
  pub within : f.next ≤ length piece
  pub moves : (n : ℕ) → f.answer ≡ Ok n → 0 < length piece → 0 < f.next

-- a last line that no byte 10 ended counts if it isn't empty: what it prints, and the whole struct after it
abbrev pub last_prints : Run → List ℕ
last_prints r = cond (is_blank (so_far r.pending)) [] (line_prints r.state (so_far r.pending))

abbrev pub last_taken : Run → State
last_taken r = cond (is_blank (so_far r.pending)) r.state (struct_taken r.state (so_far r.pending))

-- `take_last`: that at the front and every other byte of the buffer as it was, the place after it, within what a line may print; the whole
-- struct of the state, which keeps the rules; and of what the run still prints only what is printed at the end is left
pub record TakingLast (r : Run) (out : List ℕ) (l : LineAlone) (lent_after : List ℕ) : Type 0 where
  pub wrote : lent_after ≡ written out 0 (last_prints r)
  pub end : l.end ≡ length (last_prints r)
  pub room : l.end ≤ line_room
  pub struct : l.state ≡ last_taken r
  pub rules : holds (view_state l.state) ≡ true
  pub goes_on : (at_end : model.State → List ℕ) → prints_to at_end r [] ≡ last_prints r ++ at_end (view_state l.state)

-- the end of the input for any run and any buffer: 10, then 9, else all that the run still prints
abbrev pub finished_by : Run → ℕ → Result ℕ Refusal
finished_by r size =
    cond (is_short size) (Err ShortBuffer) (cond (is_sound r) (Ok (length (prints r []))) (Err BrokenState))

abbrev pub finish_text : Run → ℕ → List ℕ
finish_text r size = cond (is_short size) [] (cond (is_sound r) (prints r []) [])

-- `finish`: what is answered, and every byte of the buffer
pub record Finishing (r : Run) (out : List ℕ) (a : Result ℕ Refusal) (lent_after : List ℕ) : Type 0 where
  pub answered : a ≡ finished_by r (length out)
  pub wrote : lent_after ≡ written out 0 (finish_text r (length out))

-- the end of the input where the text of the book is asked for, for any run and any buffer: 9 where the run isn't sound, else the text of
-- the state that its lines make, or what is refused of it
abbrev pub saved_by : Run → ℕ → model.Answer
saved_by r size = cond (is_sound r) (saved (makes r []) size) (model.refusal 9)

abbrev pub tallies_by : Run → List Tally
tallies_by r = cond (is_sound r) (makes r []).notes.tallies (as_tallies r.state.notes.tallies)

-- `finish_text`: what is returned, every byte of the buffer, and the tallies of that state
pub record FinishingText (r : Run) (out : List ℕ) (x : Saved) (lent_after : List ℕ) : Type 0 where
  pub answered : returned x.answer ≡ returned_for (saved_by r (length out))
  pub buffer : lent_after ≡ buffer_after out (saved_by r (length out))
  pub tallies : as_tallies x.tallies ≡ tallies_by r

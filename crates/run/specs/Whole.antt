-- Calls of `feed` one after the other, over all pieces of an input, and what `finish_text` leaves then.
use Rattle.std.specs.Prelude.{Result, Ok, Err}
use Rattle.refusals.specs.declared.Refusal.{Refusal}
use Rattle.std.specs.Prelude.{◌≡◌, List, [], ◌∷◌, ◌++◌, ℕ, length, take, drop}
use Rattle.semantics.specs.Buffers.{written}
use Rattle.semantics.specs.Engine.{start, wrote_bytes}
use Rattle.semantics.specs.Program.{lines, after_lines, saved_output}
use Rattle.notes.specs.Views.{as_tallies}
use Rattle.performing.specs.Performed.{returned}
use Rattle.run.specs.declared.Run.{Run}
use Rattle.run.specs.declared.Fed.{Fed}
use Rattle.run.specs.declared.Saved.{Saved}
use Rattle.run.specs.Runs.{Feeding}

-- how many bytes a call wrote at the front of its buffer
abbrev pub wrote_of : Result ℕ Refusal → ℕ
wrote_of (Err q) = 0
wrote_of (Ok n) = n

-- the pieces, one behind the other
abbrev pub joined : List (List ℕ) → List ℕ
joined [] = []
joined (p ∷ ps) = p ++ joined ps

-- Calls of `feed`, one after the other, from a run on over pieces that are still to come: what they print, in order, and the run that they
-- lead to. Each call gets whatever buffer there is, and what it left of its piece comes next.
pub data Feeds : Run → List (List ℕ) → List ℕ → Run → Type 0 where
  -- no piece is left
  over : {r : Run} → Feeds r [] [] r
  -- the piece is used up
  used_up : {r last : Run} {text : List ℕ} {pieces : List (List ℕ)} → Feeds r pieces text last → Feeds r ([] ∷ pieces) text last
  -- a call
  fed : {r last : Run} {piece text : List ℕ} {pieces : List (List ℕ)} (out : List ℕ) (f : Fed) (lent_after : List ℕ)
      → Feeding r piece out f lent_after
      → Feeds f.run (drop f.next piece ∷ pieces) text last
      → Feeds r (piece ∷ pieces) (take (wrote_of f.answer) lent_after ++ text) last

-- `finish_text` at the end of an input, with a buffer that is long enough: the text of the book that the input makes is at the front and
-- every other byte as it was, its length is returned, and the tallies are those of the whole input
pub record SavingAll (input out : List ℕ) (x : Saved) (lent_after : List ℕ) : Type 0 where
  pub answered : returned x.answer ≡ wrote_bytes (length (saved_output input))
  pub buffer : lent_after ≡ written out 0 (saved_output input)
  pub tallies : as_tallies x.tallies ≡ (after_lines start (lines input)).notes.tallies

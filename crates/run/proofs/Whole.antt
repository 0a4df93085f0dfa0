-- What all calls of a run print, or the text that they leave, is what the documents say of the whole input, however that is cut.
use Rattle.std.specs.Prelude.{Result, Ok, Err, is_ok}
use Rattle.refusals.specs.declared.Refusal.{Refusal}
use mathlib.Core.Path.{◌≡◌, refl, sym, ap, ◌∙◌}
use mathlib.Core.Bool.{Bool, true, false, cond, true≢false}
use mathlib.Core.List.{List, [], ◌∷◌, ◌++◌, append_assoc}
use Prim.Native.Nat.{ℕ, ◌≤◌}
use native.Mathlib.Omega.{arith}
use lib.ListN.{length, take, length-append}
use borrow.Author.Tests.{le-ltb}
use Rattle.semantics.specs.Limits.{min_room}
use Rattle.semantics.specs.Buffers.{written}
use Rattle.semantics.specs.NetworkText.{network_text}
use Rattle.semantics.specs.Engine as model
use Rattle.semantics.specs.Engine.{State, start, end_text, is_short, is_shorter, refusal, answer, refused_with, wrote_bytes, returned_for, buffer_after}
use Rattle.semantics.specs.Program.{lines, run_to, output, after_lines, saved_output}
use Rattle.writing.proofs.Writes.{written-front}
use Rattle.notes.specs.Views.{as_tallies}
use Rattle.network.specs.View.{view_state}
use Rattle.input.specs.Cutting.{so_far}
use Rattle.refusals.specs.declared.Refusal.TheVariants.{BrokenState, ShortBuffer}
use Rattle.performing.specs.Performed.{returned}
use Rattle.performing.proofs.Printing.{is_refusal, number_in}
use Rattle.run.specs.declared.Run.{Run}
use Rattle.run.specs.declared.Fed.{Fed}
use Rattle.run.specs.declared.Saved.{Saved}
use Rattle.run.specs.Runs.{is_sound, prints_to, prints, makes, Starting, took_by, fed_on, unfed, fed_text, Feeding, Finishing}
use Rattle.run.specs.Runs.{saved_by, FinishingText}
use Rattle.run.specs.Whole.{wrote_of, joined, Feeds, over, used_up, fed, SavingAll}
use Rattle.run.proofs.Made.{made-rules, ToldSame, made-same, same-tallies, same_text}
use Rattle.writing.proofs.Parts.{front_told}

-- the text of a call is within its buffer
front-within : (out text last : List ℕ) (n : ℕ) → n ≡ length text → last ≡ written out 0 text → n ≤ length last
front-within out text last n e w = rw (w, written-front, length-append text) (omega (arith, e))

-- A call of `feed`.
module _ (r : Run) (piece out : List ℕ) (f : Fed) (lent_after : List ℕ) (e : Feeding r piece out f lent_after) where
  pub fed-wrote : wrote_of f.answer ≡ length (fed_text r piece (length out))
  fed-wrote = ap (λ (g : Fed). wrote_of g.answer) e.whole ∙ go (is_short (length out)) (is_sound r)
    where
      go : (short sound : Bool)
          → wrote_of (cond short (unfed r ShortBuffer) (cond sound (fed_on r piece (length out)) (unfed r BrokenState))).answer
          ≡ length (cond short [] (cond sound (took_by r piece (length out)).text []))
      go true sound = refl
      go false true = refl
      go false false = refl

  pub fed-front : take (wrote_of f.answer) lent_after ≡ fed_text r piece (length out)
  fed-front = front_told out (fed_text r piece (length out)) lent_after _ fed-wrote e.wrote

-- A call of `finish`.
module _ (r : Run) (out : List ℕ) (a : Result ℕ Refusal) (lent_after : List ℕ) (e : Finishing r out a lent_after) (sound : is_sound r ≡ true)
    (room : min_room ≤ length out) where
  short : is_short (length out) ≡ false
  short = le-ltb _ _ room

  pub finish_wrote : wrote_of a ≡ length (prints r [])
  finish_wrote = ap wrote_of e.answered ∙ rw (short, sound) refl

  left : lent_after ≡ written out 0 (prints r [])
  left = e.wrote ∙ rw (short, sound) refl

  -- which are within the buffer
  pub finish_fits : (n : ℕ) → n ≡ wrote_of a → n ≤ length lent_after
  finish_fits n k = front-within out (prints r []) lent_after n (k ∙ finish_wrote) left

  finish_front : take (wrote_of a) lent_after ≡ prints r []
  finish_front = front_told out (prints r []) lent_after _ finish_wrote left

-- so many bytes were written as are returned, and none after a refusal
wrote-returned : (a : Result ℕ Refusal) (n : ℕ) → returned a ≡ wrote_bytes n → wrote_of a ≡ n
wrote-returned (Err q) n e = absurd (true≢false (ap is_refusal e))
wrote-returned (Ok m) n e = ap number_in e

wrote_nothing : (a : Result ℕ Refusal) (m : ℕ) → returned a ≡ refused_with m → wrote_of a ≡ 0
wrote_nothing (Err q) m e = refl
wrote_nothing (Ok n) m e = absurd (true≢false (sym (ap is_refusal e)))

-- the text of the book that a run makes if nothing more comes
abbrev pub text_of : Run → List ℕ
text_of r = network_text (makes r []).network

-- A call of `finish_text` writes within its buffer.
pub text-within : (r : Run) (out : List ℕ) (x : Saved) (lent_after : List ℕ) (n : ℕ) → FinishingText r out x lent_after → n ≡ wrote_of x.answer
    → n ≤ length lent_after
text-within r out x lent_after n e k = go (saved_by r (length out)) e.answered e.buffer
  where
    go : (a : model.Answer) → returned x.answer ≡ returned_for a → lent_after ≡ buffer_after out a → n ≤ length lent_after
    go (refusal m) said left = omega (arith, wrote_nothing x.answer m said)
    go (answer text) said left = front-within out text lent_after n (k ∙ wrote-returned x.answer (length text) said) left

-- With one that is long enough it writes the text.
module _ (r : Run) (out : List ℕ) (x : Saved) (lent_after : List ℕ) (e : FinishingText r out x lent_after) (sound : is_sound r ≡ true)
    (room : length (text_of r) ≤ length out) where
  text-saved : saved_by r (length out) ≡ answer (text_of r)
  text-saved =
      let long : is_shorter (length out) (text_of r) ≡ false = le-ltb _ _ room in
      rw (sound, made-rules r sound, long) refl

  text-returned : returned x.answer ≡ wrote_bytes (length (text_of r))
  text-returned = e.answered ∙ ap returned_for text-saved

  text-left : lent_after ≡ written out 0 (text_of r)
  text-left = e.buffer ∙ ap (buffer_after out) text-saved

  pub text-tallies : as_tallies x.tallies ≡ (makes r []).notes.tallies
  text-tallies = e.tallies ∙ rw sound refl

  -- so it isn't refused
  pub text_goes : is_ok x.answer ≡ true
  text_goes = go x.answer text-returned
    where
      go : (a : Result ℕ Refusal) → returned a ≡ wrote_bytes (length (text_of r)) → is_ok a ≡ true
      go (Ok n) e = refl
      go (Err q) e = absurd (true≢false (ap is_refusal e))

  text-wrote : wrote_of x.answer ≡ length (text_of r)
  text-wrote = wrote-returned x.answer (length (text_of r)) text-returned

  -- and is at the front of the buffer
  pub text-told : (n : ℕ) → x.answer ≡ Ok n → take n lent_after ≡ text_of r
  text-told n e = front_told out (text_of r) lent_after n (sym (ap wrote_of e) ∙ text-wrote) text-left

-- a run that still prints, behind a text, what a whole input prints makes what that input makes, as far as anything is told of it
pub made-whole : (input text : List ℕ) (r : Run)
    → ((at_end : State → List ℕ) → run_to at_end start (lines input) ≡ text ++ prints_to at_end r [])
    → ToldSame (after_lines start (lines input)) (makes r [])
made-whole input text r whole = made-same start (view_state r.state) (lines input) (lines (so_far r.pending ++ [])) text whole

-- what the calls print, and what the run still prints after them, is what it would have printed, whatever is printed at the end; and the
-- run stays sound
feeds_prints : {r last : Run} {text : List ℕ} {pieces : List (List ℕ)} → Feeds r pieces text last
    → ((at_end : State → List ℕ) → prints_to at_end r (joined pieces) ≡ text ++ prints_to at_end last []) × (is_sound last ≡ is_sound r)
feeds_prints over = (λ at_end. refl, refl)
feeds_prints (used_up fs) = feeds_prints fs
feeds_prints {r} {pieces = piece ∷ pieces} (fed out f lent_after e fs) =
    let i = feeds_prints fs in (
      λ at_end. rw (append_assoc, fed-front r piece out f lent_after e)
          (e.goes_on at_end (joined pieces) ∙ ap (λ (l : List ℕ). fed_text r piece (length out) ++ l) (i.0 at_end)),
      i.1 ∙ e.sound,
    )

-- From an unused run, over all pieces, to the end: what the calls of `feed` print and what `finish` prints is the output of the whole
-- input.
pub prints_all : (pieces : List (List ℕ)) (first last : Run) (text out : List ℕ) (a : Result ℕ Refusal) (lent_after : List ℕ)
    → Starting first
    → Feeds first pieces text last
    → Finishing last out a lent_after
    → min_room ≤ length out
    → text ++ take (wrote_of a) lent_after ≡ output (joined pieces)
prints_all pieces first last text out a lent_after s fs e room =
    let i = feeds_prints fs in
    ap (λ (l : List ℕ). text ++ l) (finish_front last out a lent_after e (i.1 ∙ s.sound) room)
    ∙ sym (i.0 end_text)
    ∙ s.whole end_text (joined pieces)

-- Likewise for the text of the book: what `finish_text` leaves is the text of the book that the whole input makes.
pub saves_all : (pieces : List (List ℕ)) (first last : Run) (text out : List ℕ) (x : Saved) (lent_after : List ℕ)
    → Starting first
    → Feeds first pieces text last
    → FinishingText last out x lent_after
    → length (saved_output (joined pieces)) ≤ length out
    → SavingAll (joined pieces) out x lent_after
saves_all pieces first last text out x lent_after s fs e room =
    let i = feeds_prints fs in
    let input = joined pieces in
    let told = made-whole input text last (λ at_end. sym (s.whole at_end input) ∙ i.0 at_end) in
    let same : saved_output input ≡ text_of last = same_text (after_lines start (lines input)) (makes last []) told in
    let sound = i.1 ∙ s.sound in
    let long : length (text_of last) ≤ length out = rw same at room in
    record {
      answered = rw same (text-returned last out x lent_after e sound long);
      buffer = rw same (text-left last out x lent_after e sound long);
      tallies = text-tallies last out x lent_after e sound long ∙ sym (same-tallies (after_lines start (lines input)) (makes last []) told);
    }

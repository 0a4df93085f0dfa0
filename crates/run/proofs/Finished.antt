-- The end of the input: a last line that isn't empty, and the tallies or the text of the book.
use Rattle.std.specs.Prelude.{Result, Ok}
use Rattle.refusals.specs.declared.Refusal.{Refusal}
use mathlib.Core.Path.{◌≡◌, refl, sym, ap, ◌∙◌}
use mathlib.Core.Bool.{true, false}
use mathlib.Core.List.{List, [], ◌∷◌, ◌++◌}
use Prim.Native.Nat.{ℕ, ◌+◌, ◌≤◌, ◌<◌}
use native.Mathlib.Nat.{not-suc-le-zero}
use native.Mathlib.Omega.{arith}
use lib.ListN.{length, length-append}
use lib.Seq.{length-take-le}
use borrow.Author.Tests.{le-ltb}
use Rattle.semantics.specs.Limits.{min_room}
use Rattle.semantics.specs.Text.{is_blank}
use Rattle.semantics.specs.Buffers.{written}
use Rattle.semantics.specs.Engine.{is_short, end_text, saved, returned_for, buffer_after}
use Rattle.semantics.specs.Program.{lines, run_to}
use Rattle.semantics.proofs.ShortLines.{cut_line}
use Rattle.writing.proofs.Writes.{written_then}
use Rattle.network.specs.View.{view_state}
use Rattle.input.specs.Cutting.{kept_bytes, so_far, handed}
use Rattle.input.proofs.Cutting.{last_line}
use Rattle.engine.specs.Calls.{Saving}
use Rattle.run.specs.declared.Run.{Run}
use Rattle.run.specs.Runs.{LineAlone, is_sound, prints, makes, Printing, last_prints, TakingLast, Finishing}
use Rattle.run.specs.Runs.{saved_by, FinishingText}
use Rattle.run.proofs.Made.{made-rules, ToldSame, made-same, same-tallies, same-saved}
use Rattle.run.proofs.Prints.{sound-fits, sound_no_end, run_to-passed}

-- bytes of which there is one are not blank
not_blank : (s : List ℕ) → 0 < length s → is_blank s ≡ false
not_blank [] h = absurd (not-suc-le-zero h)
not_blank (b ∷ s) h = refl

-- A run that can go on.
module _ (r : Run) (sound : is_sound r ≡ true) (out : List ℕ) where
  -- a last line of which a byte came in is taken
  pub last_line-taken : (p : LineAlone) (mid : List ℕ) → (r.pending.length ≡ 0 → ⊥) → length r.pending.bytes ≡ kept_bytes
      → Printing r.state (so_far r.pending) out p mid
      → TakingLast r out p mid
  last_line-taken p mid some long w =
      let line = so_far r.pending in
      let s = view_state r.state in
      let fits = sound-fits r sound in
      let no_end = sound_no_end r sound in
      let l : length line ≡ r.pending.length = length-take-le r.pending.length r.pending.bytes (omega arith) in
      let kept : is_blank line ≡ false = not_blank line (omega arith) in
      let one : handed line [] ≡ line ∷ [] = last_line r.pending no_end fits ∙ rw kept in
      record {
        wrote = rw kept w.wrote;
        end = rw kept w.end;
        room = w.room;
        struct = rw kept w.struct;
        rules = w.rules;
        goes_on = λ at_end.
            run_to-passed at_end s (lines (line ++ [])) ∙ ap (run_to at_end s) one ∙ ap (run_to at_end s) (sym (cut_line line [] no_end))
            ∙ w.goes_on at_end [] ∙ rw kept refl;
      }

  module _ (p : LineAlone) (mid : List ℕ) (w : TakingLast r out p mid) where
    -- the tallies come behind what it prints
    ends-all : (n : ℕ) (lent_after : List ℕ) → min_room ≤ length out → n ≡ p.end + length (end_text (view_state p.state))
        → lent_after ≡ written mid p.end (end_text (view_state p.state))
        → (n ≡ length (prints r [])) × (lent_after ≡ written out 0 (prints r []))
    ends-all n lent_after room e v =
        let a = last_prints r in
        let b = end_text (view_state p.state) in
        let f : 0 + length a ≤ length out = omega (arith, w.end, w.room) in
        let place : p.end ≡ 0 + length a = omega (arith, w.end) in
        let on : prints r [] ≡ a ++ b = w.goes_on end_text in
        (e ∙ rw (on, length-append a b, w.end) refl, v ∙ rw (on, w.wrote, place) (written_then out a b 0 f))

    pub ends_tallies : (n : ℕ) (lent_after : List ℕ) → min_room ≤ length out → n ≡ p.end + length (end_text (view_state p.state))
        → lent_after ≡ written mid p.end (end_text (view_state p.state))
        → Finishing r out (Ok n) lent_after
    ends_tallies n lent_after room e v =
        let short : is_short (length out) ≡ false = le-ltb _ _ room in
        let all = ends-all n lent_after room e v in
        record { answered = rw (short, sound) (ap Ok all.0); wrote = rw (short, sound) all.1 }

    -- the state after it is what the lines make, as far as anything is told of it
    last_told : ToldSame (makes r []) (view_state p.state)
    last_told =
        made-same (view_state r.state) (view_state p.state) (lines (so_far r.pending ++ [])) [] (last_prints r) w.goes_on

    -- so its text is the one that is asked for
    pub ends_text : (lent lent_after : List ℕ) (a : Result ℕ Refusal) → Saving p.state lent a lent_after
        → FinishingText r lent (record { answer = a; tallies = p.state.notes.tallies }) lent_after
    ends_text lent lent_after a saves =
        let s = view_state p.state in
        let m = makes r [] in
        let same : saved s (length lent) ≡ saved_by r (length lent) =
        rw sound (sym (same-saved m s (length lent) last_told (made-rules r sound) w.rules)) in
        record {
          answered = saves.answered ∙ ap returned_for same;
          buffer = saves.buffer ∙ ap (buffer_after lent) same;
          tallies = rw sound (sym (same-tallies m s last_told));
        }

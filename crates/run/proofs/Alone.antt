-- A line that is handed to `take_lines` alone, with byte 10 behind it: what is taken is that line.
use mathlib.Core.Path.{◌≡◌, refl, sym, ap, ◌∙◌}
use mathlib.Core.Bool.{Bool, true, cond}
use mathlib.Core.List.{List, [], ◌∷◌, ◌++◌, append_assoc}
use Prim.Native.Nat.{ℕ, suc, ◌+◌, ◌≤◌}
use native.Mathlib.Omega.{arith}
use lib.ListN.{length, take, drop, replicate, length-append, length-replicate, get_or-replicate}
use lib.Seq.{drop-cons, take_all, take-append-add, drop-length}
use borrow.Author.Tests.{le-leb}
use Rattle.semantics.specs.Limits.{min_room}
use Rattle.semantics.specs.Buffers.{written}
use Rattle.semantics.specs.Engine.{holds}
use Rattle.semantics.specs.Program.{lines, run_to}
use Rattle.semantics.specs.Engine as model
use Rattle.writing.proofs.Writes.{written-front}
use Rattle.network.specs.declared.State.{State}
use Rattle.network.specs.View.{view_state}
use Rattle.input.specs.Cutting.{kept_bytes, no_end}
use Rattle.input.proofs.Ended.{ended-first}
use Rattle.taking.specs.declared.Taken.{Taken}
use Rattle.taking.specs.Lines.{struct_taken}
use Rattle.taking.specs.Pieces.{line_prints, Took, took_line, taking, untouched, took_of, TakingLines}
use Rattle.run.specs.Runs.{line_alone, Printing}
use Rattle.run.proofs.Short.{prints_short}

-- a line that is written over bytes 10 and leaves one of them at least has that one behind it
line-ended : (line : List ℕ) (k : ℕ) → suc (length line) ≤ k → take (length line + 1) (written (replicate k 10) 0 line) ≡ line ++ (10 ∷ [])
line-ended line k h =
    let ten = get_or-replicate {A = ℕ} k (length line) 10 0 h in
    let more = drop-cons {A = ℕ} (replicate k 10) (length line) 0 (rw length-replicate h) in
    rw (written-front, take-append-add, more, ten) refl

module _ (s : State) (line out : List ℕ) (rules : holds (view_state s) ≡ true) (fits : length line ≤ kept_bytes)
    (open_line : no_end line ≡ true) (room : min_room ≤ length out) where
  abbrev ended : List ℕ
  ended = line ++ (10 ∷ [])

  -- it is taken, as there is room for its answer
  took_line_lem : took_of s ended (length out) ≡ took_line (untouched s) line
  took_line_lem =
      ap (taking (length out) (untouched s)) (ended-first line [] open_line)
      ∙ ap (λ (b : Bool). cond b (took_line (untouched s) line) (untouched s)) (le-leb (0 + min_room) (length out) (omega arith))

  module _ (u : State) (r : Taken) (last : List ℕ) (t : TakingLines s ended out u r last) where
    text : (took_of s ended (length out)).text ≡ line_prints s line
    text = ap (λ (k : Took). k.text) took_line_lem ∙ ap (line_prints s) (take_all kept_bytes line fits)

    state : (took_of s ended (length out)).state ≡ struct_taken s line
    state = ap (λ (k : Took). k.state) took_line_lem ∙ ap (struct_taken s) (take_all kept_bytes line fits)

    -- and nothing is left of the piece
    used : drop r.next ended ≡ []
    used =
        let z : r.next ≡ length ended = t.next ∙ ap (λ (k : Took). k.next) took_line_lem ∙ rw length-append (omega arith) in
        rw z (drop-length ended)

    on : (at_end : model.State → List ℕ) (more : List ℕ)
        → run_to at_end (view_state s) (lines (line ++ (10 ∷ more))) ≡ line_prints s line ++ run_to at_end (view_state u) (lines more)
    on at_end more =
        ap (λ (l : List ℕ). run_to at_end (view_state s) (lines l)) (sym (append_assoc line (10 ∷ []) more))
        ∙ t.goes_on at_end more ∙ rw (text, used) refl

    alone : Printing s line out (line_alone u r.end) last
    alone =
        record {
          wrote = t.buffer ∙ ap (written out 0) text;
          end = t.end ∙ ap length text;
          room = omega (arith, t.end, ap length text, prints_short (view_state s) line rules);
          struct = t.struct ∙ state;
          rules = t.rules;
          goes_on = on;
        }

-- `print_line`
pub printing : (s : State) (line out whole : List ℕ) (n : ℕ) (u : State) (r : Taken) (last : List ℕ) → holds (view_state s) ≡ true → length line ≤ kept_bytes
    → no_end line ≡ true → min_room ≤ length out → n ≡ 0 + length line → whole ≡ written (replicate (suc kept_bytes) 10) 0 line
    → TakingLines s (take (n + 1) whole) out u r last
    → Printing s line out (line_alone u r.end) last
printing s line out whole n u r last rules fits open_line room e w t =
    let long : n + 1 ≡ length line + 1 = omega arith in
    let same : take (n + 1) whole ≡ line ++ (10 ∷ []) = rw (long, w) (line-ended line (suc kept_bytes) (omega arith)) in
    alone s line out rules fits open_line room u r last (rw same at t)

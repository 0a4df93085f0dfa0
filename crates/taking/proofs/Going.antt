-- The invariant of `take_lines`: how far lines were taken, and that what is left, taken from here, gives the whole.
use mathlib.Core.Path.{◌≡◌, refl, sym, ap, ◌∙◌}
use mathlib.Core.Bool.{true}
use mathlib.Core.List.{List, [], ◌∷◌, ◌++◌, append_assoc}
use Prim.Native.Nat.{ℕ, suc, ◌+◌, ◌-◌, ◌≤◌, ◌<◌}
use native.Mathlib.Omega.{arith}
use lib.ListN.{length, take, drop, length-append}
use borrow.Author.Tests.{le-leb, lt-leb}
use Rattle.semantics.specs.Limits.{min_room}
use Rattle.semantics.specs.Buffers.{written}
use Rattle.semantics.specs.Engine as model
use Rattle.semantics.specs.Engine.{taken, holds}
use Rattle.semantics.specs.Program.{lines, passed, run_to}
use Rattle.writing.proofs.Writes.{written_nil, written_then, length-written}
use Rattle.writing.proofs.Parts.{part, back, front_fits, part_length, back_written}
use Rattle.network.specs.declared.State.{State}
use Rattle.network.specs.View.{Lengths, view_state}
use Rattle.input.specs.Cutting.{until_end, line_end, passed_end, ended_lines, no_end}
use Rattle.input.proofs.Ended.{ended-none, next-ended, next-lines, next-passed, no_more}
use Rattle.taking.specs.Lines.{struct_taken}
use Rattle.taking.specs.Pieces.{line_prints, Took, took_line, taking, took_of, TakingLines}
use Rattle.taking.proofs.Taking.{taken-seen}

-- how far the lines were taken, in the definitions' words
abbrev reached : State → List ℕ → ℕ → Took
reached t text next = record { state = t; text = text; next = next }

pub record Going (piece out₀ : List ℕ) (s : State) (out : List ℕ) (t : State) (next end : ℕ) : Type 0 where
  -- all that was printed so far
  pub text : List ℕ
  pub size : length out ≡ length out₀
  pub wrote : out ≡ written out₀ 0 text
  pub ends : end ≡ length text
  pub room : end ≤ length out
  pub within : next ≤ length piece
  pub whole : taking (length out₀) (reached t text next) (ended_lines (drop next piece)) ≡ took_of s piece (length out₀)
  pub goes_on : (at_end : model.State → List ℕ) (more : List ℕ)
      → run_to at_end (view_state s) (lines (piece ++ more)) ≡ text ++ run_to at_end (view_state t) (lines (drop next piece ++ more))

-- START: nothing is taken yet
pub start : (piece out : List ℕ) (s : State) → Going piece out s out s 0 0
start piece out s =
    record {
      text = [];
      size = refl;
      wrote = sym (written_nil out 0);
      ends = refl;
      room = omega arith;
      within = omega arith;
      whole = refl;
      goes_on = λ at_end more. refl;
    }

-- the part of the buffer that a line gets, and the buffer with other bytes in its place
abbrev pub lent_part : List ℕ → ℕ → List ℕ
lent_part out end = part out end (end + min_room - end)

abbrev pub put_back : List ℕ → ℕ → List ℕ → List ℕ
put_back out end last = back out end (end + min_room - end) last

-- TURN: a line that byte 10 ends is found, and what it prints goes into its part of the buffer
module _ (piece out₀ : List ℕ) (s : State) (out : List ℕ) (t : State) (next end : ℕ) (g : Going piece out₀ s out t next end)
    (space : min_room ≤ length out - end) (stop : ℕ) (found : stop ≡ line_end piece next) (complete : stop < length piece)
    (cut : ℕ) (cuts : cut ≡ passed_end next stop) (u : State)
    (left : u ≡ struct_taken t (take (cut - next) (drop next piece))) (wrote : ℕ)
    (bytes : wrote ≡ length (line_prints t (take (cut - next) (drop next piece)))) (last : List ℕ)
    (prints : last ≡ written (lent_part out end) 0 (line_prints t (take (cut - next) (drop next piece))))
    (same : length last ≡ length (lent_part out end)) where
  fits : end + (end + min_room - end) ≤ length out
  fits = omega (arith, g.room, space)

  abbrev line : List ℕ
  line = until_end (drop next piece)

  abbrev says : List ℕ
  says = line_prints t (passed line)

  got : take (cut - next) (drop next piece) ≡ passed line
  got = next-passed piece next stop found complete cut cuts

  struct : u ≡ struct_taken t (passed line)
  struct = left ∙ ap (struct_taken t) got

  printed_so : last ≡ written (lent_part out end) 0 says
  printed_so = prints ∙ ap (λ (l : List ℕ). written (lent_part out end) 0 (line_prints t l)) got

  wrote_so : wrote ≡ length says
  wrote_so = bytes ∙ ap (λ (l : List ℕ). length (line_prints t l)) got

  -- the text fits the part
  short : length says ≤ end + min_room - end
  short =
      let f = front_fits (lent_part out end) says (sym (ap length printed_so) ∙ same) in
      omega (arith, part_length out end (end + min_room - end) fits)

  pub wrote_short : end + wrote ≤ length out
  wrote_short = omega (arith, short, wrote_so)

  -- and is behind what was printed
  put : put_back out end last ≡ written out end says
  put = rw printed_so (back_written out end (end + min_room - end) fits says short)

  place : next + suc (length line) ≡ stop + 1
  place = omega (arith, found)

  one_more : took_line (reached t g.text next) line ≡ reached u (g.text ++ says) (stop + 1)
  one_more = rw (struct, place) refl

  pub turn : holds (view_state t) ≡ true → Lengths t.network → Going piece out₀ s (put_back out end last) u (stop + 1) (end + wrote)
  turn kept long =
      let seen : view_state u ≡ (taken (view_state t) (passed line)).state = ap view_state struct ∙ taken-seen t (passed line) kept long in
      let at : end ≡ 0 + length g.text = omega (arith, g.ends) in
      let within-out : 0 + length g.text ≤ length out₀ = omega (arith, g.ends, g.room, g.size) in
      let size : length (put_back out end last) ≡ length out = rw put (length-written out says end (omega (arith, short))) in
      let test : length g.text + min_room ≤ length out₀ = omega (arith, g.ends, g.size, g.room, space) in
      record {
        text = g.text ++ says;
        size = size ∙ g.size;
        wrote =
            put ∙ ap (λ (l : List ℕ). written l end says) g.wrote ∙ ap (λ (k : ℕ). written (written out₀ 0 g.text) k says) at
            ∙ written_then out₀ g.text says 0 within-out;
        ends = rw length-append (omega (arith, g.ends, wrote_so));
        room = omega (arith, size, wrote_short);
        within = omega (arith, complete);
        whole = rw (← one_more) (sym (rw (next-ended piece next stop found complete, le-leb _ _ test)) ∙ g.whole);
        goes_on = λ at_end more.
            g.goes_on at_end more
            ∙ rw (next-lines piece next stop found complete more, seen) (sym (append_assoc g.text says _));
      }

-- FINISH: no room for one more answer, or no line that byte 10 ends
module _ (s : State) (piece out₀ out : List ℕ) (t : State) (kept : holds (view_state t) ≡ true) (next end : ℕ)
    (g : Going piece out₀ s out t next end) where
  finished : taking (length out₀) (reached t g.text next) (ended_lines (drop next piece)) ≡ reached t g.text next
      → (end + min_room ≤ length out₀ → no_end (drop next piece) ≡ true)
      → TakingLines s piece out₀ t (record { next = next; end = end }) out
  finished e why =
      let p : took_of s piece (length out₀) ≡ reached t g.text next = sym g.whole ∙ e in
      record {
        struct = rw p refl;
        next = rw p refl;
        end = rw p g.ends;
        buffer = rw p g.wrote;
        rules = kept;
        goes_on = λ at_end more. rw p (g.goes_on at_end more);
        within = g.within;
        room = omega (arith, g.room, g.size);
        stopped = why;
      }

  pub no_room : length out - end < min_room → TakingLines s piece out₀ t (record { next = next; end = end }) out
  no_room h =
      let full : length out₀ < length g.text + min_room = omega (arith, g.ends, g.size, g.room) in
      finished (stuck (ended_lines (drop next piece)) full) (λ k. absurd (omega (arith, g.ends)))
    where
      stuck : (ls : List (List ℕ)) → length out₀ < length g.text + min_room
          → taking (length out₀) (reached t g.text next) ls ≡ reached t g.text next
      stuck [] k = refl
      stuck (l ∷ ls) k = rw (lt-leb _ _ k)

  pub no_line_lem : (stop : ℕ) → stop ≡ line_end piece next → length piece ≤ stop
      → TakingLines s piece out₀ t (record { next = next; end = end }) out
  no_line_lem stop e h =
      let none = no_more piece next stop e h in
      let z : ended_lines (drop next piece) ≡ [] = ended-none (drop next piece) none in
      finished (rw z) (λ k. none)

-- A piece of the input: what it prints and leaves, and what that means for what is still to come.
use Rattle.std.specs.Prelude.{Ok, Option, Some, None, MatchOption}
use Rattle.std.specs.Bool.{then_some}
use Rattle.std.specs.Option.{unwrap_or}
use Rattle.std.proofs.lemmas.Bool.Decides.{nat_tests}
use lib.Dec.{leb}
use mathlib.Core.Path.{◌≡◌, refl, sym, ap, ◌∙◌}
use mathlib.Core.Bool.{Bool, true, false, cond, true≢false}
use mathlib.Core.List.{List, ◌∷◌, ◌++◌, append_assoc, append-nil}
use Prim.Native.Nat.{ℕ, suc, ◌+◌, ◌-◌, ◌≤◌, ◌<◌}
use native.Mathlib.Omega.{arith}
use lib.ListN.{length, take, drop, length-append, length-drop}
use lib.Seq.{drop-append-add, drop-length}
use borrow.Author.Tests.{le-leb, leb-true, le-ltb, ltb-true, ltb-false}
use Rattle.semantics.specs.Limits.{min_room}
use Rattle.semantics.specs.Buffers.{written}
use Rattle.semantics.specs.Engine as model
use Rattle.semantics.specs.Engine.{is_short, holds}
use Rattle.semantics.specs.Program.{lines, passed, run_to}
use Rattle.semantics.proofs.Lists.{and_both}
use Rattle.writing.proofs.Writes.{written_nil, written_then}
use Rattle.network.specs.declared.State.{State}
use Rattle.network.specs.View.{view_state}
use Rattle.input.specs.declared.Pending.{Pending}
use Rattle.input.specs.declared.Cut.{Cut}
use Rattle.input.specs.Cutting.{kept_bytes, until_end, has_end, ended_lines, so_far, no_line, grown, read_on, no_end, is_open}
use Rattle.input.proofs.Lines.{no_end-append, no_end-take}
use Rattle.input.proofs.Ended.{ended-none, ended-first}
use Rattle.input.proofs.Cutting.{until_no_end, until_split, until_all, until_open, so_far_grown, grown-fits, so_far_none, none_wide, none-fits}
use Rattle.taking.specs.declared.Taken.{Taken}
use Rattle.taking.specs.Lines.{struct_taken}
use Rattle.taking.specs.Pieces.{line_prints, Took, took_line, taking, untouched, took_of, TakingLines}
use Rattle.run.specs.declared.Run.{Run}
use Rattle.run.specs.declared.Fed.{Fed}
use Rattle.run.specs.Runs.{LineAlone, run_of, is_sound, prints_to, Printing, has_room, left_over, heard, took_by, pending_after, run_after, next_after}
use Rattle.run.specs.Runs.{fed_on, Feeding}
use Rattle.run.proofs.Taking.{behind, taking_behind, taking_on}
use Rattle.run.proofs.Parts.{rest, back, rest_all, back_written, back_length}
use Rattle.run.proofs.Prints.{sound-rules, sound-fits, sound_no_end, is_open_lem, none_open, run_to_kept}

-- where no byte 10 comes, all bytes are of one line
all_open : (bytes : List ℕ) → has_end bytes ≡ false → (bytes ≡ until_end bytes) × (no_end bytes ≡ true)
all_open bytes e =
    let all : bytes ≡ until_end bytes = until_all bytes (ltb-false _ _ e) in
    (all, ap no_end all ∙ until_no_end bytes)

-- then reading on uses the piece up
read_open : (p : Pending) (piece : List ℕ) (next : ℕ) → next ≤ length piece → no_end (drop next piece) ≡ true
    → ◌≡◌ {A = Cut} (read_on p piece next) (record { pending = grown p (drop next piece); next = None })
read_open p piece next h e =
    let d = drop next piece in
    rw (until_open d e, le-ltb (length d) (length d) (omega arith))

-- a line of which nothing has come in is within what is kept
pub fresh_fits : (p : Pending) → p ≡ no_line → p.length ≤ kept_bytes
fresh_fits p e = rw e none-fits

-- the line that the first byte 10 of a piece ends, and what comes behind that
abbrev first_line : Run → List ℕ → List ℕ
first_line r piece = so_far r.pending ++ until_end piece

abbrev others : List ℕ → List ℕ
others piece = drop (suc (length (until_end piece))) piece

first_open : (r : Run) (piece : List ℕ) → is_sound r ≡ true → no_end (first_line r piece) ≡ true
first_open r piece sound = no_end-append (so_far r.pending) (until_end piece) (sound_no_end r sound) (until_no_end piece)

-- What the lines that are taken of the line so far and a piece lead to: they stay within the bytes, the rules stay kept, and what is printed
-- then and what is still printed is what was. They stop for lack of room or of a line.
record Went (r : Run) (piece : List ℕ) (size : ℕ) : Type 0 where
  within : (took_by r piece size).next ≤ length (heard r piece)
  rules : holds (view_state (took_by r piece size).state) ≡ true
  goes_on : (at_end : model.State → List ℕ) (more : List ℕ)
      → run_to at_end (view_state r.state) (lines (heard r piece ++ more))
      ≡ (took_by r piece size).text
      ++ run_to at_end (view_state (took_by r piece size).state) (lines (drop (took_by r piece size).next (heard r piece) ++ more))
  stopped : has_room size (length (took_by r piece size).text) ≡ true → no_end (drop (took_by r piece size).next (heard r piece)) ≡ true

-- A sound run, with room.
module _ (r : Run) (piece : List ℕ) (size : ℕ) (sound : is_sound r ≡ true) (room : min_room ≤ size) where
  abbrev u : Took
  u = took_by r piece size

  first-room : has_room size 0 ≡ true
  first-room = le-leb (0 + min_room) size (omega arith)

  -- no byte 10 comes: nothing is taken
  module _ (e : has_end piece ≡ false) where
    none_open_line : no_end (heard r piece) ≡ true
    none_open_line = no_end-append (so_far r.pending) piece (sound_no_end r sound) (all_open piece e).1

    none_took : u ≡ untouched r.state
    none_took = rw (ended-none (heard r piece) none_open_line)

    none_went : Went r piece size
    none_went =
        record {
          within = rw none_took (omega arith);
          rules = rw none_took (sound-rules r sound);
          goes_on = λ at_end more. rw none_took refl;
          stopped = λ h. rw none_took none_open_line;
        }

  -- byte 10 comes: the line so far is the first
  module _ (e : has_end piece ≡ true) where
    split : heard r piece ≡ first_line r piece ++ (10 ∷ others piece)
    split =
        ap (λ (l : List ℕ). so_far r.pending ++ l) (until_split piece (ltb-true _ _ e))
        ∙ sym (append_assoc (so_far r.pending) (until_end piece) (10 ∷ others piece))

    abbrev one : Took
    one = took_line (untouched r.state) (first_line r piece)

    first_took : u ≡ taking size one (ended_lines (others piece))
    first_took =
        ap (taking size (untouched r.state)) (ap ended_lines split ∙ ended-first (first_line r piece) (others piece) (first_open r piece sound))
        ∙ ap (λ (b : Bool). cond b (taking size one (ended_lines (others piece))) (untouched r.state)) first-room

    past : length (first_line r piece) < u.next
    past = omega (arith, ap (λ (t : Took). t.next) first_took, taking_on size one (ended_lines (others piece)))

  -- without room for one more answer, lines were taken
  short_past : has_room size (length u.text) ≡ false → length (so_far r.pending) < u.next
  short_past h = go (has_end piece) refl
    where
      go : (b : Bool) → has_end piece ≡ b → length (so_far r.pending) < u.next
      go true e = omega (arith, past e, length-append (so_far r.pending) (until_end piece))
      go false e = absurd (true≢false (sym first-room ∙ sym (ap (λ (t : Took). has_room size (length t.text)) (none_took e)) ∙ h))

  -- what the lines lead to
  module _ (wide : length r.pending.bytes ≡ kept_bytes) (w : Went r piece size) where
    abbrev left : List ℕ
    left = drop u.next (heard r piece)

    next-within : u.next ≤ length (so_far r.pending) + length piece
    next-within = omega (arith, w.within, length-append (so_far r.pending) piece)

    left_piece : length (so_far r.pending) ≤ u.next → left ≡ drop (u.next - length (so_far r.pending)) piece
    left_piece h =
        let z : length (so_far r.pending) + (u.next - length (so_far r.pending)) ≡ u.next = omega arith in
        rw z at (drop-append-add (so_far r.pending) piece (u.next - length (so_far r.pending)))

    -- the line that is coming in is what is left, as far as it is kept
    after_kept : (so_far (pending_after r piece u) ≡ take kept_bytes left) × ((pending_after r piece u).length ≤ kept_bytes)
    after_kept = go (has_end piece) refl
      where
        go : (b : Bool) → has_end piece ≡ b
            → let p = cond b (grown no_line left) (grown r.pending piece) in
            (so_far p ≡ take kept_bytes left) × (p.length ≤ kept_bytes)
        go true e = (
          so_far_grown no_line none_wide none-fits left ∙ ap (λ (l : List ℕ). take kept_bytes (l ++ left)) so_far_none,
          grown-fits no_line none_wide none-fits left,
        )
        go false e =
            let f = sound-fits r sound in (
              so_far_grown r.pending wide f piece ∙ sym (ap (λ (t : Took). take kept_bytes (drop t.next (heard r piece))) (none_took e)),
              grown-fits r.pending wide f piece,
            )

    -- by whether there is room for one more answer
    after_open : (b : Bool) → has_room size (length u.text) ≡ b → is_open (cond b (pending_after r piece u) no_line) ≡ true
    after_open true h =
        is_open_lem (pending_after r piece u) after_kept.1 (ap no_end after_kept.0 ∙ no_end-take kept_bytes left (w.stopped h))
    after_open false h = none_open

    after-prints : (at_end : model.State → List ℕ) (b : Bool) → has_room size (length u.text) ≡ b → (more : List ℕ)
        → run_to at_end (view_state u.state) (lines (left ++ more))
        ≡ run_to at_end (view_state u.state) (lines (so_far (cond b (pending_after r piece u) no_line)
        ++ (drop (cond b (length piece) (u.next - length (so_far r.pending))) piece ++ more)))
    after-prints at_end true h more = rw (after_kept.0, drop-length) (sym (run_to_kept at_end (view_state u.state) left more (w.stopped h)))
    after-prints at_end false h more = rw (so_far_none, left_piece (omega (arith, short_past h)))

    after-within : (b : Bool) → has_room size (length u.text) ≡ b
        → cond b (length piece) (u.next - length (so_far r.pending)) ≤ length piece
    after-within true h = omega arith
    after-within false h = omega (arith, next-within)

    after-moves : (b : Bool) → has_room size (length u.text) ≡ b → 0 < length piece
        → 0 < cond b (length piece) (u.next - length (so_far r.pending))
    after-moves true h l = l
    after-moves false h l = omega (arith, short_past h)

    -- what the code makes of it
    left_fed : has_end piece ≡ true
        → let l = left_over piece (u.next - length (so_far r.pending)) (has_room size (length u.text)) in
        ◌≡◌ {A = Fed} (record { run = run_of u.state l.0; answer = Ok (length u.text); next = l.1 }) (fed_on r piece size)
    left_fed e = go (has_room size (length u.text)) refl
      where
        go : (b : Bool) → has_room size (length u.text) ≡ b
            → let n = u.next - length (so_far r.pending) in
            let l = left_over piece n b in
            ◌≡◌ {A = Fed} (record { run = run_of u.state l.0; answer = Ok (length u.text); next = l.1 }) (record {
              run = record { state = u.state; pending = cond b (pending_after r piece u) no_line };
              answer = Ok (length u.text);
              next = cond b (length piece) n;
            })
        go false h = refl
        go true h =
            let same = left_piece (omega (arith, past e, length-append (so_far r.pending) (until_end piece))) in
            let n = u.next - length (so_far r.pending) in
            let o = read_open no_line piece n (omega (arith, next-within)) (ap no_end (sym same) ∙ w.stopped h) in
            let grows : (read_on no_line piece n).pending ≡ grown no_line left = ap (λ (k : Cut). k.pending) o ∙ ap (grown no_line) (sym same) in
            let all : unwrap_or (read_on no_line piece n).next (length piece) ≡ length piece =
            ap (λ (k : Cut). unwrap_or k.next (length piece)) o in
            rw (grows, all, e) refl

    whole-prints : (at_end : model.State → List ℕ) (more : List ℕ)
        → prints_to at_end r (piece ++ more)
        ≡ u.text ++ prints_to at_end (run_after r piece size u) (drop (next_after r piece size u) piece ++ more)
    whole-prints at_end more =
        ap (λ (l : List ℕ). run_to at_end (view_state r.state) (lines l)) (sym (append_assoc (so_far r.pending) piece more))
        ∙ w.goes_on at_end more
        ∙ ap (λ (l : List ℕ). u.text ++ l) (after-prints at_end (has_room size (length u.text)) refl more)

-- a struct and bytes that are as the definitions have them, for a sound run and with room, are all that is owed of the call
feeds : (r : Run) (piece out : List ℕ) (sound : is_sound r ≡ true) (room : min_room ≤ length out)
    (wide : length r.pending.bytes ≡ kept_bytes) → Went r piece (length out) → (f : Fed) (lent_after : List ℕ)
    → f ≡ fed_on r piece (length out) → lent_after ≡ written out 0 (took_by r piece (length out)).text → Feeding r piece out f lent_after
feeds r piece out sound room wide w f lent_after whole wrote =
    let size = length out in
    let short : is_short size ≡ false = le-ltb _ _ room in
    let u = took_by r piece size in
    let test = has_room size (length u.text) in
    let opened = after_open r piece size sound room wide w test refl in
    record {
      whole = rw (short, sound) whole;
      wrote = rw (short, sound) wrote;
      sound = ap (λ (g : Fed). is_sound g.run) whole
          ∙ and_both (holds (view_state u.state)) (is_open (run_after r piece size u).pending) w.rules opened ∙ sym sound;
      goes_on = λ at_end more. rw (whole, short, sound) (whole-prints r piece size sound room wide w at_end more);
      within = rw whole (after-within r piece size sound room wide w test refl);
      moves = λ n k l. rw whole (after-moves r piece size sound room wide w test refl l);
    }

-- whether and where byte 10 came is what is told of it
end_told : (piece : List ℕ) (b : Bool) → has_end piece ≡ b → (next : Option ℕ) → next ≡ then_some b (suc (length (until_end piece)))
    → MatchOption next (has_end piece ≡ false) (λ from. (has_end piece ≡ true) × (from ≡ suc (length (until_end piece))))
end_told piece true h next e = rw e (h, refl)
end_told piece false h next e = rw e h

-- `feed` reads on in the piece.
module _ (r : Run) (piece : List ℕ) (c : Cut) (cut : c ≡ read_on r.pending piece 0) where
  cut_told : MatchOption c.next (has_end piece ≡ false) (λ from. (has_end piece ≡ true) × (from ≡ suc (length (until_end piece))))
  cut_told =
      let n = length (until_end piece) in
      let one : 0 + n + 1 ≡ suc n = omega arith in
      end_told piece (has_end piece) refl c.next (ap (λ (k : Cut). k.next) cut ∙ ap (then_some (has_end piece)) one)

  none_came : c.next ≡ None → has_end piece ≡ false
  none_came n = rw n at cut_told

  -- byte 10 came
  module _ (from : ℕ) (n : c.next ≡ Some from) where
    came : (has_end piece ≡ true) × (from ≡ suc (length (until_end piece)))
    came = rw n at cut_told

    abbrev end_came : has_end piece ≡ true
    end_came = came.0

    abbrev next_place : from ≡ suc (length (until_end piece))
    next_place = came.1

    pub cut_within : from ≤ length piece
    cut_within = omega (arith, next_place, ltb-true (length (until_end piece)) (length piece) end_came)

    -- lines that are taken behind it stay within
    module _ (s u : State) (out : List ℕ) (b : Taken) (part : List ℕ) (taken : TakingLines s (rest piece from) out u b part) where
      pub ends_within : from + b.next ≤ length piece
      ends_within = omega (arith, taken.within, ap length (rest_all piece from), length-drop from piece, cut_within)

-- what the first line printed is within the buffer
module _ (s : State) (line out : List ℕ) (p : LineAlone) (mid : List ℕ) (first : Printing s line out p mid) where
  pub first_inside : min_room ≤ length out → length mid ≡ length out → p.end ≤ length mid
  first_inside room same = omega (arith, first.room)

-- what lines print behind a place of the buffer is within it, and it is as long as it was
module _ (s u : State) (piece out : List ℕ) (at : ℕ) (b : Taken) (part : List ℕ) (taken : TakingLines s piece (rest out at) u b part)
    (inside : at ≤ length out) where
  pub ends_room : at + b.end ≤ length out
  ends_room = omega (arith, taken.room, ap length (rest_all out at), length-drop at out)

  same_back : length (back out at part) ≡ length out
  same_back =
      let text = (took_of s piece (length (rest out at))).text in
      back_length out at part text (omega (arith, ends_room, taken.end)) taken.buffer

  pub room_back : at + b.end ≤ length (back out at part)
  room_back = omega (arith, ends_room, same_back)

-- room behind a place is room for one more answer there
room_left : (size end : ℕ) → end ≤ size → leb min_room (size - end) ≡ has_room size end
room_left size end h = grind (arith, nat_tests)

-- `feed`
module _ (r : Run) (piece out : List ℕ) (sound : is_sound r ≡ true) (room : min_room ≤ length out)
    (wide : length r.pending.bytes ≡ kept_bytes) (c : Cut) (cut : c ≡ read_on r.pending piece 0) where
  -- the line did not end: it has grown
  pub grows : c.next ≡ None
      → Feeding r piece out (record { run = record { state = r.state; pending = c.pending }; answer = Ok 0; next = length piece }) out
  grows n =
      let e : has_end piece ≡ false = none_came r piece c cut n in
      let none = none_took r piece (length out) sound room e in
      let test = first-room r piece (length out) sound room in
      let o = cut ∙ read_open r.pending piece 0 (omega arith) (all_open piece e).1 in
      let grown : c.pending ≡ grown r.pending piece = ap (λ (k : Cut). k.pending) o in
      feeds r piece out sound room wide (none_went r piece (length out) sound room e) _ out
      (rw (grown, none, test, e) refl) (rw none (sym (written_nil out 0)))

  abbrev line : List ℕ
  line = first_line r piece

  -- what is kept of it is its front
  got : so_far c.pending ≡ passed line
  got = ap (λ (k : Cut). so_far k.pending) cut ∙ so_far_grown r.pending wide (sound-fits r sound) (until_end piece)

  pub got_open : no_end (so_far c.pending) ≡ true
  got_open = ap no_end got ∙ no_end-take kept_bytes line (first_open r piece sound)

  -- it ended: it is the first of the lines that are taken, and the others come behind it
  module _ (from : ℕ) (n : c.next ≡ Some from) (p : LineAlone) (mid : List ℕ) (first : Printing r.state (so_far c.pending) out p mid)
      (same : length mid ≡ length out) (u : State) (b : Taken) (part : List ℕ)
      (taken : TakingLines p.state (rest piece from) (rest mid p.end) u b part) where
    abbrev e : has_end piece ≡ true
    e = end_came r piece c cut from n

    abbrev place : from ≡ suc (length (until_end piece))
    place = next_place r piece c cut from n

    abbrev text : List ℕ
    text = line_prints r.state (passed line)

    abbrev t : Took
    t = took_of p.state (others piece) (length out - length text)

    abbrev took : Took
    took = took_by r piece (length out)

    first-end : p.end ≡ length text
    first-end = first.end ∙ ap (λ (l : List ℕ). length (line_prints r.state l)) got

    -- they are taken of what comes behind byte 10, with the room that is left
    after : TakingLines p.state (others piece) (drop p.end mid) u b part
    after = rw (rest_all piece from, place, rest_all mid p.end) at taken

    took_after : took_of p.state (others piece) (length (drop p.end mid)) ≡ t
    took_after = rw (length-drop, first-end, same) refl

    took_all : took ≡ behind text (suc (length line)) t
    took_all =
        let from_zero : 0 + suc (length line) ≡ suc (length line) + 0 = omega arith in
        let struct : p.state ≡ struct_taken r.state (passed line) = first.struct ∙ ap (struct_taken r.state) got in
        let start : took_line (untouched r.state) line ≡ behind text (suc (length line)) (untouched p.state) =
        rw (append-nil text, from_zero, struct) refl in
        let few : length text ≤ length out = omega (arith, first-end, first.room) in
        first_took r piece (length out) sound room e
        ∙ ap (λ (k : Took). taking (length out) k (ended_lines (others piece))) start
        ∙ taking_behind (length out) text (suc (length line)) (untouched p.state) (ended_lines (others piece)) few

    took_text : took.text ≡ text ++ t.text
    took_text = ap (λ (k : Took). k.text) took_all

    took_next : took.next ≡ suc (length line) + b.next
    took_next = omega (arith, ap (λ (k : Took). k.next) took_all, after.next ∙ ap (λ (k : Took). k.next) took_after)

    took_state : took.state ≡ u
    took_state = ap (λ (k : Took). k.state) took_all ∙ sym (after.struct ∙ ap (λ (k : Took). k.state) took_after)

    took_end : p.end + b.end ≡ length took.text
    took_end =
        let end : b.end ≡ length t.text = after.end ∙ ap (λ (k : Took). length k.text) took_after in
        rw (took_text, length-append, first-end, end) refl

    -- what is left
    rest-left : drop took.next (heard r piece) ≡ drop b.next (others piece)
    rest-left =
        let there : took.next ≡ length line + suc b.next = omega (arith, took_next) in
        rw (there, split r piece (length out) sound room e) (drop-append-add line (10 ∷ others piece) (suc b.next))

    went : Went r piece (length out)
    went =
        let s = view_state r.state in
        let before = length-append (so_far r.pending) (until_end piece) in
        let inside = ends_within r piece c cut from n p.state u (rest mid p.end) b part taken in
        record {
          within = omega (arith, took_next, inside, place, before, length-append (so_far r.pending) piece);
          rules = rw took_state after.rules;
          goes_on = λ at_end more.
              let last = run_to at_end (view_state u) (lines (drop b.next (others piece) ++ more)) in
              ap (λ (l : List ℕ). run_to at_end s (lines (l ++ more))) (split r piece (length out) sound room e)
              ∙ ap (λ (l : List ℕ). run_to at_end s (lines l)) (append_assoc line (10 ∷ others piece) more)
              ∙ sym (run_to_kept at_end s line (10 ∷ (others piece ++ more)) (first_open r piece sound))
              ∙ ap (λ (l : List ℕ). run_to at_end s (lines (l ++ (10 ∷ (others piece ++ more))))) (sym got)
              ∙ first.goes_on at_end (others piece ++ more)
              ∙ ap (λ (l : List ℕ). line_prints r.state l ++ run_to at_end (view_state p.state) (lines (others piece ++ more))) got
              ∙ ap (λ (l : List ℕ). text ++ l) (after.goes_on at_end more ∙ ap (λ (k : Took). k.text ++ last) took_after)
              ∙ sym (append_assoc text t.text last) ∙ rw (took_text, took_state, rest-left) refl;
          stopped = λ h.
              let l : length took.text + min_room ≤ length out = leb-true _ _ h in
              rw rest-left (after.stopped (omega (arith, took_end, length-drop p.end mid, same, first.room)));
        }

    -- what is left is looked at with the room that is left
    pub ends : (l : Pending × ℕ) → let last = back mid p.end part in
        l ≡ left_over piece (from + b.next) (leb min_room (length last - (p.end + b.end)))
        → Feeding r piece out (record { run = run_of u l.0; answer = Ok (p.end + b.end); next = l.1 }) last
    ends l made =
        let inside = first_inside r.state (so_far c.pending) out p mid first room same in
        let kept = same_back p.state u (rest piece from) mid p.end b part taken inside in
        let next : from + b.next ≡ took.next - length (so_far r.pending) =
        omega (arith, took_next, place, length-append (so_far r.pending) (until_end piece)) in
        let few : 0 + length text ≤ length out = omega (arith, first-end, first.room) in
        let there : p.end ≡ 0 + length text = omega (arith, first-end) in
        let wrote : mid ≡ written out 0 text = first.wrote ∙ ap (λ (l : List ℕ). written out 0 (line_prints r.state l)) got in
        let fits : p.end + length t.text ≤ length mid =
        omega (arith, ends_room p.state u (rest piece from) mid p.end b part taken inside, after.end, ap (λ (k : Took). length k.text) took_after) in
        let left : back mid p.end part ≡ written mid p.end t.text =
        back_written mid p.end part t.text fits (rw (took_after, ← rest_all mid p.end) at after.buffer) in
        let size = length out in
        let full : length took.text ≤ size = omega (arith, sym took_end, kept, same, room_back p.state u (rest piece from) mid p.end b part taken inside) in
        let tested : leb min_room (length (back mid p.end part) - (p.end + b.end)) ≡ has_room size (length took.text) =
        ap (leb min_room) (omega (arith, kept, same, took_end)) ∙ room_left size (length took.text) full in
        feeds r piece out sound room wide went _ (back mid p.end part)
        (rw (made, tested, ← took_state, next, took_end) (left_fed r piece size sound room wide went e))
        (left ∙ rw (took_text, there, wrote) (written_then out text t.text 0 few))

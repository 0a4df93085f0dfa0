-- What is sent of a piece, call by call, of all pieces, read by read, and at the end of the input.
use Rattle.std.specs.Prelude.{◌≢◌, Option, Result, Ok, Err, IsOk, IfOk, IfErr, IsErrAnd, ⊤}
use Rattle.std.specs.declared.io.Error.{Error}
use Rattle.std.proofs.Common.{◌≡◌, ◌∙◌, ◌+◌, ◌%◌, ◌^◌, ◌<◌, ◌≤◌, ℕ, Bool, true, false, true≢false, List, [], ◌∷◌, ◌++◌, length, take, length-take-le, refl, sym, ap, append_assoc, append-nil, arith, length-append}
use Rattle.std.specs.Io.KnownBytes.{Keeps, Consumes, IsAtEnd, Appends}
use Rattle.std.proofs.KnownBytes.{Consumes-nil, Consumes-trans, Consumes-kept, Appends-nil, Appends-trans}
use Rattle.semantics.specs.NetworkText.{max_text_bytes}
use Rattle.semantics.proofs.Kept.{network_kept}
use Rattle.semantics.proofs.Saved.{text-fits}
use Rattle.semantics.specs.Engine.{State, start, end_text}
use Rattle.semantics.specs.Program.{lines, run_to, output, after_lines, saved_output}
use Rattle.notes.specs.declared.Tallies.{Tallies}
use Rattle.taking.specs.declared.Taken.{Taken}
use Rattle.run.specs.declared.Run.{Run}
use Rattle.run.specs.declared.sound_run.SoundRun.{SoundRun}
use Rattle.run.specs.Runs.{is_sound, prints_to, prints, makes, fed_text, Starting, Feeding}
use Rattle.run.specs.Sound.{whole_run, fed_of}
use Rattle.run.proofs.Made.{ToldSame, same-tallies, same_text, made-rules}
use Rattle.run.proofs.Parts.{rest, rest_all}
use Rattle.run.proofs.Whole.{fed-front, text_of, made-whole}
use Rattle.relay.specs.declared.Failure.{Failure}
use Rattle.relay.specs.declared.Failure.TheVariants.{Read, Write, Endless}
use Rattle.relay.specs.Sending.{Begins, Counted, Putting, TakingPiece, TakingAll, BeginningSent, Relaying}
use Rattle.relay.specs.Sending.{PuttingText, TextUnsent, RelayingText}

-- counts one behind the other
counted-then : (before m mid n after : ℕ) → Counted before m mid → Counted mid n after → Counted before (m + n) after
counted-then before m mid n after e f = λ h. let p = e h in let q = f (omega arith) in omega arith

-- as many as a read gave
pub piece_counted : (read n : ℕ) (buffer : List ℕ) → n ≤ length buffer → Counted read (length (take n buffer)) ((read + n) % 2 ^ 64)
piece_counted read n buffer h = λ k. rw (length-take-le n buffer h) refl

pub piece_some : (n : ℕ) (buffer : List ℕ) → n ≤ length buffer → 0 < n → 0 < length (take n buffer)
piece_some n buffer h some = rw (length-take-le n buffer h) some

-- What is owed of a result that passes a failure on: all that is owed of the failure, and nothing of what there would be without one.
module _ {T : Type 0} (result : Result T Failure) (failure : Failure) where
  not_both : IsOk result → IsErrAnd result (λ f. f ≡ failure) → ⊥
  not_both = go result
    where
      go : (r : Result T Failure) → IsOk r → IsErrAnd r (λ f. f ≡ failure) → ⊥
      go (Ok x) w h = h
      go (Err f) w h = true≢false (sym w)

  IfOk-failed : (P : T → Type 0) → IsErrAnd result (λ f. f ≡ failure) → IfOk result P
  IfOk-failed P = go result
    where
      go : (r : Result T Failure) → IsErrAnd r (λ f. f ≡ failure) → IfOk r P
      go (Ok x) h = absurd h
      go (Err f) h = tt

  failed-as : (P : Failure → Type 0) → IsErrAnd result (λ f. f ≡ failure) → P failure → IfErr result P
  failed-as P = go result
    where
      go : (r : Result T Failure) → IsErrAnd r (λ f. f ≡ failure) → P failure → IfErr r P
      go (Ok x) h p = absurd h
      go (Err f) h p = rw h p

-- a failure of another kind isn't that there is no end
abbrev is_endless : Failure → Bool
is_endless Endless = true
is_endless (Read why) = false
is_endless (Write why) = false

pub read-ends : (why : Error) → Read why ≢ Endless
read-ends why h = true≢false (sym (ap is_endless h))

-- Calls of `feed` up to what is left of a piece.
pub record FedUpTo (r₀ : Run) (piece : List ℕ) (before : ℕ) (held : Option (List ℕ)) (r : Run) (left : List ℕ) (sent : ℕ)
    (held_now : Option (List ℕ)) : Type 0 where
  pub text : List ℕ
  pub bytes : Counted before (length text) sent
  pub wrote : Appends held held_now text
  pub goes_on : (at_end : State → List ℕ) (more : List ℕ) → prints_to at_end r₀ (piece ++ more) ≡ text ++ prints_to at_end r (left ++ more)

module _ (r₀ : Run) (piece : List ℕ) (before : ℕ) (held : Option (List ℕ)) (r : Run) (left : List ℕ) (sent : ℕ) (held_now : Option (List ℕ))
    (g : FedUpTo r₀ piece before held r left sent held_now) where
  -- what was sent is the beginning of what is to be
  began : (more : List ℕ) → Begins g.text (prints r₀ (piece ++ more))
  began more =
      record {
        rest = prints r (left ++ more);
        both = g.goes_on end_text more;
      }

  -- one more, of whose text all is sent
  module _ (out last : List ℕ) (after : Run) (t : Taken) (fed : Feeding r left out (fed_of after (Ok t)) last) where
    front : take t.end last ≡ fed_text r left (length out)
    front = fed-front r left out (fed_of after (Ok t)) last fed

    pub fed_more : (now : ℕ) (grown : Option (List ℕ)) → Counted sent (length (take t.end last)) now × Appends held_now grown (take t.end last)
        → FedUpTo r₀ piece before held after (rest left t.next) now grown
    fed_more now grown put =
        let text = fed_text r left (length out) in
        record {
          text = g.text ++ text;
          wrote = Appends-trans held held_now grown g.text text g.wrote (rw front at put.1);
          bytes = rw length-append (counted-then before (length g.text) sent (length text) now g.bytes (rw front at put.0));
          goes_on = λ at_end more.
              g.goes_on at_end more ∙ ap (λ (l : List ℕ). g.text ++ l) (fed.goes_on at_end more) ∙ rw (append_assoc, rest_all left t.next) refl;
        }

  -- the piece is used up
  pub used_up : length left ≡ 0 → TakingPiece r₀ piece before held r (Ok tt) sent held_now
  used_up h =
      let none : left ≡ [] = go left h in
      record { text = g.text; sent = g.bytes; wrote = λ w. g.wrote; failed = tt; begins = began; goes_on = λ w at_end more. g.goes_on at_end more ∙ rw none refl }
    where
      go : (l : List ℕ) → length l ≡ 0 → l ≡ []
      go [] e = refl
      go (x ∷ l) e = absurd (omega arith)

  -- a write failed
  pub cut_off : (after : Run) (result : Result ⊤ Failure) (now : ℕ) (held_then : Option (List ℕ)) (failure : Failure)
      → IsErrAnd result (λ f. f ≡ failure)
      → (now ≡ sent) × (failure ≢ Endless)
      → TakingPiece r₀ piece before held after result now held_then
  cut_off after result now held_then failure h put =
      record {
        text = g.text;
        sent = rw put.0 g.bytes;
        wrote = λ w. absurd (not_both result failure w h);
        failed = failed-as result failure (λ f. f ≢ Endless) h put.1;
        begins = began;
        goes_on = λ w. absurd (not_both result failure w h);
      }

-- Reads up to now, from an unused run on.
pub record ReadUpTo (was_read was_sent : ℕ) (left held : Option (List ℕ)) (reads : ℕ) (r : SoundRun) (read_now sent_now : ℕ)
    (left_now held_now : Option (List ℕ)) : Type 0 where
  pub input : List ℕ
  pub some : reads ≤ length input
  pub read : Counted was_read (length input) read_now
  pub consumed : Consumes left left_now input
  pub text : List ℕ
  pub sent : Counted was_sent (length text) sent_now
  pub wrote : Appends held held_now text
  pub goes_on : (at_end : State → List ℕ) (more : List ℕ)
      → run_to at_end start (lines (input ++ more)) ≡ text ++ prints_to at_end (whole_run r) more

-- none yet
pub unread : (was_read was_sent : ℕ) (left held : Option (List ℕ)) (r : SoundRun) → Starting (whole_run r)
    → ReadUpTo was_read was_sent left held 0 r was_read was_sent left held
unread was_read was_sent left held r s =
    record {
      input = [];
      some = omega arith;
      read = λ h. omega arith;
      consumed = Consumes-nil left;
      text = [];
      sent = λ h. omega arith;
      wrote = Appends-nil held;
      goes_on = λ at_end more. sym (s.whole at_end more);
    }

module _ (was_read was_sent : ℕ) (left held : Option (List ℕ)) (reads : ℕ) (r : SoundRun) (read_now sent_now : ℕ)
    (left_now held_now : Option (List ℕ)) (g : ReadUpTo was_read was_sent left held reads r read_now sent_now left_now held_now) where
  begins_so_far : (more : List ℕ) → Begins g.text (output (g.input ++ more))
  begins_so_far more =
      record {
        rest = prints (whole_run r) more;
        both = g.goes_on end_text more;
      }

  -- a read gave nothing: the input has ended
  pub read_all : (left_then : Option (List ℕ)) → Consumes left_now left_then [] → IsAtEnd left_then
      → TakingAll was_read was_sent left held (Ok r) read_now sent_now left_then held_now
  read_all left_then none ended =
      record {
        input = g.input;
        read = g.read;
        consumed = rw append-nil at (Consumes-trans left left_now left_then g.input [] g.consumed none);
        ended = λ w. ended;
        endless = tt;
        text = g.text;
        sent = g.sent;
        wrote = λ w. g.wrote;
        begins = begins_so_far;
        goes_on = g.goes_on;
      }

  -- a read failed, or there is no end of them
  pub not_read : (failure : Failure) (left_then : Option (List ℕ)) → (failure ≡ Endless → 2 ^ 64 ≤ reads + 1) → Keeps left_now left_then
      → TakingAll was_read was_sent left held (Err failure) read_now sent_now left_then held_now
  not_read failure left_then many kept =
      record {
        input = g.input;
        read = g.read;
        consumed = Consumes-kept left left_now left_then g.input g.consumed kept;
        ended = λ w. absurd (true≢false (sym w));
        endless = λ e. omega (arith, many e, g.some);
        text = g.text;
        sent = g.sent;
        wrote = λ w. absurd (true≢false (sym w));
        begins = begins_so_far;
        goes_on = tt;
      }

  -- a piece more
  module _ (piece : List ℕ) (r_after : SoundRun) (result : Result ⊤ Failure) (all now : ℕ) (left_then held_then : Option (List ℕ))
      (p : TakingPiece (whole_run r) piece sent_now held_now (whole_run r_after) result now held_then) (e : Counted read_now (length piece) all)
      (eaten : Consumes left_now left_then piece) where
    behind : (at_end : State → List ℕ) (more rest : List ℕ) → prints_to at_end (whole_run r) (piece ++ more) ≡ p.text ++ rest
        → run_to at_end start (lines ((g.input ++ piece) ++ more)) ≡ (g.text ++ p.text) ++ rest
    behind at_end more rest h =
        ap (λ (l : List ℕ). run_to at_end start (lines l)) (append_assoc g.input piece more) ∙ g.goes_on at_end (piece ++ more)
        ∙ ap (λ (l : List ℕ). g.text ++ l) h ∙ sym (append_assoc g.text p.text rest)

    read_behind : Counted was_read (length (g.input ++ piece)) all
    read_behind = rw length-append (counted-then was_read (length g.input) read_now (length piece) all g.read e)

    sent_behind : Counted was_sent (length (g.text ++ p.text)) now
    sent_behind = rw length-append (counted-then was_sent (length g.text) sent_now (length p.text) now g.sent p.sent)

    consumed_behind : Consumes left left_then (g.input ++ piece)
    consumed_behind = Consumes-trans left left_now left_then g.input piece g.consumed eaten

    pub read_more : IsOk result → 0 < length piece → ReadUpTo was_read was_sent left held (reads + 1) r_after all now left_then held_then
    read_more w one =
        record {
          input = g.input ++ piece;
          some = rw length-append (omega (arith, g.some));
          read = read_behind;
          consumed = consumed_behind;
          text = g.text ++ p.text;
          sent = sent_behind;
          wrote = Appends-trans held held_now held_then g.text p.text g.wrote (p.wrote w);
          goes_on = λ at_end more. behind at_end more (prints_to at_end (whole_run r_after) more) (p.goes_on w at_end more);
        }

    -- of which not all could be sent
    pub read_cut : (failure : Failure) → result ≡ Err failure → (ended : Result SoundRun Failure) → IsErrAnd ended (λ f. f ≡ failure)
        → TakingAll was_read was_sent left held ended all now left_then held_then
    read_cut failure e ended h =
        record {
          input = g.input ++ piece;
          read = read_behind;
          consumed = consumed_behind;
          ended = λ w. absurd (not_both ended failure w h);
          endless = failed-as ended failure (λ f. f ≡ Endless → 2 ^ 64 ≤ length (g.input ++ piece) + 1) h (λ k. absurd (failed_for k));
          text = g.text ++ p.text;
          sent = sent_behind;
          wrote = λ w. absurd (not_both ended failure w h);
          begins = λ more. record { rest = (p.begins more).rest; both = behind end_text more (p.begins more).rest (p.begins more).both };
          goes_on = IfOk-failed ended failure _ h;
        }
      where
        failed_for : failure ≢ Endless
        failed_for = rw e at p.failed

-- there is room for the text of any book
pub text-room : (r : Run) (out : List ℕ) → is_sound r ≡ true → max_text_bytes ≤ length out → length (text_of r) ≤ length out
text-room r out sound room =
    let m = makes r [] in
    omega (arith, text-fits m.network (network_kept m (made-rules r sound)))

-- The end of the input. From nothing on, as many are counted as there are, but for what wraps.
counted-all : (n now : ℕ) → Counted 0 n now → now ≡ n % 2 ^ 64
counted-all n now e = let p = e (omega arith) in omega arith

module _ (read sent : ℕ) (left left_now : Option (List ℕ)) where
  -- what was sent is the beginning
  pub sent_some : (failure : Failure) (result : Result SoundRun Failure) (before : ℕ) (held mid : Option (List ℕ))
      → (all : TakingAll 0 0 left held result read before left_now mid)
      → (failure ≡ Endless → 2 ^ 64 ≤ length all.input + 1)
      → sent ≡ before
      → BeginningSent left left_now (record { read = read; sent = sent; outcome = Err failure }) failure
  sent_some failure result before held mid all many e =
      record {
        input = all.input;
        read = counted-all _ read all.read;
        consumed = all.consumed;
        endless = many;
        text = all.text;
        sent = e ∙ counted-all _ before all.sent;
        begins = all.begins;
      }

  -- or the end is sent too
  pub relayed : (r : SoundRun) (before : ℕ) (held mid held_now : Option (List ℕ)) → TakingAll 0 0 left held (Ok r) read before left_now mid
      → (result : Result ⊤ Failure)
      → Putting before mid (prints (whole_run r) []) result sent held_now
      → Relaying left left_now held held_now (record { read = read; sent = sent; outcome = result })
  relayed r before held mid held_now all (Ok tt) put =
      let whole : output all.input ≡ all.text ++ prints (whole_run r) [] =
      ap output (sym (append-nil all.input))
      ∙ all.goes_on end_text [] in
      record {
        input = all.input;
        read = counted-all _ read all.read;
        consumed = all.consumed;
        ended = all.ended refl;
        sent = rw (whole, length-append) (counted-all _ sent (counted-then 0 (length all.text) before _ sent all.sent put.0));
        wrote = rw whole (Appends-trans held mid held_now all.text _ (all.wrote refl) put.1);
      }
  relayed r before held mid held_now all (Err failure) put =
      sent_some failure (Ok r) before held mid all (λ h. absurd (put.1 h)) put.0

  -- no text was sent
  pub text_unsent : (failure : Failure) (result : Result SoundRun Failure) (unasked : ℕ) (sunk mid : Option (List ℕ))
      → (all : TakingAll 0 0 left sunk result read unasked left_now mid)
      → (failure ≡ Endless → 2 ^ 64 ≤ length all.input + 1)
      → sent ≡ 0
      → TextUnsent left left_now (record { read = read; sent = sent; outcome = Err failure }) failure
  text_unsent failure result unasked sunk mid all many e =
      record { input = all.input; read = counted-all _ read all.read; consumed = all.consumed; endless = many; sent = e }

  -- or the text is
  pub text-relayed : (r : SoundRun) (unasked : ℕ) (sunk mid held held_now : Option (List ℕ))
      → TakingAll 0 0 left sunk (Ok r) read unasked left_now mid
      → (result : Result Tallies Failure)
      → PuttingText (whole_run r) 0 held result sent held_now
      → RelayingText left left_now held held_now (record { read = read; sent = sent; outcome = result })
  text-relayed r unasked sunk mid held held_now all (Ok tallies) put =
      let m = after_lines start (lines all.input) in
      let end = makes (whole_run r) [] in
      let told : ToldSame m end =
      made-whole all.input all.text (whole_run r)
      (λ at_end. ap (λ (l : List ℕ). run_to at_end start (lines l)) (sym (append-nil all.input)) ∙ all.goes_on at_end []) in
      let same : saved_output all.input ≡ text_of (whole_run r) = same_text m end told in
      record {
        input = all.input;
        read = counted-all _ read all.read;
        consumed = all.consumed;
        ended = all.ended refl;
        sent = rw same (counted-all _ sent put.0);
        wrote = rw same put.1;
        told = put.2 ∙ sym (same-tallies m end told);
      }
  text-relayed r unasked sunk mid held held_now all (Err failure) put =
      text_unsent failure (Ok r) unasked sunk mid all (λ h. absurd (put.1 h)) put.0

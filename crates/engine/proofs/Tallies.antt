-- The tallies (02: U5), of calls of which nothing is known but what `step` ensures.
use Rattle.std.proofs.Common.{◌≡◌, refl, sym, ap, ◌∙◌, Bool, true, false, cond, not, ◌&&◌, true≢false, List, [], ◌∷◌, ℕ, ◌+◌, ◌<◌}
use Rattle.std.proofs.Common.{arith, length, add-zero, eqb, eqb-true}
use mathlib.Core.Bool.{false≢true}
use borrow.Author.Tests.{eqb-false}
use Rattle.semantics.specs.Basics.{those}
use Rattle.semantics.specs.Limits.{max_scanners}
use Rattle.semantics.specs.Notes.{Tally, no_lines, one_line_more, tallied_for, tally_of, all_lines}
use Rattle.semantics.specs.Protocol.{is_untaken, read_line}
use Rattle.semantics.specs.Engine as engine
use Rattle.semantics.specs.Engine.{Answer, Done, refused, done, refusal, answer, perform, tallied, untaken, answer_of, state_after}
use Rattle.semantics.specs.Engine.{is_accepted, lines_taken, run_over, is_short, holds, Returned, refused_with, wrote_bytes, returned_for}
use Rattle.semantics.proofs.Rules.{NetworkRules, network-rules}
use Rattle.semantics.proofs.Tallies.{all_lines-tallied_for, tallied_for-same, tallied_for-other, none_told}
use Rattle.semantics.proofs.Kept.{Keeps, NotesRules, notes-rules, network_kept, notes_kept, perform_keeps, untallied, read_line_well_read}
use Rattle.network.specs.declared.State.{State}
use Rattle.network.specs.View.{view_state}
use Rattle.performing.specs.Performed.{returned}
use Rattle.engine.specs.Lists.{Exchange, Unused, MadeFor, Leads}
use Rattle.engine.specs.Tallies.{tells_taken, tells_accepted, was_taken, was_accepted, tally_in, all_taken, scanner_after, OneMoved}
use Rattle.engine.specs.Tallies.{how_many, accepted_for, refused_for, AddUp}
use Rattle.taking.specs.Lines.{struct_by}

-- what was answered tells the same as what was returned
accepted-told : (a : Answer) → tells_accepted (returned_for a) ≡ is_accepted a
accepted-told (refusal k) = refl
accepted-told (answer text) = refl

module _ (s : engine.State) where
  -- a line that comes to this is taken
  taken-told : (d : Done) → Keeps s d → tells_taken (returned_for (answer_of d)) ≡ true
  taken-told (refused k) h = rw h refl
  taken-told (done t text) h = refl

  -- a refused one leaves the scanner
  scanner-stays : (d : Done) → is_accepted (answer_of d) ≡ false → (state_after s d).notes.scanner ≡ s.notes.scanner
  scanner-stays (refused k) h = refl
  scanner-stays (done t text) h = absurd (true≢false h)

module _ (s : State) (m : Exchange) where
  -- a line that isn't taken
  not_moved : (k : ℕ) → is_untaken k ≡ true → m.gave.state ≡ s → returned m.gave.answer ≡ returned_for (refusal k) → OneMoved s m
  not_moved k u same answers =
      let no : was_taken m ≡ false = ap tells_taken answers ∙ rw u refl in
      record {
        untaken = λ h. same;
        own = λ h. absurd (true≢false (sym h ∙ no));
        others = λ h. absurd (true≢false (sym h ∙ no));
        together = λ h. absurd (true≢false (sym h ∙ no));
        same_scanner = λ h. ap (λ (t : State). t.notes.scanner) same;
      }

  -- a line that is
  moved : (r : NetworkRules (view_state s).network) (o : NotesRules (view_state s).notes) (d : Done) → Keeps (view_state s) d
      → view_state m.gave.state ≡ (tallied (view_state s) d).state → returned m.gave.answer ≡ returned_for (answer_of d) → OneMoved s m
  moved r o d k seen answers =
      let v = view_state s in
      let w = state_after v d in
      let u = untallied v r o d k in
      let yes : was_taken m ≡ true = ap tells_taken answers ∙ taken-told v d k in
      let ok : was_accepted m ≡ is_accepted (answer_of d) = ap tells_accepted answers ∙ accepted-told (answer_of d) in
      let at : scanner_after m ≡ w.notes.scanner = ap (λ (x : engine.State). x.notes.scanner) seen in
      let all : (view_state m.gave.state).notes.tallies ≡ tallied_for (scanner_after m) (was_accepted m) v.notes.tallies =
      ap (λ (x : engine.State). x.notes.tallies) seen ∙ rw (at, ok, u.tallies) refl in
      let within : scanner_after m < length v.notes.tallies = rw at (omega (arith, u.scanner, o.each_tally)) in
      record {
        untaken = λ h. absurd (true≢false (sym yes ∙ h));
        own = λ h. (
          rw at u.scanner,
          ap (λ (ts : List Tally). tally_of ts (scanner_after m)) all
              ∙ tallied_for-same (scanner_after m) (was_accepted m) v.notes.tallies within,
        );
        others = λ h n ne.
            ap (λ (ts : List Tally). tally_of ts n) all ∙ tallied_for-other (scanner_after m) n (was_accepted m) v.notes.tallies ne;
        together = λ h. ap all_lines all ∙ all_lines-tallied_for (scanner_after m) (was_accepted m) v.notes.tallies within;
        same_scanner = λ h. at ∙ scanner-stays v d (sym ok ∙ h);
      }

-- EVERY CALL moves one tally by one, or none.
pub one_moved : (s : State) (m : Exchange) → MadeFor s m → OneMoved s m
one_moved s m c =
    go (is_short (length m.lent)) (holds (view_state s)) (run_over (view_state s)) refl c.struct c.seen c.answered
  where
    d : Done
    d = perform (view_state s) (read_line m.line)

    go : (short keeps over : Bool) → holds (view_state s) ≡ keeps
        → m.gave.state ≡ cond short s (cond keeps (cond over s (struct_by s (read_line m.line))) s)
        → view_state m.gave.state
        ≡ (cond short (untaken (view_state s) 10)
        (cond keeps (cond over (untaken (view_state s) 19) (tallied (view_state s) d)) (untaken (view_state s) 9))).state
        → returned m.gave.answer
        ≡ returned_for (cond short (untaken (view_state s) 10)
        (cond keeps (cond over (untaken (view_state s) 19) (tallied (view_state s) d)) (untaken (view_state s) 9))).said
        → OneMoved s m
    go true keeps over h struct seen answers = not_moved s m 10 refl struct answers
    go false false over h struct seen answers = not_moved s m 9 refl struct answers
    go false true true h struct seen answers = not_moved s m 19 refl struct answers
    go false true false h struct seen answers =
        let o = notes-rules (view_state s).notes (notes_kept (view_state s) h) in
        let r = network-rules (view_state s).network (network_kept (view_state s) h) in
        moved s m r o d (perform_keeps (view_state s) r o.has_scanner (read_line m.line) (read_line_well_read m.line)) seen answers

-- one more call in front of others, for which a test holds or not
how_many-more : (b : Bool) (m : Exchange) (ms : List Exchange) → length (cond b (m ∷ ms) ms) ≡ cond b 1 0 + length ms
how_many-more true m ms = omega arith
how_many-more false m ms = omega arith

-- what a call adds to the tally of a scanner, and to all together
module _ (s : State) (m : Exchange) (h : OneMoved s m) (n : ℕ) where
  -- an accepted line is taken
  taken-accepted : was_taken m ≡ false → was_accepted m ≡ true → ⊥
  taken-accepted = go (returned m.gave.answer)
    where
      go : (r : Returned) → tells_taken r ≡ false → tells_accepted r ≡ true → ⊥
      go (refused_with k) d e = false≢true e
      go (wrote_bytes k) d e = true≢false d

  -- the tally of the scanner, where it is the one that moves
  own-tally : (accepted : Bool) → was_taken m ≡ true → was_accepted m ≡ accepted → n ≡ scanner_after m
      → tally_in m.gave.state n ≡ one_line_more accepted (tally_in s n)
  own-tally accepted a b e = rw (e, ← b) (h.own a).1

  -- by so much more
  abbrev Grown : ℕ → ℕ → Type 0
  Grown i j =
      ((tally_in m.gave.state n).accepted ≡ (tally_in s n).accepted + i)
      × ((tally_in m.gave.state n).refusals ≡ (tally_in s n).refusals + j)

  same-tally : tally_in m.gave.state n ≡ tally_in s n → Grown 0 0
  same-tally e = (ap (λ (t : Tally). t.accepted) e ∙ sym (add-zero _), ap (λ (t : Tally). t.refusals) e ∙ sym (add-zero _))

  adds : Grown (cond (accepted_for n m) 1 0) (cond (refused_for n m) 1 0)
  adds = go (was_taken m) (was_accepted m) (eqb n (scanner_after m)) refl refl refl
    where
      go : (taken accepted own : Bool) → was_taken m ≡ taken → was_accepted m ≡ accepted → eqb n (scanner_after m) ≡ own
          → Grown (cond (accepted && own) 1 0) (cond (taken && not accepted && own) 1 0)
      go true true true a b e =
          let t = own-tally true a b (eqb-true n (scanner_after m) e) in
          (ap (λ (t : Tally). t.accepted) t, ap (λ (t : Tally). t.refusals) t ∙ sym (add-zero _))
      go true false true a b e =
          let t = own-tally false a b (eqb-true n (scanner_after m) e) in
          (ap (λ (t : Tally). t.accepted) t ∙ sym (add-zero _), ap (λ (t : Tally). t.refusals) t)
      go true true false a b e = same-tally (h.others a n (eqb-false n (scanner_after m) e))
      go true false false a b e = same-tally (h.others a n (eqb-false n (scanner_after m) e))
      go false true own a b e = absurd (taken-accepted a b)
      go false false own a b e = same-tally (ap (λ (u : State). tally_in u n) (h.untaken a))

  adds-all : all_taken m.gave.state ≡ all_taken s + cond (was_taken m) 1 0
  adds-all = go (was_taken m) refl
    where
      go : (b : Bool) → was_taken m ≡ b → all_taken m.gave.state ≡ all_taken s + cond b 1 0
      go true e = h.together e
      go false e = ap all_taken (h.untaken e) ∙ sym (add-zero _)

-- LISTS OF CALLS: each tally grows by its scanner's lines, and all together by the lines taken.
pub add_up : (s t : State) (ms : List Exchange) → Leads s ms t → AddUp s ms t
add_up s t [] e =
    record {
      accepted = λ n. ap (λ (u : State). (tally_in u n).accepted) (sym e) ∙ sym (add-zero _);
      refused = λ n. ap (λ (u : State). (tally_in u n).refusals) (sym e) ∙ sym (add-zero _);
      together = ap all_taken (sym e) ∙ sym (add-zero _);
    }
add_up s t (m ∷ ms) (call, rest) =
    let h = one_moved s m call in
    let more = add_up m.gave.state t ms rest in
    record {
      accepted = λ n. omega (arith, more.accepted n, (adds s m h n).0, how_many-more (accepted_for n m) m (those (accepted_for n) ms));
      refused = λ n. omega (arith, more.refused n, (adds s m h n).1, how_many-more (refused_for n m) m (those (refused_for n) ms));
      together = omega (arith, more.together, adds-all s m h 0, how_many-more (was_taken m) m (those was_taken ms));
    }

-- no scanner has lines in an unused run
none-taken : (s : State) → Unused s → (n : ℕ) → tally_in s n ≡ no_lines
none-taken s u n = ap (λ (v : engine.State). tally_of v.notes.tallies n) u ∙ none_told max_scanners n

-- FROM AN UNUSED RUN: each tally is the number of its scanner's lines, and all together are the lines taken.
pub all_told : (s t : State) (ms : List Exchange) → Unused s → Leads s ms t
    → ((n : ℕ) → tally_in t n ≡ record { accepted = how_many (accepted_for n) ms; refusals = how_many (refused_for n) ms })
    × (all_taken t ≡ how_many was_taken ms)
all_told s t ms u l =
    let a = add_up s t ms l in
    let none : all_taken s ≡ 0 = ap lines_taken u in (
      λ n.
          let z = none-taken s u n in
          let accepted : (tally_in t n).accepted ≡ how_many (accepted_for n) ms =
          omega (arith, a.accepted n, ap (λ (x : Tally). x.accepted) z) in
          let refused : (tally_in t n).refusals ≡ how_many (refused_for n) ms =
          omega (arith, a.refused n, ap (λ (x : Tally). x.refusals) z) in
          rw (← accepted, ← refused) refl,
      omega (arith, a.together),
    )

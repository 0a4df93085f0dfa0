-- One line: 19 first, else what a line that is taken does to the whole state.
use Rattle.std.specs.Prelude.{Result, Ok, Err, is_ok}
use Rattle.refusals.specs.declared.Refusal.{Refusal}
use mathlib.Core.Path.{◌≡◌, refl, sym, ap, subst, ◌∙◌}
use mathlib.Core.Bool.{Bool, true, false, cond, true≢false, false≢true}
use mathlib.Core.List.{List}
use Prim.Native.Nat.{ℕ}
use Rattle.semantics.specs.Protocol.{malformed_line}
use Rattle.semantics.specs.Protocol.{read_line, WellRead}
use Rattle.semantics.specs.Engine as model
use Rattle.semantics.specs.Engine.{Answer, Done, refused, done, refusal, answer, perform, line_tallied, tallied, run_over, untaken, taken}
use Rattle.semantics.specs.Engine.{holds, answer_of, is_accepted, buffer_after, returned_for}
use Rattle.semantics.proofs.Kept.{read_line_well_read, network_kept}
use Rattle.network.specs.declared.State.{State}
use Rattle.network.specs.View.{Lengths, view_state}
use Rattle.network.specs.Sound.{with_line}
use Rattle.network.proofs.Standing.{with_line-seen}
use Rattle.refusals.specs.Refusals.{number_of}
use Rattle.performing.specs.Performed.{returned, struct_after}
use Rattle.performing.proofs.Leaving.{left-seen}
use Rattle.protocol.specs.declared.Line.{Line as LineRead}
use Rattle.protocol.specs.Lines.{as_line, as_read}
use Rattle.performing.proofs.Editing.{declines}
use Rattle.performing.proofs.Printing.{is_refusal}
use Rattle.performing.specs.Performing.{Performing}
use Rattle.taking.specs.Lines.{struct_by, struct_taken, LineTaken}

-- the tally goes by what was returned
accepted-same : (r : Result ℕ Refusal) (x : Answer) → returned r ≡ returned_for x → is_ok r ≡ is_accepted x
accepted-same (Err q) (refusal m) e = refl
accepted-same (Err q) (answer text) e = absurd (true≢false (ap is_refusal e))
accepted-same (Ok n) (refusal m) e = absurd (false≢true (ap is_refusal e))
accepted-same (Ok n) (answer text) e = refl

-- the whole struct that a line leaves stands for the state that the definitions say
pub taken-seen : (s : State) (line : List ℕ) → holds (view_state s) ≡ true → Lengths s.network
    → view_state (struct_taken s line) ≡ (taken (view_state s) line).state
taken-seen s line h long = go (run_over (view_state s))
  where
    go : (over : Bool)
        → view_state (cond over s (struct_by s (read_line line)))
        ≡ (cond over (untaken (view_state s) 19) (tallied (view_state s) (perform (view_state s) (read_line line)))).state
    go true = refl
    go false =
        let x = perform (view_state s) (read_line line) in
        with_line-seen (is_accepted (answer_of x)) (struct_after s (read_line line) x)
        ∙ ap (λ (u : model.State). line_tallied u (answer_of x))
        (left-seen s long (network_kept (view_state s) h) (read_line line) (read_line_well_read line))

-- a line that is taken does what the definitions say, and is tallied
module _ (s : State) (line : List ℕ) (over : Bool) (e : over ≡ run_over (view_state s)) (f : over ≡ false) (t : State) (out last : List ℕ)
    (r : Result ℕ Refusal) (p : Performing s (read_line line) out t r last) where
  early : run_over (view_state s) ≡ false
  early = sym e ∙ f

  abbrev comes : Done
  comes = perform (view_state s) (read_line line)

  pub line_taken : (accepted : Bool) (u : State) → holds (view_state s) ≡ true → Lengths s.network → accepted ≡ is_ok r
      → u ≡ with_line accepted t → LineTaken (struct_taken s line) (taken (view_state s) line) u r
  line_taken accepted u h long ok adds =
      let same : accepted ≡ is_accepted (answer_of comes) = ok ∙ accepted-same r (answer_of comes) p.answered in
      let struct : u ≡ struct_taken s line = rw (early, ← same, ← p.struct) adds in
      record {
        struct = struct;
        seen = ap view_state struct ∙ taken-seen s line h long;
        answered = rw early p.answered;
      }

-- what a line says keeps the rules that need no network
pub read_well : (line : List ℕ) (r : Result LineRead Refusal) (l : LineRead) → as_read r ≡ read_line line → r ≡ Ok l → WellRead (as_line l)
read_well line r l e q = subst WellRead (sym (ap as_read (sym q) ∙ e)) (read_line_well_read line)

-- a line that says nothing leaves everything as it was
pub unread : (s : State) (line out : List ℕ) (r : Result LineRead Refusal) (q : Refusal) → as_read r ≡ read_line line → r ≡ Err q
    → Performing s (read_line line) out s (Err q) out
unread s line out r q e h =
    subst (λ x. Performing s x out s (Err q) out) (ap as_read (sym h) ∙ e) (declines s (malformed_line (number_of q)) q refl out)

-- How long R's answer can be, of a call of which nothing is known but what `step` ensures (02: U4).
use Rattle.std.proofs.Common.{◌≡◌, refl, sym, ◌∙◌, Bool, true, false, cond, List, [], ◌∷◌, ℕ, ◌≤◌, arith, length, take, leb}
use Rattle.semantics.specs.Basics.{every}
use Rattle.semantics.specs.Limits.{max_line_bytes, min_room}
use Rattle.semantics.specs.Relabelling.{Best, none, best, relabelling, changes}
use Rattle.semantics.specs.Answers.{relabelling_text, max_relabelling}
use Rattle.semantics.specs.Engine.{Answer, State, relabel_by, tallied, untaken, run_over, is_short, holds, refused_with, wrote_bytes}
use Rattle.semantics.specs.Engine.{returned_for, buffer_after}
use Rattle.semantics.specs.Program.{lines}
use Rattle.semantics.proofs.Kept.{network_kept}
use Rattle.semantics.proofs.AnswerText.{relabelling-fits, answer_cut, answer_short}
use Rattle.writing.proofs.Parts.{front_told}
use Rattle.network.specs.declared.State as code
use Rattle.network.specs.View.{view_state}
use Rattle.performing.specs.Performed.{returned}
use Rattle.engine.specs.Lists.{Exchange, MadeFor}

-- a buffer of 4,096 bytes has room for the longest
pub answer_room : max_relabelling ≤ min_room
answer_room = omega arith

-- an answer of n bytes has no more than the longest, and each line of it at most 40
abbrev Bounded : ℕ → List ℕ → Type 0
Bounded n lent_after = (n ≤ max_relabelling) × (every (λ l. leb (length l) max_line_bytes) (lines (take n lent_after)) ≡ true)

module _ (s : State) (m : Exchange) (n : ℕ) (wrote : returned m.gave.answer ≡ wrote_bytes n) where
  -- what returned a length wasn't refused
  not_refused : (k : ℕ) → returned m.gave.answer ≡ refused_with k → Bounded n m.lent_after
  not_refused k e =
      let z : refused_with k ≡ wrote_bytes n = sym e ∙ wrote in
      cc

  -- what is said for R
  abbrev said : Bool → Bool → Bool → Best (List ℕ) → Answer
  said short keeps over b =
      (cond short (untaken s 10) (cond keeps (cond over (untaken s 19) (tallied s (relabel_by s b))) (untaken s 9))).said

  bounded : (short keeps over : Bool) (b : Best (List ℕ)) → holds s ≡ keeps → relabelling s.network ≡ b
      → returned m.gave.answer ≡ returned_for (said short keeps over b) → m.lent_after ≡ buffer_after m.lent (said short keeps over b)
      → Bounded n m.lent_after
  bounded true keeps over b h e answers writes = not_refused 10 answers
  bounded false false over b h e answers writes = not_refused 9 answers
  bounded false true true b h e answers writes = not_refused 19 answers
  bounded false true false none h e answers writes = not_refused 18 answers
  bounded false true false (best total a) h e answers writes =
      let text = relabelling_text total (changes s.network.plots a) in
      let z : wrote_bytes (length text) ≡ wrote_bytes n = sym answers ∙ wrote in
      let same : n ≡ length text = cc in
      let front : take n m.lent_after ≡ text = front_told m.lent text m.lent_after n same writes in
      let rules = network_kept s h in (
        rw same (relabelling-fits s.network rules total a e),
        rw (front, answer_cut s.network rules total a e) (answer_short s.network rules total a e),
      )

-- The answer of R, for any state and any buffer: each line at most 40 bytes, and the whole no more than the longest.
pub answer_bounds : (s : code.State) (m : Exchange) → MadeFor s m → m.line ≡ 82 ∷ [] → (n : ℕ) → returned m.gave.answer ≡ wrote_bytes n
    → (n ≤ max_relabelling) × (every (λ l. leb (length l) max_line_bytes) (lines (take n m.lent_after)) ≡ true)
answer_bounds s m c r n wrote =
    let v = view_state s in
    bounded v m n wrote (is_short (length m.lent)) (holds v) (run_over v) (relabelling v.network) refl refl (rw r at c.answered)
    (rw r at c.buffer)

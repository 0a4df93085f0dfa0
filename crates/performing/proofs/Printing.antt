-- What is printed for what a call answered: its text is at the front of the buffer already, and a refusal's text goes there.
use Rattle.std.proofs.Common.{Result, Ok, Err, ◌≡◌, refl, sym, ap, ◌∙◌, Bool, true, false, true≢false, List, ℕ, ◌+◌, ◌≤◌, arith}
use Rattle.std.proofs.Common.{length, length-append, w32, Fits}
use mathlib.Core.Bool.{false≢true}
use Rattle.semantics.specs.Limits.{min_room}
use Rattle.semantics.specs.Answers.{refusal_text}
use Rattle.semantics.specs.Buffers.{written}
use Rattle.semantics.specs.Engine.{Answer, refusal, answer, Returned, refused_with, wrote_bytes, returned_for, buffer_after}
use Rattle.semantics.specs.Program.{printed}
use Rattle.semantics.proofs.Decimals.{u32_length}
use Rattle.refusals.specs.declared.Refusal.{Refusal}
use Rattle.refusals.specs.Refusals.{number_of}
use Rattle.performing.specs.Performed.{returned}

-- a number is no length
abbrev pub is_refusal : Returned → Bool
is_refusal (refused_with m) = true
is_refusal (wrote_bytes n) = false

-- the refusal's number or the length that is returned
abbrev pub number_in : Returned → ℕ
number_in (refused_with m) = m
number_in (wrote_bytes n) = n

module _ (a : Answer) (out mid : List ℕ) (r : Result ℕ Refusal) (k : returned r ≡ returned_for a) (l : mid ≡ buffer_after out a) where
  pub answer_bytes : (n : ℕ) → r ≡ Ok n → n ≡ length (printed a)
  answer_bytes n q = go a (ap returned (sym q) ∙ k)
    where
      go : (x : Answer) → wrote_bytes n ≡ returned_for x → n ≡ length (printed x)
      go (refusal m) e = absurd (false≢true (ap is_refusal e))
      go (answer text) e = ap number_in e

  pub answer_over : (n : ℕ) → r ≡ Ok n → mid ≡ written out 0 (printed a)
  answer_over n q = l ∙ go a (ap returned (sym q) ∙ k)
    where
      go : (x : Answer) → wrote_bytes n ≡ returned_for x → buffer_after out x ≡ written out 0 (printed x)
      go (refusal m) e = absurd (false≢true (ap is_refusal e))
      go (answer text) e = refl

  module _ (q : Refusal) (e : r ≡ Err q) (m : ℕ) (number : m ≡ number_of q) where
    refused_so : (x : Answer) → refused_with (number_of q) ≡ returned_for x → (refusal_text m ≡ printed x) × (buffer_after out x ≡ out)
    refused_so (refusal j) p = (ap refusal_text (number ∙ ap number_in p), refl)
    refused_so (answer text) p = absurd (true≢false (ap is_refusal p))

    both : (refusal_text m ≡ printed a) × (buffer_after out a ≡ out)
    both = refused_so a (ap returned (sym e) ∙ k)

    pub refusal_bytes : (w : ℕ) → w ≡ 0 + length (refusal_text m) → w ≡ length (printed a)
    refusal_bytes w p = omega (arith, p, ap length both.0)

    pub refusal_over : (last : List ℕ) → last ≡ written mid 0 (refusal_text m) → last ≡ written out 0 (printed a)
    refusal_over last p = p ∙ ap (λ b. written b 0 (refusal_text m)) (l ∙ both.1) ∙ ap (written out 0) both.0

-- the text of a refusal is short, so it fits
pub refusal-fits : (n : ℕ) (out : List ℕ) → Fits w32 n → min_room ≤ length out → 0 + length (refusal_text n) ≤ length out
refusal-fits n out h room =
    let short : length (refusal_text n) ≤ 13 = simp length-append (omega (arith, u32_length n h)) in
    omega (arith, short)

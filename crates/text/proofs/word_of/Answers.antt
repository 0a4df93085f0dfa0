-- `text::word_of` meets its contract. The invariant: the bytes behind those that are left are in the number.
use mathlib.Core.Path.{◌≡◌, refl, sym, ap, ◌∙◌}
use mathlib.Core.List.{List, [], ◌∷◌, ◌++◌, append-nil, append_assoc}
use Prim.Native.Nat.{ℕ, suc, ◌+◌, ◌*◌, ◌^◌, ◌≤◌, ◌<◌}
use native.Mathlib.Nat.{pow-suc, pow-le-pow_right, lt_of_lt_of_le}
use native.Mathlib.Omega.{arith}
use mir.Syntax.{w8, w64}
use mir.Val.{Fits}
use lib.ListN.{length, get_or, length-append}
use lib.Seq.{get_or-append_seam}
use borrow.Author.Rules.{rules}
use Rattle.text.specs.Ids.{word_bytes, word_of}
use Rattle.text.proofs.Words.{bytes_more}
use Rattle.text.proofs.word_of.Invariants.{Joined}
use Rattle.text.proofs.word_of.Goals as goal

start : (s rest : List ℕ) → rest ≡ s → Joined s rest 0
start s rest e = record { back = []; parts = sym (append-nil rest ∙ e); small = omega arith; number = refl; bytes = refl }

-- The last byte of those that are left goes before the others.
module _ (s rest left : List ℕ) (word b : ℕ) (j : Joined s rest word) (few : length s ≤ word_bytes) (e : rest ≡ left ++ (b ∷ []))
    (bytes : (i : ℕ) → Fits w8 (get_or s i 0)) where
  parts : s ≡ left ++ (b ∷ j.back)
  parts = j.parts ∙ ap (λ l. l ++ j.back) e ∙ append_assoc left (b ∷ []) j.back

  byte : b < 256
  byte = let here : get_or s (length left) 0 ≡ b = ap (λ l. get_or l (length left) 0) parts ∙ get_or-append_seam left b j.back 0 in omega (arith, bytes (length left))

  larger : word * 256 + b < 256 ^ suc (length j.back)
  larger = let k : word < 256 ^ length j.back = j.small in rw pow-suc (omega (arith, byte))

  room : Fits w64 (word * 256 + b)
  room =
      let l : suc (length j.back) ≤ word_bytes = omega (arith, ap length parts, length-append left (b ∷ j.back)) in
      let m : word * 256 + b < 256 ^ word_bytes = lt_of_lt_of_le larger (pow-le-pow_right {n = 256} (omega arith) {j = word_bytes} l) in
      omega arith

  next : Joined s left (word * 256 + b)
  next =
      record {
        back = b ∷ j.back;
        parts = parts;
        small = larger;
        number = ap (λ w. w * 256 + b) j.number;
        bytes = bytes_more (length j.back) word b byte ∙ ap (λ l. b ∷ l) j.bytes;
      }

-- none is left
whole : (s rest : List ℕ) (word : ℕ) (j : Joined s rest word) → length rest ≡ 0 → j.back ≡ s
whole s [] word j e = sym j.parts
whole s (b ∷ rest) word j e = absurd (omega arith)

pub loop-b-init : goal.loop-b-init
loop-b-init c = search (rules, start)

pub overflow_mul-word : goal.overflow_mul-word
overflow_mul-word c =
    omega (arith, room _ _ _ _ _ c.loop-b.invariant c.requires c.in-Some.ensures.steps c.type_inv.s)

pub overflow_add-word : goal.overflow_add-word
overflow_add-word c =
    omega (arith, room _ _ _ _ _ c.loop-b.invariant c.requires c.in-Some.ensures.steps c.type_inv.s)

pub loop-b-preserved : goal.loop-b-preserved
loop-b-preserved c =
    rw c.from.ensures (next _ _ _ _ _ c.loop-b.invariant c.requires c.in-Some.ensures.steps c.type_inv.s)

pub returns-clause-number : goal.returns-clause-number
returns-clause-number c =
    let j = c.loop-b.invariant in
    j.number ∙ ap word_of (whole _ _ _ j c.in-None.ensures.steps.0)

pub returns-clause-back : goal.returns-clause-back
returns-clause-back c =
    let j = c.loop-b.invariant in
    rw (whole _ _ _ j c.in-None.ensures.steps.0) at j.bytes

-- Masks: the bit of a class, and whether a mask has a class past the first k.
use Rattle.std.proofs.Common.{◌≡◌, refl, Bool, true, false, cond, ℕ, ◌*◌, ◌/◌, ◌%◌, ◌^◌, ◌<◌, div-lt_iff_lt-mul, one-mul, arith, eqb, ltb}
use Rattle.std.proofs.Common.{pow_pos, ne_eqb, eqb-true, ltb-true, ltb-false}
use native.Mathlib.Nat.{div-eq_of_lt}
use borrow.Author.Tests.{eqb-false}
use Rattle.semantics.specs.Network.{allows}

-- the bit of a class is 1 where a mask allows the class, else 0
pub bit_allows : (mask c : ℕ) → mask / 2 ^ c % 2 ≡ cond (allows mask c) 1 0
bit_allows mask c = go (allows mask c) refl
  where
    go : (b : Bool) → eqb (mask / 2 ^ c % 2) 1 ≡ b → mask / 2 ^ c % 2 ≡ cond b 1 0
    go true e = eqb-true (mask / 2 ^ c % 2) 1 e
    go false e = let z = eqb-false (mask / 2 ^ c % 2) 1 e in omega arith

-- a mask has no bit at k or past it exactly when it is below 2 ^ k
pub no_bit_past : (mask k : ℕ) → eqb (mask / 2 ^ k) 0 ≡ ltb mask (2 ^ k)
no_bit_past mask k = go (ltb mask (2 ^ k)) refl
  where
    go : (b : Bool) → ltb mask (2 ^ k) ≡ b → eqb (mask / 2 ^ k) 0 ≡ b
    go true e = rw (div-eq_of_lt (ltb-true mask (2 ^ k) e))
    go false e =
        ne_eqb (mask / 2 ^ k) 0 λ z.
        let l : mask < 1 * 2 ^ k = (div-lt_iff_lt-mul {k = 2 ^ k} {x = mask} {y = 1} (pow_pos k)).0 (omega arith) in
        omega (arith, ltb-false mask (2 ^ k) e, one-mul (2 ^ k))

-- A count that is held at the largest one: sums and products of held numbers, held again, are the held sums and products.
use Rattle.std.proofs.Common.{◌≡◌, refl, ◌∙◌, Bool, true, false, cond, ◌↔◌, ℕ, zero, suc, ◌+◌, ◌*◌, ◌≤◌, ◌<◌, min, mul_comm}
use Rattle.std.proofs.Common.{le-mul_of_pos_right, mul-le-mul_right, arith, leb, leb-true, leb-false}
use native.Mathlib.Nat.{min-eq_left, min-eq_right}
use Rattle.semantics.specs.Limits.{max_count}
use Rattle.semantics.specs.Solutions.{held}

-- the laws of sums and products, for any limit
module _ (m : ℕ) where
  min_add : (a b : ℕ) → min (a + b) m ≡ min (min a m + min b m) m
  min_add a b = omega arith

  past : (a b : ℕ) → m ≤ a → min (a * b) m ≡ min (m * b) m
  past a zero h = omega arith
  past a (suc b) h =
      omega (arith, le-mul_of_pos_right {m = suc b} m (omega arith), mul-le-mul_right (suc b) h)

  min_mul_left : (a b : ℕ) → min (a * b) m ≡ min (min a m * b) m
  min_mul_left a b = go (leb a m) refl
    where
      go : (t : Bool) → leb a m ≡ t → min (a * b) m ≡ min (min a m * b) m
      go true e = rw (min-eq_left (leb-true a m e))
      go false e = let h : m ≤ a = omega (arith, leb-false a m e) in rw (min-eq_right h) (past a b h)

  min_mul : (a b : ℕ) → min (a * b) m ≡ min (min a m * min b m) m
  min_mul a b =
      min_mul_left a b ∙ rw (mul_comm (min a m) b, mul_comm (min a m) (min b m)) (min_mul_left b (min a m))

-- The held sum is what held numbers add up to, held: a count may be held after each addition.
pub held_add : (a b : ℕ) → held (a + b) ≡ held (held a + held b)
held_add = min_add max_count

-- The held product is the product of held numbers, held: a count may be held after each multiplication.
pub held_mul : (a b : ℕ) → held (a * b) ≡ held (held a * held b)
held_mul = min_mul max_count

pub held_mul_left : (a b : ℕ) → held (a * b) ≡ held (held a * b)
held_mul_left = min_mul_left max_count

-- U6: for either bit and any two held counts, the held sum with the bit times the count is that of the addition that tests the bit.
pub held_bit : (a b : ℕ) (bit : Bool) → held (held a + held b * cond bit 1 0) ≡ cond bit (held (held a + held b)) (held a)
held_bit a b true = omega arith
held_bit a b false = omega arith

-- A number within the limit is its own held number.
pub held_small : (a : ℕ) → a ≤ max_count → held a ≡ a
held_small a h = omega arith

-- A number is zero exactly when it is zero held: belief reads held counts. U14 of 02 will cite it.
pub held_pos : (a : ℕ) → (0 < held a) ↔ (0 < a)
held_pos a = (λ h. omega arith, λ h. omega arith)

-- Holding keeps the order. U8 of 02 will cite it.
pub held_mono : (a b : ℕ) → a ≤ b → held a ≤ held b
held_mono a b h = omega arith

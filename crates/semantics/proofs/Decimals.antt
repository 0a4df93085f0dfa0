-- The laws of `decimal`: one digit, one digit more, how many there are, and that a number is read back.
use Rattle.std.proofs.Common.{◌≡◌, refl, sym, ap, ◌∙◌, Bool, true, false, [], ◌∷◌, ◌++◌, ℕ, zero, suc, ◌+◌, ◌/◌, ◌%◌, ◌^◌, ◌≤◌, ◌<◌}
use Rattle.std.proofs.Common.{pow-suc, arith, w32, Fits, ltb, length, length-append, lt-ltb, le-ltb, le-leb, ltb-true, ltb-false}
use Rattle.semantics.specs.Text.{number, value, is_digit, digits, decimal}

-- a number below ten is one digit, whatever the bound
one_digit : (k n : ℕ) → n < 10 → digits k n ≡ (48 + n) ∷ []
one_digit zero n h = refl
one_digit (suc k) n h = rw (lt-ltb n 10 h)

-- how large the bound is does not matter, if it is large enough
bound : (j k n : ℕ) → n ≤ j → n ≤ k → digits j n ≡ digits k n
bound zero k n h l = sym (one_digit k n (omega arith))
bound (suc j) zero n h l = one_digit (suc j) n (omega arith)
bound (suc j) (suc k) n h l = go (ltb n 10) refl (bound j k (n / 10))
  where
    go : (b : Bool) → ltb n 10 ≡ b → (n / 10 ≤ j → n / 10 ≤ k → digits j (n / 10) ≡ digits k (n / 10)) → digits (suc j) n ≡ digits (suc k) n
    go true e r = rw e
    go false e r =
        let f : 10 ≤ n = ltb-false n 10 e in
        rw (e, r (omega arith) (omega arith))

-- a number below ten is its digit
pub decimal_one : (n : ℕ) → n < 10 → decimal n ≡ (48 + n) ∷ []
decimal_one n h = one_digit n n h

-- any other is its tenth with one digit more
pub decimal_more : (n : ℕ) → 10 ≤ n → decimal n ≡ decimal (n / 10) ++ ((48 + n % 10) ∷ [])
decimal_more n h = bound n (suc n) n (omega arith) (omega arith) ∙ rw (le-ltb n 10 h, bound n (n / 10) (n / 10) (omega arith) (omega arith))

-- how many digits these are
pub length_one : (n : ℕ) → n < 10 → length (decimal n) ≡ 1
length_one n h = ap length (decimal_one n h)

pub length_more : (n : ℕ) → 10 ≤ n → length (decimal n) ≡ length (decimal (n / 10)) + 1
length_more n h = ap length (decimal_more n h) ∙ simp length-append

-- a number below a power of ten has no more digits than the power says
pub length-below : (j n : ℕ) → n < 10 ^ suc j → length (decimal n) ≤ suc j
length-below zero n h = omega (arith, length_one n h)
length-below (suc j) n h = go (ltb n 10) refl (length-below j (n / 10))
  where
    go : (b : Bool) → ltb n 10 ≡ b → (n / 10 < 10 ^ suc j → length (decimal (n / 10)) ≤ suc j) → length (decimal n) ≤ suc (suc j)
    go true e r = omega (arith, length_one n (ltb-true n 10 e))
    go false e r = omega (arith, length_more n (ltb-false n 10 e), r (omega (arith, pow-suc 10 (suc j))))

-- a number of 32 bits has ten at most
pub u32_length : (n : ℕ) → Fits w32 n → length (decimal n) ≤ 10
u32_length n h = length-below 9 n (omega arith)

-- the reader takes a digit
digit : (d : ℕ) → d < 10 → is_digit (48 + d) ≡ true
digit d h = rw (le-leb 48 (48 + d) (omega arith), le-leb (48 + d) 57 (omega arith))

-- a number of one, two or three digits is read back
ones : (n : ℕ) → n < 10 → number (decimal n) ≡ value n
ones n h = rw (decimal_one n h) (simp (digit n h) (ap value (omega arith)))

tens : (n : ℕ) → 10 ≤ n → n < 100 → number (decimal n) ≡ value n
tens n l h =
    rw (decimal_more n l, decimal_one (n / 10) (omega arith))
    (simp (digit (n / 10) (omega arith), digit (n % 10) (omega arith), lt-ltb 48 (48 + n / 10) (omega arith)) (ap value (omega arith)))

hundreds : (n : ℕ) → 100 ≤ n → n < 1000 → number (decimal n) ≡ value n
hundreds n l h =
    let a = n / 10 / 10 in
    rw (decimal_more n (omega arith), decimal_more (n / 10) (omega arith), decimal_one a (omega arith))
    (simp (digit a (omega arith), digit (n / 10 % 10) (omega arith), digit (n % 10) (omega arith), lt-ltb 48 (48 + a) (omega arith))
    (ap value (omega arith)))

-- a number below 1000 that is written is read back
pub number-decimal : (n : ℕ) → n < 1000 → number (decimal n) ≡ value n
number-decimal n h = go (ltb n 10) refl (ltb n 100) refl
  where
    go : (b : Bool) → ltb n 10 ≡ b → (d : Bool) → ltb n 100 ≡ d → number (decimal n) ≡ value n
    go true e d f = ones n (ltb-true n 10 e)
    go false e true f = tens n (ltb-false n 10 e) (ltb-true n 100 f)
    go false e false f = hundreds n (ltb-false n 100 f) h

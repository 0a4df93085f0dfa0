-- The laws of bytes as numbers: they come back out of their number, numbers are the same when their bytes are, and how many bytes a number
-- has before its zeros.
use mathlib.Core.Path.{◌≡◌, refl, sym, ap, ap₂, ◌∙◌}
use mathlib.Core.Bool.{Bool, true, false, ◌&&◌, and-false, false≢true}
use mathlib.Core.List.{List, [], ◌∷◌, ◌++◌, append_assoc, append-nil}
use Prim.Native.Nat.{ℕ, zero, suc, ◌+◌, ◌-◌, ◌*◌, ◌/◌, ◌%◌, ◌^◌, ◌≤◌, ◌<◌}
use native.Mathlib.Nat.{pow-suc, one-le-pow, pow-le-pow_right, div-one, div-div-eq-div-mul}
use native.Mathlib.Decide.{dec_lt}
use Rattle.std.proofs.lemmas.Nat.{pow-add}
use native.Mathlib.Omega.{arith}
use lib.ListN.{length, take, drop, replicate, length-drop, take-append-drop, replicate-append-replicate, drop_of_length-le}
use lib.Seq.{take_all, length-take-le}
use lib.Dec.{eqb, leb, ltb}
use borrow.Author.Tests.{eq-eqb, ne_eqb, eqb-true, eqb-false, lt-leb, leb-true, leb-false, ltb-true, ltb-false}
use Rattle.semantics.specs.Basics.{every, same}
use Rattle.semantics.specs.Text.{is_id_byte}
use Rattle.semantics.proofs.Lists.{and_left, and_right}
use mir.Syntax.{w64}
use Rattle.std.specs.Int.{byte_at, bytes_low_first, to_le_bytes}
use Rattle.text.specs.Ids.{word_bytes, keep, trimmed, word_of, bytes_of}

pub length-bytes : (n w : ℕ) → length (bytes_of n w) ≡ n
length-bytes zero w = refl
length-bytes (suc n) w = ap suc (length-bytes n (w / 256))

-- the library's bytes of a number, from one on
from-byte : (i k w : ℕ) → bytes_low_first i k w ≡ bytes_of k (w / 256 ^ i)
from-byte i zero w = refl
from-byte i (suc k) w = ap₂ (λ b bs. b ∷ bs) (byte i) (from-byte (suc i) k w ∙ ap (bytes_of k) higher)
  where
    byte : (j : ℕ) → byte_at j w ≡ w / 256 ^ j % 256
    byte zero = rw div-one
    byte (suc j) = refl

    higher : w / 256 ^ suc i ≡ w / 256 ^ i / 256
    higher = rw (pow-suc, div-div-eq-div-mul)

-- all eight of them
pub low_bytes : (w : ℕ) → to_le_bytes w64 w ≡ bytes_of word_bytes w
low_bytes w = from-byte 0 word_bytes w ∙ rw div-one

-- a byte put before a number's bytes
pub bytes_more : (n w b : ℕ) → b < 256 → bytes_of (suc n) (w * 256 + b) ≡ b ∷ bytes_of n w
bytes_more n w b h =
    let m : (w * 256 + b) % 256 ≡ b = omega arith in
    let d : (w * 256 + b) / 256 ≡ w = omega arith in
    rw (m, d)

-- a number that n bytes hold, without its lowest byte
rest_small : (n w : ℕ) → w < 256 ^ suc n → w / 256 < 256 ^ n
rest_small n w h = let k : w < 256 ^ n * 256 = rw pow-suc at h in omega arith

-- a number comes back out of its bytes
pub word_bytes_lem : (n w : ℕ) → w < 256 ^ n → word_of (bytes_of n w) ≡ w
word_bytes_lem zero w h = omega arith
word_bytes_lem (suc n) w h = rw (word_bytes_lem n (w / 256) (rest_small n w h)) (omega arith)

-- numbers are the same exactly when their bytes are
pub same_bytes : (n v w : ℕ) → v < 256 ^ n → w < 256 ^ n → same (bytes_of n v) (bytes_of n w) ≡ eqb v w
same_bytes zero v w h k = let e : v ≡ w = omega arith in sym (eq-eqb v w e)
same_bytes (suc n) v w h k =
    rw (same_bytes n (v / 256) (w / 256) (rest_small n v h) (rest_small n w k)) (go (eqb (v % 256) (w % 256)) refl (eqb (v / 256) (w / 256)) refl)
  where
    go : (a : Bool) → eqb (v % 256) (w % 256) ≡ a → (b : Bool) → eqb (v / 256) (w / 256) ≡ b → (a && b) ≡ eqb v w
    go true e true f =
        let p : v % 256 ≡ w % 256 = eqb-true (v % 256) (w % 256) e in
        let q : v / 256 ≡ w / 256 = eqb-true (v / 256) (w / 256) f in
        sym (eq-eqb v w (omega arith))
    go true e false f = sym (ne_eqb v w (λ z. eqb-false _ _ f (ap (λ x. x / 256) z)))
    go false e b f = sym (ne_eqb v w (λ z. eqb-false _ _ e (ap (λ x. x % 256) z)))

-- a byte that isn't the last, or isn't zero, is kept
keep_more : (b : ℕ) (t : List ℕ) → 0 < length t → keep b t ≡ b ∷ t
keep_more b [] h = absurd (omega arith)
keep_more b (c ∷ t) h = refl

keep_byte : (b : ℕ) (t : List ℕ) → 0 < b → keep b t ≡ b ∷ t
keep_byte b [] h = rw (ne_eqb b 0 (λ e. omega arith))
keep_byte b (c ∷ t) h = refl

-- zero has no bytes before its zeros
pub trimmed-zero : (n : ℕ) → trimmed (bytes_of n 0) ≡ []
trimmed-zero zero = refl
trimmed-zero (suc n) = rw (trimmed-zero n)

-- any other number has some
pub trimmed-some : (n w : ℕ) → 0 < w → w < 256 ^ n → 0 < length (trimmed (bytes_of n w))
trimmed-some zero w p h = absurd (omega arith)
trimmed-some (suc n) w p h = go (eqb (w / 256) 0) refl (λ q. trimmed-some n (w / 256) q (rest_small n w h))
  where
    go : (t : Bool) → eqb (w / 256) 0 ≡ t → (0 < w / 256 → 0 < length (trimmed (bytes_of n (w / 256))))
        → 0 < length (trimmed (bytes_of (suc n) w))
    go true e ih = let z : w / 256 ≡ 0 = eqb-true (w / 256) 0 e in rw (keep_byte (w % 256) (trimmed (bytes_of n (w / 256))) (omega arith)) (omega arith)
    go false e ih =
        let z : w / 256 ≡ 0 → ⊥ = eqb-false (w / 256) 0 e in
        rw (keep_more (w % 256) (trimmed (bytes_of n (w / 256))) (ih (omega arith))) (omega arith)

-- its lowest byte, and those behind it
pub trimmed_more : (n w : ℕ) → 0 < w → w < 256 ^ suc n → trimmed (bytes_of (suc n) w) ≡ (w % 256) ∷ trimmed (bytes_of n (w / 256))
trimmed_more n w p h = go (eqb (w / 256) 0) refl
  where
    go : (t : Bool) → eqb (w / 256) 0 ≡ t → trimmed (bytes_of (suc n) w) ≡ (w % 256) ∷ trimmed (bytes_of n (w / 256))
    go true e = let z : w / 256 ≡ 0 = eqb-true (w / 256) 0 e in keep_byte (w % 256) (trimmed (bytes_of n (w / 256))) (omega arith)
    go false e =
        let z : w / 256 ≡ 0 → ⊥ = eqb-false (w / 256) 0 e in
        keep_more (w % 256) (trimmed (bytes_of n (w / 256))) (trimmed-some n (w / 256) (omega arith) (rest_small n w h))

-- without its lowest byte a number has eight bits fewer
fewer-bits : (m w : ℕ) → w < 2 ^ m → 2 ^ m ≤ 2 * w + 1 → (w / 256 < 2 ^ (m - 8)) × (2 ^ (m - 8) ≤ 2 * (w / 256) + 1)
fewer-bits m w h k =
    elim (dec_lt m 8) [
      | yes l ↦
          let z : m - 8 ≡ 0 = omega arith in
          let small : 2 ^ m ≤ 2 ^ 8 = pow-le-pow_right {n = 2} (omega arith) {j = 8} (omega arith) in
          rw z (omega arith, omega arith)
      | no n ↦
          let z : m ≡ (m - 8) + 8 = omega arith in
          let parts : 2 ^ m ≡ 2 ^ (m - 8) * 256 = ap (λ j. 2 ^ j) z ∙ pow-add 2 (m - 8) 8 in
          (omega arith, omega arith)
    ]

-- a number of m bits has a byte for every eight of them that are begun
pub length-trimmed-bytes : (n m w : ℕ) → w < 256 ^ n → w < 2 ^ m → 2 ^ m ≤ 2 * w + 1 → length (trimmed (bytes_of n w)) ≡ (m + 7) / 8
length-trimmed-bytes zero zero w s h k = omega arith
length-trimmed-bytes zero (suc m) w s h k = absurd (let p = one-le-pow m 2 (omega arith) in omega (arith, pow-suc 2 m))
length-trimmed-bytes (suc n) zero w s h k = let z : w ≡ 0 = omega arith in rw (z, trimmed-zero n)
length-trimmed-bytes (suc n) (suc m) w s h k =
    let some : 0 < w = omega (arith, pow-suc 2 m, one-le-pow m 2 (omega arith)) in
    let fewer = fewer-bits (suc m) w h k in
    let less = length-trimmed-bytes n (suc m - 8) (w / 256) (rest_small n w s) fewer.0 fewer.1 in
    rw (trimmed_more n w some s) (omega arith)

-- bytes of an id, no more than n, come back out of their number, with zeros behind them
id_byte_small : (b : ℕ) → is_id_byte b ≡ true → b < 256
id_byte_small b h = go (ltb 90 b) refl
  where
    go : (t : Bool) → ltb 90 b ≡ t → b < 256
    go true e =
        let l : 90 < b = ltb-true 90 b e in
        absurd (false≢true (rw (lt-leb b 90 l, lt-leb b 57 (omega arith), and-false, and-false) at h))
    go false e = let l : b ≤ 90 = ltb-false 90 b e in omega arith

pub bytes_word : (n : ℕ) (s : List ℕ) → every is_id_byte s ≡ true → length s ≤ n → bytes_of n (word_of s) ≡ s ++ replicate (n - length s) 0
bytes_word n [] e h = let z : n - 0 ≡ n = omega arith in rw z (zeros n)
  where
    zeros : (k : ℕ) → bytes_of k 0 ≡ replicate k 0
    zeros zero = refl
    zeros (suc k) = ap (λ l. 0 ∷ l) (zeros k)
bytes_word zero (b ∷ s) e h = absurd (omega arith)
bytes_word (suc n) (b ∷ s) e h =
    let z : suc n - suc (length s) ≡ n - length s = omega arith in
    rw z
    (bytes_more n (word_of s) b (id_byte_small b (and_left (is_id_byte b) (every is_id_byte s) e))
    ∙ ap (λ l. b ∷ l) (bytes_word n s (and_right (is_id_byte b) (every is_id_byte s) e) (omega arith)))

-- bytes in two parts of k, each with zeros behind it, where only the last byte's part is not full: zeros behind all of them
pub two_parts : (k : ℕ) (s : List ℕ) → length s ≤ k + k
    → (take k s ++ replicate (k - length (take k s)) 0) ++ (drop k s ++ replicate (k - length (drop k s)) 0) ≡ s ++ replicate (k + k - length s) 0
two_parts k s h = go (leb (length s) k) refl
  where
    go : (t : Bool) → leb (length s) k ≡ t
        → (take k s ++ replicate (k - length (take k s)) 0) ++ (drop k s ++ replicate (k - length (drop k s)) 0)
        ≡ s ++ replicate (k + k - length s) 0
    go true e =
        let l : length s ≤ k = leb-true (length s) k e in
        let z : k - length s + (k - 0) ≡ k + k - length s = omega arith in
        rw (take_all k s l, drop_of_length-le s {i = k} l, append_assoc, replicate-append-replicate, z)
    go false e =
        let l : k < length s = leb-false (length s) k e in
        let f : length (take k s) ≡ k = length-take-le k s (omega arith) in
        let g : k - k ≡ 0 = omega arith in
        let z : k - (length s - k) ≡ k + k - length s = omega arith in
        rw (f, g, append-nil, length-drop, z, ← append_assoc, take-append-drop)

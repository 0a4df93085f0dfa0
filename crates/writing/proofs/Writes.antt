-- The laws of `written`: nothing, a byte in front, its length, one piece after another, and what a part of it holds.
use mathlib.Core.Path.{◌≡◌, ◌∙◌}
use mathlib.Core.List.{List, [], ◌∷◌, ◌++◌, append_assoc}
use Prim.Native.Nat.{ℕ, suc, ◌+◌, ◌≤◌, ◌<◌}
use native.Mathlib.Nat.{add-zero}
use native.Mathlib.Numerals.{add-one}
use native.Mathlib.Omega.{arith}
use lib.ListN.{length, take, drop, set, length-append, length-take, length-drop, take-append-drop}
use lib.Seq.{drop-drop, take_at, drop_at, drop-append-add, drop-append-le, take-append-le, take-append_seam}
use lib.Seq.{drop-set-lt, take-suc-set, length-take-le}
use Rattle.semantics.specs.Buffers.{written}

-- nothing written leaves the buffer as it is
pub written_nil : (s : List ℕ) (at : ℕ) → written s at [] ≡ s
written_nil s at = rw add-zero (take-append-drop at s)

-- a byte stored before ds, and then ds written, are both written
pub store_first : (s ds : List ℕ) (at d : ℕ) → at < length s → written (set s at d) (at + 1) ds ≡ written s at (d ∷ ds)
store_first s ds at d h =
    let z : suc at + length ds ≡ at + suc (length ds) = omega arith in
    rw (add-one, take-suc-set s at d h, z, append_assoc, drop-set-lt (at + suc (length ds)) s at d (omega arith))

-- two pieces, one right after the other, are one
pub written_then : (s a b : List ℕ) (at : ℕ) → at + length a ≤ length s
    → written (written s at a) (at + length a) b ≡ written s at (a ++ b)
written_then s a b at h =
    let p = take at s ++ a in
    let q = drop (at + length a) s in
    let n : length p ≡ at + length a = simp (length-append, length-take) (omega arith) in
    let e : at + length a + length b ≡ length p + length b = omega arith in
    let z : at + length (a ++ b) ≡ at + length a + length b = omega (arith, length-append a b) in
    let t : take (at + length a) (p ++ q) ≡ p = take_at p q (at + length a) n in
    let d : drop (at + length a + length b) (p ++ q) ≡ drop (at + length (a ++ b)) s =
    rw (e, drop-append-add p q (length b), drop-drop, z) in
    rw (← append_assoc (take at s) a q, t, d) (simp append_assoc)

-- what is written within a buffer leaves its length
pub length-written : (s bytes : List ℕ) (at : ℕ) → at + length bytes ≤ length s → length (written s at bytes) ≡ length s
length-written s bytes at h = simp (length-append, length-take, length-drop) (omega arith)

-- at the front of a buffer
pub written-front : (s bytes : List ℕ) → written s 0 bytes ≡ bytes ++ drop (length bytes) s
written-front s bytes = let z : 0 + length bytes ≡ length bytes = omega arith in rw z

-- the part that was written holds what was written
pub part_written : (s bytes : List ℕ) (at : ℕ) → at + length bytes ≤ length s → take (length bytes) (drop at (written s at bytes)) ≡ bytes
part_written s bytes at h =
    rw (drop_at (take at s) (bytes ++ drop (at + length bytes) s) at (length-take-le at s (omega arith)))
    (take-append_seam bytes (drop (at + length bytes) s))

-- a part in front does not depend on what comes after
front : (p x y : List ℕ) (a k : ℕ) → a + k ≤ length p → take k (drop a (p ++ x)) ≡ take k (drop a (p ++ y))
front p x y a k h =
    let l : a ≤ length p = omega arith in
    let m : k ≤ length (drop a p) = rw length-drop (omega arith) in
    rw (drop-append-le a p x l, drop-append-le a p y l, take-append-le k (drop a p) x m, take-append-le k (drop a p) y m)

-- a part that ends before it is as it was
pub part_before : (s bytes : List ℕ) (at a k : ℕ) → a + k ≤ at → at ≤ length s → take k (drop a (written s at bytes)) ≡ take k (drop a s)
part_before s bytes at a k h l =
    front (take at s) (bytes ++ drop (at + length bytes) s) (drop at s) a k (rw (length-take-le at s l) h) ∙ rw take-append-drop

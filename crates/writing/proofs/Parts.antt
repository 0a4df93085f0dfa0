-- A part of the buffer that goes to a call and comes back with bytes at its front.
use mathlib.Core.Path.{◌≡◌}
use mathlib.Core.List.{List, ◌++◌, append_assoc}
use Prim.Native.Nat.{ℕ, ◌+◌, ◌≤◌}
use native.Mathlib.Omega.{arith}
use lib.ListN.{length, take, drop, length-append, length-drop, take-append-drop}
use lib.Seq.{drop-drop, drop-append-le, length-take-le, take-append_seam}
use Rattle.semantics.specs.Buffers.{written}
use Rattle.writing.proofs.Writes.{written-front}

-- so many bytes from a place on
abbrev pub part : List ℕ → ℕ → ℕ → List ℕ
part out at k = take k (drop at out)

-- the buffer with other bytes in their place
abbrev pub back : List ℕ → ℕ → ℕ → List ℕ → List ℕ
back out at k lent_after = take at out ++ (lent_after ++ drop k (drop at out))

-- bytes at the front of a buffer that keeps its length are no more than it has
pub front_fits : (s text : List ℕ) → length (written s 0 text) ≡ length s → length text ≤ length s
front_fits s text e = omega (arith, rw (written-front, length-append) at e)

module _ (out : List ℕ) (at k : ℕ) (room : at + k ≤ length out) where
  -- the part has so many bytes
  pub part_length : length (part out at k) ≡ k
  part_length = let z : k ≤ length (drop at out) = rw length-drop (omega arith) in length-take-le k (drop at out) z

  -- bytes at the front of the part are bytes at its place of the buffer
  pub back_written : (text : List ℕ) → length text ≤ k → back out at k (written (part out at k) 0 text) ≡ written out at text
  back_written text h =
      let d = drop at out in
      let l : length text ≤ length (take k d) = rw part_length h in
      rw (written-front, append_assoc text, ← drop-append-le (length text) (take k d) (drop k d) l, take-append-drop k d, drop-drop)

-- what was written at the front of a buffer is its front
pub front_told : (out text last : List ℕ) (n : ℕ) → n ≡ length text → last ≡ written out 0 text → take n last ≡ text
front_told out text last n e w = rw (e, w, written-front) (take-append_seam text (drop (length text) out))

-- What is behind a place of a list, as it goes to a call and, if it is a buffer, comes back with bytes at its front; and that front.
use mathlib.Core.Path.{◌≡◌}
use mathlib.Core.List.{List}
use Prim.Native.Nat.{ℕ, ◌+◌, ◌-◌, ◌≤◌}
use native.Mathlib.Omega.{arith}
use lib.ListN.{length, drop, length-drop}
use lib.Seq.{take_all}
use Rattle.semantics.specs.Buffers.{written}
use Rattle.writing.proofs.Writes.{length-written}
use Rattle.writing.proofs.Parts as parts
use Rattle.writing.proofs.Parts.{part}

-- all that is behind a place
abbrev pub rest : List ℕ → ℕ → List ℕ
rest s at = part s at (length s - at)

pub rest_all : (s : List ℕ) (at : ℕ) → rest s at ≡ drop at s
rest_all s at = take_all (length s - at) (drop at s) (rw length-drop (omega arith))

-- the buffer with other bytes in its place
abbrev pub back : List ℕ → ℕ → List ℕ → List ℕ
back out at last = parts.back out at (length out - at) last

-- bytes at the front of that part are bytes at its place of the buffer, which is as long as it was
module _ (out : List ℕ) (at : ℕ) (last text : List ℕ) (fits : at + length text ≤ length out) (e : last ≡ written (rest out at) 0 text) where
  pub back_written : back out at last ≡ written out at text
  back_written = rw e (parts.back_written out at (length out - at) (omega arith) text (omega arith))

  pub back_length : length (back out at last) ≡ length out
  back_length = rw back_written (length-written out text at fits)

-- Texts one behind the other, as a loop writes them or adds up their lengths.
use mathlib.Core.Path.{◌≡◌}
use mathlib.Core.List.{List}
use Prim.Native.Nat.{ℕ, zero, suc, ◌+◌, ◌<◌, ◌≤◌}
use native.Mathlib.Decide.{ℕ_discrete}
use native.Mathlib.Numerals.{add-one}
use native.Mathlib.Omega.{arith}
use lib.ListN.{length, length-append}
use Rattle.writing.specs.declared.Page.{Page}
use Rattle.writing.specs.Pages.{Wrote}
use Rattle.writing.proofs.Pages.{wrote_then}
use Rattle.saving.specs.Texts.{up_to}

module _ (f : ℕ → List ℕ) where
  -- how long they are with one more
  pub length-next : (i : ℕ) → length (up_to f (i + 1)) ≡ length (up_to f i) + length (f i)
  length-next i = rw (add-one, length-append) (omega arith)

  -- the first of them are no longer than more of them
  up_to_le : (i n : ℕ) → i ≤ n → length (up_to f i) ≤ length (up_to f n)
  up_to_le i zero h = let z : i ≡ 0 = omega arith in rw z (omega arith)
  up_to_le i (suc n) h =
      elim (ℕ_discrete i (suc n)) [
        | yes e ↦ rw e (omega arith)
        | no d ↦ rw length-append (omega (arith, up_to_le i n (omega arith)))
      ]

  -- one more is no longer than all
  pub next_room : (i n : ℕ) → i < n → length (up_to f i) + length (f i) ≤ length (up_to f n)
  next_room i n h = omega (arith, length-next i, up_to_le (i + 1) n (omega arith))

  -- a turn writes the next one
  pub turn : (p q r : Page) (i : ℕ) → Wrote p (up_to f i) q → Wrote q (f i) r → Wrote p (up_to f (i + 1)) r
  turn p q r i v w = rw add-one (wrote_then p q r (up_to f i) (f i) v w)

-- What reading on means for the lines that the engine gets, and what a caller needs to read on again.
use mathlib.Core.Path.{◌≡◌, refl, ap}
use mathlib.Core.Bool.{Bool, true, false, cond, not, ◌&&◌, false≢true}
use mathlib.Core.List.{List, [], ◌∷◌, ◌++◌, append_assoc}
use Prim.Native.Nat.{ℕ, suc, ◌+◌, ◌-◌, ◌≤◌, ◌<◌, zero-le, suc-le-suc}
use native.Mathlib.Nat.{le_of_suc-le-suc, not-suc-le-zero}
use native.Mathlib.Omega.{arith}
use lib.Dec.{eqb}
use lib.ListN.{length, take, drop, length-append, length-take}
use lib.Seq.{take_at, take-append-add, length-take-le}
use borrow.Author.Tests.{eqb-true}
use Rattle.semantics.specs.Text.{is_blank}
use Rattle.input.specs.declared.Pending.{Pending}
use Rattle.input.specs.Cutting.{kept_bytes, until_end, so_far, no_line, grown, no_end, handed}
use Rattle.input.proofs.Lines.{handed_last}

-- no byte 10 is among the bytes up to the first one
pub until_no_end : (bs : List ℕ) → no_end (until_end bs) ≡ true
until_no_end [] = refl
until_no_end (b ∷ bs) = go (eqb b 10) refl (until_no_end bs)
  where
    go : (t : Bool) → eqb b 10 ≡ t → no_end (until_end bs) ≡ true → no_end (cond t [] (b ∷ until_end bs)) ≡ true
    go true e h = refl
    go false e h = rw (e, h)

-- they are no more than there are bytes
pub until_le : (bs : List ℕ) → length (until_end bs) ≤ length bs
until_le [] = zero-le
until_le (b ∷ bs) = go (eqb b 10) (until_le bs)
  where
    go : (t : Bool) → length (until_end bs) ≤ length bs → length (cond t [] (b ∷ until_end bs)) ≤ suc (length bs)
    go true h = zero-le
    go false h = suc-le-suc h

-- where they are fewer, byte 10 and the others come behind them
pub until_split : (bs : List ℕ) → length (until_end bs) < length bs → bs ≡ until_end bs ++ (10 ∷ drop (suc (length (until_end bs))) bs)
until_split [] h = absurd (not-suc-le-zero h)
until_split (b ∷ bs) h = go (eqb b 10) refl (until_split bs) h
  where
    go : (t : Bool)
        → eqb b 10 ≡ t
        → (length (until_end bs) < length bs → bs ≡ until_end bs ++ (10 ∷ drop (suc (length (until_end bs))) bs))
        → let u = cond t [] (b ∷ until_end bs) in
        length u < suc (length bs) → b ∷ bs ≡ u ++ (10 ∷ drop (suc (length u)) (b ∷ bs))
    go true e r k = ap (λ (c : ℕ). c ∷ bs) (eqb-true b 10 e)
    go false e r k = ap (λ (l : List ℕ). b ∷ l) (r (le_of_suc-le-suc k))

-- where they are not fewer, they are all bytes
pub until_all : (bs : List ℕ) → length bs ≤ length (until_end bs) → bs ≡ until_end bs
until_all [] h = refl
until_all (b ∷ bs) h = go (eqb b 10) (until_all bs) h
  where
    go : (t : Bool)
        → (length bs ≤ length (until_end bs) → bs ≡ until_end bs)
        → suc (length bs) ≤ length (cond t [] (b ∷ until_end bs))
        → b ∷ bs ≡ cond t [] (b ∷ until_end bs)
    go true r k = absurd (not-suc-le-zero k)
    go false r k = ap (λ (l : List ℕ). b ∷ l) (r (le_of_suc-le-suc k))

-- without byte 10 they are all bytes
pub until_open : (bs : List ℕ) → no_end bs ≡ true → until_end bs ≡ bs
until_open [] h = refl
until_open (b ∷ bs) h = go (eqb b 10) (until_open bs) h
  where
    go : (t : Bool) → (no_end bs ≡ true → until_end bs ≡ bs) → (not t && no_end bs) ≡ true → cond t [] (b ∷ until_end bs) ≡ b ∷ bs
    go true r k = absurd (false≢true k)
    go false r k = ap (λ (l : List ℕ). b ∷ l) (r k)

-- A line so far that keeps to its array.
module _ (p : Pending) (w : length p.bytes ≡ kept_bytes) (f : p.length ≤ kept_bytes) where
  -- with more bytes it is what is kept of both, one behind the other
  pub so_far_grown : (bs : List ℕ) → so_far (grown p bs) ≡ take kept_bytes (so_far p ++ bs)
  so_far_grown bs =
      let n = p.length in
      let m = take (kept_bytes - n) bs in
      let a = so_far p in
      let l : length a ≡ n = length-take-le n p.bytes (omega arith) in
      let k : length (a ++ m) ≡ n + length m = rw (length-append, l) in
      let z : length a + (kept_bytes - n) ≡ kept_bytes = omega arith in
      let t : take kept_bytes (a ++ bs) ≡ a ++ m = rw z at (take-append-add a bs (kept_bytes - n)) in
      rw (← append_assoc a m (drop (n + length m) p.bytes), t) (take_at (a ++ m) _ (n + length m) k)

  -- and no more bytes of it are kept than there is room for
  pub grown-fits : (bs : List ℕ) → (grown p bs).length ≤ kept_bytes
  grown-fits bs = rw length-take (omega arith)

-- of a line of which no byte has come in nothing is kept, and there is room
pub so_far_none : so_far no_line ≡ []
unfolding no_line
so_far_none = refl

pub none_wide : length no_line.bytes ≡ kept_bytes
unfolding no_line
none_wide = refl

pub none-fits : no_line.length ≤ kept_bytes
unfolding no_line
none-fits = zero-le

-- where nothing comes any more, what is kept is the last line, unless it is blank
pub last_line : (p : Pending) → no_end (so_far p) ≡ true → p.length ≤ kept_bytes
    → handed (so_far p) [] ≡ cond (is_blank (so_far p)) [] (so_far p ∷ [])
last_line p h f = handed_last (so_far p) h (rw length-take (omega arith))

-- The laws of a line's fields: how many there are, and the first of them with those behind its comma.
use mathlib.Core.Path.{◌≡◌, refl, ap}
use mathlib.Core.Bool.{Bool, true, false, cond}
use mathlib.Core.List.{List, [], ◌∷◌}
use Prim.Native.Nat.{ℕ, suc, ◌+◌, ◌≤◌, ◌<◌}
use native.Mathlib.Omega.{arith}
use lib.Dec.{eqb}
use lib.ListN.{length, take, drop, length-drop}
use lib.Seq.{drop-drop}
use native.Mathlib.Decide.{dec_lt}
use borrow.Author.Tests.{le-leb, lt-leb}
use Rattle.std.specs.List.{count_by}
use Rattle.std.proofs.lemmas.List.Sums.{sum_by-cons}
use Rattle.scanning.specs.Places.{index_after, index_of}
use Rattle.semantics.specs.Text.{fields, prepend}
use Rattle.text.specs.Lines.{fields_from}

-- a byte in front of some pieces makes no more of them
length-prepend : (b : ℕ) (fs : List (List ℕ)) → 0 < length fs → length (prepend b fs) ≡ length fs
length-prepend b [] h = absurd (omega arith)
length-prepend b (f ∷ fs) h = refl

-- there is one field more than there are commas
pub length_fields : (s : List ℕ) → count_by (λ b. eqb b 44) s + 1 ≡ length (fields s)
length_fields [] = refl
length_fields (b ∷ bs) = rw (sum_by-cons (λ c. cond (eqb c 44) 1 0) b bs) (go (eqb b 44) (length_fields bs))
  where
    go : (t : Bool) → count_by (λ c. eqb c 44) bs + 1 ≡ length (fields bs)
        → (cond t 1 0 + count_by (λ c. eqb c 44) bs) + 1 ≡ length (cond t ([] ∷ fields bs) (prepend b (fields bs)))
    go true h = omega arith
    go false h = omega (arith, length-prepend b (fields bs) (omega arith))

-- the first field goes up to the first comma, and behind that come the others
pub first-others : (s : List ℕ) → index_of 44 s < length s → fields s ≡ take (index_of 44 s) s ∷ fields (drop (suc (index_of 44 s)) s)
first-others [] h = absurd (omega arith)
first-others (b ∷ bs) h = go (eqb b 44) (first-others bs) h
  where
    go : (t : Bool) → (index_of 44 bs < length bs → fields bs ≡ take (index_of 44 bs) bs ∷ fields (drop (suc (index_of 44 bs)) bs))
        → let n = index_after t (index_of 44 bs) in
        n < suc (length bs) → cond t ([] ∷ fields bs) (prepend b (fields bs)) ≡ take n (b ∷ bs) ∷ fields (drop (suc n) (b ∷ bs))
    go true r k = refl
    go false r k = ap (prepend b) (r (omega arith))

-- where there is no comma it is the only one
pub first_alone : (s : List ℕ) → length s ≤ index_of 44 s → fields s ≡ take (index_of 44 s) s ∷ []
first_alone [] h = refl
first_alone (b ∷ bs) h = go (eqb b 44) (first_alone bs) h
  where
    go : (t : Bool) → (length bs ≤ index_of 44 bs → fields bs ≡ take (index_of 44 bs) bs ∷ [])
        → let n = index_after t (index_of 44 bs) in
        suc (length bs) ≤ n → cond t ([] ∷ fields bs) (prepend b (fields bs)) ≡ take n (b ∷ bs) ∷ []
    go true r k = absurd (omega arith)
    go false r k = ap (prepend b) (r (omega arith))

-- it ends in the line
index_within : (s : List ℕ) → index_of 44 s ≤ length s
index_within [] = omega arith
index_within (b ∷ bs) = go (eqb b 44) (index_within bs)
  where
    go : (t : Bool) → index_of 44 bs ≤ length bs → index_after t (index_of 44 bs) ≤ suc (length bs)
    go true h = omega arith
    go false h = omega arith

-- The field from a place of a line on: it ends in the line, and the others are those from behind its comma on.
module _ (s : List ℕ) (from : ℕ) (h : from ≤ length s) where
  pub end_within : from + index_of 44 (drop from s) ≤ length s
  end_within = omega (arith, index_within (drop from s), length-drop from s)

  pub fields_next : fields_from s from ≡ take (index_of 44 (drop from s)) (drop from s) ∷ fields_from s (from + index_of 44 (drop from s) + 1)
  fields_next =
      let rest = drop from s in
      let end = from + index_of 44 rest in
      elim (dec_lt end (length s)) [
        | yes l ↦
            let z : from + suc (index_of 44 rest) ≡ end + 1 = omega arith in
            rw (le-leb from (length s) h, le-leb (end + 1) (length s) (omega arith), ← z, ← drop-drop)
            (first-others rest (omega (arith, length-drop from s)))
        | no n ↦
            rw (le-leb from (length s) h, lt-leb (end + 1) (length s) (omega arith)) (first_alone rest (omega (arith, length-drop from s)))
      ]

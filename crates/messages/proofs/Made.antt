-- An array that is made value by value, as `from_fn` makes one: it is the row of a function.
use Rattle.std.proofs.Common.{◌≡◌, sym, subst, ap, ◌∙◌, List, ℕ, zero, suc, ◌+◌, ◌≤◌, ◌<◌, arith, get_or, ext_get_or}
use native.Mathlib.Decide.{ℕ_discrete}
use denote.Param.Members.{Mut, Called}
use Rattle.std.specs.Array.{IsFromFnResultFrom, IsFromFnResult}
use Rattle.semantics.specs.Basics.{row_of}
use Rattle.semantics.proofs.Lists.{length_by, get_or_by}

module _ {F A : Type 0} {g : Mut F (ℕ × Unit {0}) A} {made : F} (f : ℕ → A) (d : A) (xs : List A) (m : ℕ)
    (gives : (k : ℕ) (x : A) (next : F) → k < m → Called g made (k, tt) x next → (next ≡ made) × (x ≡ f k)) where
  -- from i on each value is the function's
  made_from : (i n : ℕ) → i + n ≡ m → IsFromFnResultFrom g made xs i n → (k : ℕ) → i ≤ k → k < m → get_or xs k d ≡ f k
  made_from i zero e calls k l h = absurd (omega arith)
  made_from i (suc n) e (next, x, at, call, more) k l h =
      let (stays, value) = gives i x next (omega arith) call in
      elim (ℕ_discrete k i) [
        | yes q ↦ ap (λ j. get_or xs j d) q ∙ at.1 d ∙ value ∙ ap f (sym q)
        | no z ↦ made_from (i + 1) n (omega arith) (subst (λ s. IsFromFnResultFrom g s xs (i + 1) n) stays more) k (omega arith) h
      ]

  -- A call at each place leaves the closure as it was and gives the function's value: then the array is the function's row.
  pub row_made : IsFromFnResult g made xs m → xs ≡ row_of m f
  row_made calls =
      ext_get_or d xs (row_of m f) (calls.long ∙ sym (length_by f m))
      (λ k l. let h : k < m = omega (arith, calls.long) in made_from 0 m (omega arith) calls.each k (omega arith) h ∙ sym (get_or_by f d m k h))

-- The classes whose counts aren't zero, from one on: those that are zero are passed over, the first that isn't is met, or none is left.
use Rattle.std.proofs.Common.{Option, Some, None, is_some, ◌≡◌, refl, sym, ap, ◌∙◌, true, false, true≢false, List, [], ◌∷◌, ℕ, zero, suc}
use Rattle.std.proofs.Common.{◌+◌, ◌-◌, ◌≤◌, ◌<◌, add-one, arith, length, get_or, drop, drop_of_length-le, drop-cons}
use Rattle.std.proofs.Common.{lt-ltb, le-ltb}
use Rattle.semantics.specs.Solutions.{supported, nothing, believed, single, belief}
use Rattle.support.specs.Beliefs.{Zeros, First}

module _ (counts : List ℕ) where
  abbrev k : ℕ
  k = length counts

  -- the classes from one on whose counts aren't zero
  abbrev from_on : ℕ → List ℕ
  from_on c = supported c (drop c counts)

  module _ (c : ℕ) (l : c < k) where
    pub passed_over : get_or counts c 0 ≤ 0 → from_on c ≡ from_on (c + 1)
    passed_over z = rw (add-one, drop-cons counts c 0 l, le-ltb 0 (get_or counts c 0) z)

    pub met : 0 < get_or counts c 0 → from_on c ≡ c ∷ from_on (c + 1)
    met p = rw (add-one, drop-cons counts c 0 l, lt-ltb 0 (get_or counts c 0) p)

  pub none_left : from_on k ≡ []
  none_left = ap (supported k) (drop_of_length-le counts {i = k} (omega arith))

  skipped : (d a b : ℕ) → a + d ≡ b → b ≤ k → Zeros counts k a b → from_on a ≡ from_on b
  skipped zero a b e l z = let q : a ≡ b = omega arith in ap from_on q
  skipped (suc d) a b e l z =
      passed_over a (omega arith) (z a (omega arith) (omega arith))
      ∙ skipped d (a + 1) b (omega arith) l (λ c m n. z c (omega arith) n)

  abbrev listed : Option ℕ → List ℕ
  listed None = []
  listed (Some i) = i ∷ from_on (i + 1)

  -- the first comes before all that are left
  pub first_listed : (a : ℕ) (r : Option ℕ) → a ≤ k → First counts k a r → from_on a ≡ listed r
  first_listed a None l z = skipped (k - a) a k (omega arith) (omega arith) z ∙ none_left
  first_listed a (Some i) l (m, b, p, z) = skipped (i - a) a i (omega arith) (omega arith) z ∙ met i b p

  -- So without one nothing is believed; with another, nothing either; with one alone, that one.
  module _ (r : Option ℕ) (f : First counts k 0 r) where
    pub unsupported : r ≡ None → nothing ≡ belief counts
    unsupported e = ap single (sym (first_listed 0 r (omega arith) f ∙ ap listed e))

    module _ (i : ℕ) (e : r ≡ Some i) (s : Option ℕ) (g : First counts k (i + 1) s) where
      within : i < k
      within = (rw e at f).1

      both : belief counts ≡ single (i ∷ listed s)
      both = ap single (first_listed 0 r (omega arith) f ∙ ap listed e ∙ ap (λ l. i ∷ l) (first_listed (i + 1) s (omega (arith, within)) g))

      pub many : is_some s ≡ true → nothing ≡ belief counts
      many q = rw both (go s q)
        where
          go : (s : Option ℕ) → is_some s ≡ true → nothing ≡ single (i ∷ listed s)
          go None q = absurd (true≢false (sym q))
          go (Some j) q = refl

      pub alone : is_some s ≡ false → believed i ≡ belief counts
      alone q = rw both (go s q)
        where
          go : (s : Option ℕ) → is_some s ≡ false → believed i ≡ single (i ∷ listed s)
          go None q = refl
          go (Some j) q = absurd (true≢false q)

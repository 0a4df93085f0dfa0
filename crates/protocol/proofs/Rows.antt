-- What the rows of a T line say together: the tests of the definition, by the numbers that were read.
use mathlib.Core.Path.{◌≡◌, refl, ap, ◌∙◌}
use mathlib.Core.Bool.{Bool, true, ◌&&◌}
use mathlib.Core.List.{List, [], ◌∷◌, map}
use Prim.Native.Nat.{ℕ, zero-le}
use lib.Dec.{leb}
use borrow.Author.Tests.{le-leb}
use Rattle.std.specs.List.{list_all}
use Rattle.semantics.specs.Limits.{max_mask}
use Rattle.semantics.specs.Basics.{every}
use Rattle.semantics.specs.Text.{Number, value, number, is_number, within, value_of}

-- a test of what all fields say
all_said : (test : Number → Bool) (fs : List (List ℕ)) → every (λ f. test (number f)) fs ≡ list_all test (map number fs)
all_said test [] = refl
all_said test (f ∷ fs) = ap (λ t. test (number f) && t) (all_said test fs)

-- whether all are well formed
pub said-numbers : (fs : List (List ℕ)) → every (λ f. is_number (number f)) fs ≡ list_all is_number (map number fs)
said-numbers fs = all_said is_number fs

-- so numbers are, they are masks where the definition says so, and they are the values of their fields
values_well : (ns : List ℕ) → list_all is_number (map value ns) ≡ true
values_well [] = refl
values_well (n ∷ ns) = values_well ns

values_within : (ns : List ℕ) → list_all (within 0 max_mask) (map value ns) ≡ list_all (λ n. leb n max_mask) ns
values_within [] = refl
values_within (n ∷ ns) = rw (le-leb 0 n zero-le, values_within ns)

values_back : (fs : List (List ℕ)) → map (λ f. value_of (number f)) fs ≡ map value_of (map number fs)
values_back [] = refl
values_back (f ∷ fs) = ap (λ l. value_of (number f) ∷ l) (values_back fs)

values_same : (ns : List ℕ) → map value_of (map value ns) ≡ ns
values_same [] = refl
values_same (n ∷ ns) = ap (λ l. n ∷ l) (values_same ns)

module _ (fs : List (List ℕ)) (ns : List ℕ) (e : map number fs ≡ map value ns) where
  pub said-well : every (λ f. is_number (number f)) fs ≡ true
  said-well = all_said is_number fs ∙ ap (list_all is_number) e ∙ values_well ns

  pub said-masks : every (λ f. within 0 max_mask (number f)) fs ≡ list_all (λ n. leb n max_mask) ns
  said-masks = all_said (within 0 max_mask) fs ∙ ap (list_all (within 0 max_mask)) e ∙ values_within ns

  pub said-values : map (λ f. value_of (number f)) fs ≡ ns
  said-values = values_back fs ∙ ap (map value_of) e ∙ values_same ns

pub ruleset rows_said = (said-numbers, said-well, said-masks, said-values)

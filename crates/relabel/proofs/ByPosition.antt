-- The classes of an assignment by position, as a loop writes them in order of arrival.
use Rattle.std.proofs.Common.{◌≡◌, refl, sym, ◌∙◌, Bool, true, false, List, [], ◌∷◌, ℕ, ◌<◌, ◌≤◌, arith, length, get_or, set, replicate}
use Rattle.std.proofs.Common.{length-set, get_or-set_same, get_or-set_other, ext_get_or, ltb, eq-eqb, ne_eqb, ltb-true, ltb-false}
use native.Mathlib.Decide.{ℕ_discrete}
use lib.ListN.{length-replicate, get_or-replicate, get_or-eq_default}
use Rattle.semantics.specs.Basics.{row_of}
use Rattle.semantics.specs.Limits.{max_plots}
use Rattle.semantics.specs.Solutions.{class_at}
use Rattle.semantics.proofs.Lists.{length_by, get_or_by}
use Rattle.relabel.specs.Answer.{by_position}

-- past the newest plot an assignment gives 0
class_past : (a : List ℕ) (q : ℕ) → length a ≤ q → class_at a q ≡ 0
class_past [] q h = refl
class_past (c ∷ a) q h = rw (ne_eqb q (length a) (λ e. omega arith)) (class_past a q (omega arith))

module _ (m : ℕ) where
  -- where no class is given yet, all stand at 0
  none_given : replicate m 0 ≡ row_of m (class_at [])
  none_given =
      ext_get_or 0 (replicate m 0) (row_of m (class_at [])) (length-replicate m 0 ∙ sym (length_by (class_at []) m))
      λ i l.
      let h : i < m = rw length-replicate at l in
      get_or-replicate m i 0 0 h ∙ sym (get_or_by (class_at []) 0 m i h)

  -- one more is written behind them
  one_given : (a : List ℕ) (c : ℕ) → length a < m → set (row_of m (class_at a)) (length a) c ≡ row_of m (class_at (c ∷ a))
  one_given a c few =
      let given = row_of m (class_at a) in
      let long : length given ≡ m = length_by (class_at a) m in
      ext_get_or 0 (set given (length a) c) (row_of m (class_at (c ∷ a)))
      (length-set given (length a) c ∙ long ∙ sym (length_by (class_at (c ∷ a)) m))
      λ i l.
      let h : i < m = omega (arith, length-set given (length a) c) in
      rw (get_or_by (class_at (c ∷ a)) 0 m i h)
      (elim (ℕ_discrete i (length a)) [
        | yes e ↦ rw (e, eq-eqb (length a) (length a) refl) (get_or-set_same given (length a) c 0 (omega arith))
        | no d ↦ rw (ne_eqb i (length a) d) (get_or-set_other given (length a) i c 0 d ∙ get_or_by (class_at a) 0 m i h)
      ])

  -- each is the one that the assignment gives
  given_at : (a : List ℕ) (q : ℕ) → length a ≤ m → get_or (row_of m (class_at a)) q 0 ≡ class_at a q
  given_at a q few = go (ltb q m) refl
    where
      go : (b : Bool) → ltb q m ≡ b → get_or (row_of m (class_at a)) q 0 ≡ class_at a q
      go true e = get_or_by (class_at a) 0 m q (ltb-true q m e)
      go false e =
          let g : m ≤ q = ltb-false q m e in
          get_or-eq_default (row_of m (class_at a)) 0 (rw (length_by (class_at a) m) g) ∙ sym (class_past a q (omega arith))

-- the same of the array, which has a place for each plot that there may be
pub none-placed : replicate max_plots 0 ≡ by_position []
unfolding by_position
none-placed = none_given max_plots

pub one_placed : (a : List ℕ) (c : ℕ) → length a < max_plots → set (by_position a) (length a) c ≡ by_position (c ∷ a)
unfolding by_position
one_placed a c few = one_given max_plots a c few

pub placed_at : (a : List ℕ) (q : ℕ) → length a ≤ max_plots → get_or (by_position a) q 0 ≡ class_at a q
unfolding by_position
placed_at a q few = given_at max_plots a q few

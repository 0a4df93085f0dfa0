-- `scanning::find` meets its contract: what `position` gives is how many bytes stand before the first that is b, or none where none is.
use Rattle.std.proofs.Common.{◌≡◌, ◌+◌, ◌-◌, ◌≤◌, ◌∙◌, ℕ, Bool, true, false, not, Some, None, List, [], ◌∷◌, cond, eqb, ltb, length, take, drop, refl, arith, rules, tests}
use Rattle.std.proofs.Common.{◌≡◌, ◌+◌, ◌-◌, ◌≤◌, ◌∙◌, ℕ, Bool, true, false, not, Some, None, List, [], ◌∷◌, cond, eqb, ltb, length, take}
use Rattle.std.proofs.Common.{drop, refl, arith, rules, tests, ltb-false, take_all, length-drop}
use Rattle.std.specs.List.{position_or_len}
use Rattle.std.specs.Option.{unwrap_or}
use Rattle.std.proofs.lemmas.Iterator.{YieldsList-from_slice}
use Rattle.std.proofs.lemmas.Iterator.Search.{position_from_yields_List}
use Rattle.std.proofs.lemmas.List.Sums.{prefix_len-le-length}
use Rattle.scanning.specs.Places.{index_of, index_after}
use Rattle.scanning.proofs.find.Goals as goal

-- the place is the library's
same : (b : ℕ) (xs : List ℕ) → position_or_len (λ x. eqb x b) xs ≡ index_of b xs
same b [] = refl
same b (x ∷ xs) = go (eqb x b) (same b xs)
  where
    go : (t : Bool) → position_or_len (λ y. eqb y b) xs ≡ index_of b xs
        → cond (not t) (1 + position_or_len (λ y. eqb y b) xs) 0 ≡ index_after t (index_of b xs)
    go true e = refl
    go false e = omega arith

-- where none is found it is the end
place_or_end : (place end : ℕ) → place ≤ end → unwrap_or (cond (ltb place end) (Some place) None) end ≡ place
place_or_end place end h = go (ltb place end) refl
  where
    go : (t : Bool) → ltb place end ≡ t → unwrap_or (cond t (Some place) None) end ≡ place
    go true e = refl
    go false e = omega (arith, ltb-false place end e)

pub returns : goal.returns
returns c =
    let xs = drop c.args.from c.args.s.now in
    let rest : take (length c.args.s.now - c.args.from) xs ≡ xs = take_all _ xs (omega (arith, length-drop c.args.from c.args.s.now)) in
    let found = position_from_yields_List (λ x. eqb x c.args.b) _ _ c.position.result c.position.ensures.ran (YieldsList-from_slice xs (c.iter.ensures.rest ∙ rest)) (λ x t q k. search (rules, tests)) in
    rw (c.unwrap_or.ensures, rest, found, place_or_end _ _ (prefix_len-le-length (λ x. not (eqb x c.args.b)) xs), same c.args.b xs)

-- A sum over the tallies, from the first on: what is added up, and what is left, are the whole, and each tally adds less than 2 ^ 33.
use Rattle.std.proofs.Common.{◌≡◌, List, [], ◌∷◌, map, ℕ, suc, ◌+◌, ◌*◌, ◌^◌, ◌<◌, ◌≤◌, arith, add-one, length}
use Rattle.std.proofs.Common.{get_or, drop, drop-cons}
use lib.ListN.{drop_of_length-le}
use Rattle.std.specs.Prelude.{sum_by}
use Rattle.std.proofs.lemmas.List.Sums.{sum_by-cons}
use Rattle.semantics.specs.Limits.{max_scanners}
use Rattle.semantics.specs.Notes as model
use Rattle.notes.specs.declared.Tally.{Tally}
use Rattle.notes.specs.Views.{as_tally}

pub record Summed (f : model.Tally → ℕ) (ts : List Tally) (i total : ℕ) : Type 0 where
  pub each : length ts ≡ max_scanners
  pub short : total ≤ i * 2 ^ 33
  pub whole : total + sum_by f (map as_tally (drop i ts)) ≡ sum_by f (map as_tally ts)

module _ (f : model.Tally → ℕ) (ts : List Tally) where
  pub start : length ts ≡ max_scanners → Summed f ts 0 0
  start h = record { each = h; short = omega arith; whole = omega arith }

  pub next : (i total n : ℕ) → Summed f ts i total → i < max_scanners
      → n ≡ f (as_tally (get_or ts i (record { accepted = 0; refusals = 0 }))) → n < 2 ^ 33 → Summed f ts (i + 1) (total + n)
  next i total n g h e few =
      let t : Tally = get_or ts i (record { accepted = 0; refusals = 0 }) in
      let one : drop i ts ≡ t ∷ drop (suc i) ts = drop-cons ts i _ (omega (arith, g.each)) in
      let split : sum_by f (map as_tally (drop i ts)) ≡ n + sum_by f (map as_tally (drop (suc i) ts)) =
      rw (one, e) (sum_by-cons f (as_tally t) (map as_tally (drop (suc i) ts))) in
      record { each = g.each; short = omega (arith, g.short); whole = rw add-one (omega (arith, split, g.whole)) }

  pub finish : (i total : ℕ) → Summed f ts i total → max_scanners ≤ i → total ≡ sum_by f (map as_tally ts)
  finish i total g h =
      let none : drop i ts ≡ [] = drop_of_length-le ts (omega (arith, g.each)) in
      omega (arith, rw none at g.whole)

-- The lines of the tallies, one more at a time.
use Rattle.std.proofs.Common.{◌≡◌, refl, sym, List, [], ◌∷◌, ◌++◌, map, append_assoc, ℕ, suc, ◌+◌, ◌<◌, add-one, arith, length, get_or}
use Rattle.std.proofs.Common.{take, append-nil, add-zero}
use lib.ListN.{length-map}
use Rattle.std.proofs.lemmas.List.{length-take-le, map-append}
use lib.Seq.{take-suc}
use Rattle.semantics.specs.Notes as model
use Rattle.semantics.specs.Answers.{tally_text, tallies_text}
use Rattle.notes.specs.declared.Tally.{Tally}
use Rattle.notes.specs.Views.{as_tally}

-- some scanners, and then others
tallies_append : (n : ℕ) (ts us : List model.Tally) → tallies_text n (ts ++ us) ≡ tallies_text n ts ++ tallies_text (n + length ts) us
tallies_append n [] us = rw add-zero refl
tallies_append n (t ∷ ts) us =
    let e : suc n + length ts ≡ n + suc (length ts) = omega arith in
    rw (tallies_append (suc n) ts us, e) (sym (append_assoc (tally_text n t) (tallies_text (suc n) ts) _))

-- the next one
pub tallies_more : (ts : List Tally) (i : ℕ) (d : Tally) → i < length ts
    → tallies_text 0 (map as_tally (take (i + 1) ts)) ≡ tallies_text 0 (map as_tally (take i ts)) ++ tally_text i (as_tally (get_or ts i d))
tallies_more ts i d h =
    let t = get_or ts i d in
    let before : List model.Tally = map as_tally (take i ts) in
    let long : 0 + length before ≡ i = rw length-map (omega (arith, length-take-le i ts)) in
    let split : map as_tally (take (i + 1) ts) ≡ before ++ (as_tally t ∷ []) =
    rw (add-one, take-suc ts i d h) (map-append as_tally (take i ts) (t ∷ [])) in
    rw (split, tallies_append 0 before (as_tally t ∷ []), long, append-nil) refl

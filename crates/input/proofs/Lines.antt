-- The lines that the engine gets of bytes with no byte 10 among them, and of what comes behind those.
use mathlib.Core.Path.{◌≡◌, refl, ap, ◌∙◌}
use mathlib.Core.Bool.{Bool, true, false, cond, not, ◌&&◌, false≢true}
use mathlib.Core.List.{List, [], ◌∷◌, ◌++◌, map}
use Prim.Native.Nat.{ℕ, zero, suc, ◌≤◌}
use native.Mathlib.Omega.{arith}
use lib.Dec.{eqb}
use lib.ListN.{length, take, drop, take-append-drop}
use lib.Seq.{take-take, take_all}
use Rattle.semantics.specs.Limits.{max_line_bytes}
use Rattle.semantics.specs.Text.{prepend, is_blank}
use Rattle.semantics.specs.Program.{lines}
use Rattle.semantics.proofs.Lists.{and_left, and_both, every_append}
use Rattle.input.specs.Cutting.{kept_bytes, no_end, handed}

-- two parts without byte 10 are one
pub no_end-append : (a b : List ℕ) → no_end a ≡ true → no_end b ≡ true → no_end (a ++ b) ≡ true
no_end-append a b h k = every_append (λ c. not (eqb c 10)) a b ∙ and_both (no_end a) (no_end b) h k

-- and so is the front of one
pub no_end-take : (n : ℕ) (a : List ℕ) → no_end a ≡ true → no_end (take n a) ≡ true
no_end-take n a h =
    let e : no_end (take n a ++ drop n a) ≡ true = rw take-append-drop h in
    and_left (no_end (take n a)) (no_end (drop n a)) (rw every_append at e)

-- bytes in front of the first of some lines
abbrev onto : List ℕ → List (List ℕ) → List (List ℕ)
onto [] ls = ls
onto (b ∷ x) ls = prepend b (onto x ls)

-- where there is a line they are its front
onto_line : (x l : List ℕ) (ls : List (List ℕ)) → onto x (l ∷ ls) ≡ (x ++ l) ∷ ls
onto_line [] l ls = refl
onto_line (b ∷ x) l ls = ap (prepend b) (onto_line x l ls)

-- where there is none they are a line, if there are any
onto_none : (b : ℕ) (x : List ℕ) → onto (b ∷ x) [] ≡ (b ∷ x) ∷ []
onto_none b [] = refl
onto_none b (c ∷ x) = ap (prepend b) (onto_none c x)

-- bytes without byte 10 are the front of the first line
lines_onto : (x bytes : List ℕ) → no_end x ≡ true → lines (x ++ bytes) ≡ onto x (lines bytes)
lines_onto [] bytes h = refl
lines_onto (b ∷ x) bytes h = go (eqb b 10) (lines_onto x bytes) h
  where
    go : (t : Bool)
        → (no_end x ≡ true → lines (x ++ bytes) ≡ onto x (lines bytes))
        → (not t && no_end x) ≡ true
        → cond t ([] ∷ lines (x ++ bytes)) (prepend b (lines (x ++ bytes))) ≡ prepend b (onto x (lines bytes))
    go true r h = absurd (false≢true h)
    go false r h = ap (prepend b) (r h)

-- the front of a list that begins with the front of another
take-front : (n : ℕ) (x l : List ℕ) → take n (take n x ++ l) ≡ take n (x ++ l)
take-front zero x l = refl
take-front (suc n) [] l = refl
take-front (suc n) (b ∷ x) l = ap (λ (s : List ℕ). b ∷ s) (take-front n x l)

-- of bytes in front of lines no more count than are taken of a line, if that is one at least
onto_front : (n : ℕ) (x : List ℕ) (ls : List (List ℕ)) → map (take (suc n)) (onto (take (suc n) x) ls) ≡ map (take (suc n)) (onto x ls)
onto_front n [] ls = refl
onto_front n (b ∷ x) [] = rw (onto_none b (take n x), onto_none b x, take-take n n x (omega arith))
onto_front n (b ∷ x) (l ∷ ls) = rw (onto_line (b ∷ take n x) l ls, onto_line (b ∷ x) l ls, take-front n x l)

module _ (x : List ℕ) (h : no_end x ≡ true) where
  -- the engine gets the same lines if only what is kept of the first one's front is there
  pub handed-front : (bytes : List ℕ) → handed (take kept_bytes x) bytes ≡ handed x bytes
  handed-front bytes =
      rw (lines_onto (take kept_bytes x) bytes (no_end-take kept_bytes x h), lines_onto x bytes h) (onto_front max_line_bytes x (lines bytes))

-- where nothing comes any more, a line that isn't longer than what is kept is the last, unless it is blank
pub handed_last : (x : List ℕ) → no_end x ≡ true → length x ≤ kept_bytes → handed x [] ≡ cond (is_blank x) [] (x ∷ [])
handed_last [] h l = refl
handed_last (b ∷ x) h l = rw (lines_onto (b ∷ x) [] h, onto_none b x, take_all kept_bytes (b ∷ x) l)

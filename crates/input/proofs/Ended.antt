-- The lines that byte 10 ends, one after the other, and where they are found in a piece.
use mathlib.Core.Path.{◌≡◌, refl, sym, ap, ◌∙◌}
use mathlib.Core.Bool.{Bool, true, false, cond, not, ◌&&◌, false≢true}
use mathlib.Core.List.{List, [], ◌∷◌, ◌++◌, append_assoc}
use Prim.Native.Nat.{ℕ, suc, ◌+◌, ◌-◌, ◌<◌, ◌≤◌, min}
use native.Mathlib.Omega.{arith}
use lib.Dec.{eqb, leb}
use lib.ListN.{length, take, drop, length-drop}
use lib.Seq.{drop-drop, take_all, take-append-le}
use borrow.Author.Tests.{leb-true, leb-false}
use Rattle.scanning.specs.Places.{index_of, index_after}
use Rattle.semantics.specs.Program.{lines, passed}
use Rattle.semantics.proofs.ShortLines.{cut_line}
use Rattle.input.specs.Cutting.{kept_bytes, until_end, line_end, passed_end, prepend_ended, ended_lines, no_end}
use Rattle.input.proofs.Cutting.{until_no_end, until_split, until_all}

-- bytes without byte 10 hold no line that is ended
pub ended-none : (x : List ℕ) → no_end x ≡ true → ended_lines x ≡ []
ended-none [] h = refl
ended-none (b ∷ x) h = go (eqb b 10) (ended-none x) h
  where
    go : (t : Bool) → (no_end x ≡ true → ended_lines x ≡ []) → (not t && no_end x) ≡ true
        → cond t ([] ∷ ended_lines x) (prepend_ended b (ended_lines x)) ≡ []
    go true r h = absurd (false≢true h)
    go false r h = rw (r h)

-- with byte 10 behind them they are the first
pub ended-first : (x bytes : List ℕ) → no_end x ≡ true → ended_lines (x ++ (10 ∷ bytes)) ≡ x ∷ ended_lines bytes
ended-first [] bytes h = refl
ended-first (b ∷ x) bytes h = go (eqb b 10) (ended-first x bytes) h
  where
    go : (t : Bool)
        → (no_end x ≡ true → ended_lines (x ++ (10 ∷ bytes)) ≡ x ∷ ended_lines bytes)
        → (not t && no_end x) ≡ true
        → cond t ([] ∷ ended_lines (x ++ (10 ∷ bytes))) (prepend_ended b (ended_lines (x ++ (10 ∷ bytes)))) ≡ (b ∷ x) ∷ ended_lines bytes
    go true r h = absurd (false≢true h)
    go false r h = rw (r h)

-- the first byte 10 is behind the bytes before it
index_until : (s : List ℕ) → index_of 10 s ≡ length (until_end s)
index_until [] = refl
index_until (b ∷ bs) = go (eqb b 10) (index_until bs)
  where
    go : (t : Bool) → index_of 10 bs ≡ length (until_end bs) → index_after t (index_of 10 bs) ≡ length (cond t [] (b ∷ until_end bs))
    go true h = refl
    go false h = ap suc h

-- where it is found from a place on
pub found-end : (piece : List ℕ) (from : ℕ) → from + index_of 10 (drop from piece) ≡ line_end piece from
found-end piece from = rw index_until refl

-- as an attribute can name it
pub ruleset line_ends = (found-end)

-- of a list no more are taken than it has
pub take_fewer : (n k : ℕ) (u : List ℕ) → n ≡ min (length u) k → take n u ≡ take k u
take_fewer n k u e = go (leb (length u) k) refl
  where
    go : (b : Bool) → leb (length u) k ≡ b → take n u ≡ take k u
    go true h = let few : length u ≤ k = leb-true _ _ h in take_all n u (omega arith) ∙ sym (take_all k u few)
    go false h = let many : k < length u = leb-false _ _ h in let z : n ≡ k = omega arith in rw z

-- The line that starts at a place of a piece.
module _ (piece : List ℕ) (from stop : ℕ) (e : stop ≡ line_end piece from) where
  -- byte 10 ends it: it is the first line, and the others come behind it
  module _ (h : stop < length piece) where
    pub next_split : drop from piece ≡ until_end (drop from piece) ++ (10 ∷ drop (stop + 1) piece)
    next_split =
        let z : from + suc (length (until_end (drop from piece))) ≡ stop + 1 = omega arith in
        let some : length (until_end (drop from piece)) < length (drop from piece) = omega (arith, length-drop from piece) in
        until_split (drop from piece) some ∙ rw (drop-drop, z)

    pub next-ended : ended_lines (drop from piece) ≡ until_end (drop from piece) ∷ ended_lines (drop (stop + 1) piece)
    next-ended = ap ended_lines next_split ∙ ended-first (until_end (drop from piece)) (drop (stop + 1) piece) (until_no_end (drop from piece))

    pub next-lines : (more : List ℕ)
        → lines (drop from piece ++ more) ≡ until_end (drop from piece) ∷ lines (drop (stop + 1) piece ++ more)
    next-lines more =
        let u = until_end (drop from piece) in
        ap (λ (l : List ℕ). lines (l ++ more)) next_split ∙ ap lines (append_assoc u (10 ∷ drop (stop + 1) piece) more)
        ∙ cut_line u (drop (stop + 1) piece ++ more) (until_no_end (drop from piece))

    -- what the engine gets of it
    pub next-passed : (cut : ℕ) → cut ≡ passed_end from stop
        → take (cut - from) (drop from piece) ≡ passed (until_end (drop from piece))
    next-passed cut c =
        let u = until_end (drop from piece) in
        let n : cut - from ≡ min (length u) kept_bytes = omega arith in
        ap (take (cut - from)) next_split ∙ take-append-le (cut - from) u (10 ∷ drop (stop + 1) piece) (omega arith)
        ∙ take_fewer (cut - from) kept_bytes u n

  -- nothing ends it: there is no such line
  pub no_more : length piece ≤ stop → no_end (drop from piece) ≡ true
  no_more h = ap no_end (until_all (drop from piece) (omega (arith, length-drop from piece))) ∙ until_no_end (drop from piece)

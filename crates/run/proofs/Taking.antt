-- Lines that are taken one after the other: behind a text, and that they go on.
use mathlib.Core.Path.{◌≡◌, refl}
use mathlib.Core.Bool.{Bool, true, false, cond}
use mathlib.Core.List.{List, [], ◌∷◌, ◌++◌, append_assoc}
use Prim.Native.Nat.{ℕ, suc, ◌+◌, ◌-◌, ◌≤◌, ◌<◌}
use native.Mathlib.Nat.{add_assoc}
use native.Mathlib.Omega.{arith}
use lib.ListN.{length, length-append}
use lib.Dec.{leb}
use borrow.Author.Tests.{le-leb, lt-leb, leb-true, leb-false}
use Rattle.semantics.specs.Limits.{min_room}
use Rattle.semantics.specs.Program.{passed}
use Rattle.taking.specs.Pieces.{Took, line_prints, took_line, taking}

-- with a text in front, and from another place on
abbrev pub behind : List ℕ → ℕ → Took → Took
behind text k t = record { state = t.state; text = text ++ t.text; next = k + t.next }

-- lines that are taken behind a text are those that are taken with the room that is left
pub taking_behind : (size : ℕ) (text : List ℕ) (k : ℕ) (t : Took) (ls : List (List ℕ)) → length text ≤ size
    → taking size (behind text k t) ls ≡ behind text k (taking (size - length text) t ls)
taking_behind size text k t [] h = refl
taking_behind size text k t (l ∷ ls) h =
    rw same (go (leb (length t.text + min_room) (size - length text)) (taking_behind size text k (took_line t l) ls h))
  where
    room : (b : Bool) → leb (length t.text + min_room) (size - length text) ≡ b → leb (length (text ++ t.text) + min_room) size ≡ b
    room true e =
        let k : length t.text + min_room ≤ size - length text = leb-true _ _ e in
        let l : length (text ++ t.text) + min_room ≤ size = rw length-append (omega arith) in
        le-leb _ _ l
    room false e =
        let k : size - length text < length t.text + min_room = leb-false _ _ e in
        let l : size < length (text ++ t.text) + min_room = rw length-append (omega arith) in
        lt-leb _ _ l

    same : leb (length (text ++ t.text) + min_room) size ≡ leb (length t.text + min_room) (size - length text)
    same = room _ refl

    go : (b : Bool)
        → taking size (behind text k (took_line t l)) ls ≡ behind text k (taking (size - length text) (took_line t l) ls)
        → cond b (taking size (took_line (behind text k t) l) ls) (behind text k t)
        ≡ behind text k (cond b (taking (size - length text) (took_line t l) ls) t)
    go false e = refl
    go true e = rw (append_assoc text t.text (line_prints t.state (passed l)), add_assoc k t.next (suc (length l))) e

-- lines that are taken go on
pub taking_on : (size : ℕ) (t : Took) (ls : List (List ℕ)) → t.next ≤ (taking size t ls).next
taking_on size t [] = omega arith
taking_on size t (l ∷ ls) = go (leb (length t.text + min_room) size) (taking_on size (took_line t l) ls)
  where
    go : (b : Bool) → (took_line t l).next ≤ (taking size (took_line t l) ls).next
        → t.next ≤ (cond b (taking size (took_line t l) ls) t).next
    go true h = omega arith
    go false h = omega arith

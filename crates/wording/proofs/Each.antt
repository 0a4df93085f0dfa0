-- Each number of a list behind a comma.
use mathlib.Core.Path.{◌≡◌, refl, sym}
use mathlib.Core.List.{List, [], ◌∷◌, ◌++◌, append_assoc, append-nil}
use Prim.Native.Nat.{ℕ, ◌+◌, ◌<◌, ◌≤◌}
use native.Mathlib.Numerals.{add-one}
use native.Mathlib.Omega.{arith}
use lib.ListN.{length, take, drop, get_or, length-append, take-append-drop}
use lib.Seq.{take-suc}
use Rattle.semantics.specs.Text.{decimal, comma_each}

-- some numbers, and then others
each_append : (a b : List ℕ) → comma_each (a ++ b) ≡ comma_each a ++ comma_each b
each_append [] b = refl
each_append (n ∷ a) b = rw (each_append a b) (sym (append_assoc (44 ∷ decimal n) (comma_each a) (comma_each b)))

-- one more
pub each_more : (ns : List ℕ) (i : ℕ) → i < length ns
    → comma_each (take (i + 1) ns) ≡ comma_each (take i ns) ++ (44 ∷ decimal (get_or ns i 0))
each_more ns i h = rw (add-one, take-suc ns i 0 h, each_append, append-nil)

-- how long one more makes them
pub each_length : (ns : List ℕ) (i : ℕ) → i < length ns
    → length (comma_each (take (i + 1) ns)) ≡ length (comma_each (take i ns)) + (1 + length (decimal (get_or ns i 0)))
each_length ns i h = rw (each_more ns i h) (simp length-append (omega arith))

-- one more is no longer than all
pub each_room : (ns : List ℕ) (i : ℕ) → i < length ns
    → length (comma_each (take i ns)) + (1 + length (decimal (get_or ns i 0))) ≤ length (comma_each ns)
each_room ns i h =
    let e : comma_each ns ≡ comma_each (take (i + 1) ns) ++ comma_each (drop (i + 1) ns) =
    rw (← each_append (take (i + 1) ns) (drop (i + 1) ns), take-append-drop (i + 1) ns) in
    rw e (rw length-append (omega (arith, each_length ns i h)))

-- An array of numbers that are each converted and keep their value has the same values.
use mathlib.Core.Path.{◌≡◌, sym, ◌∙◌}
use mathlib.Core.List.{List}
use Prim.Native.Nat.{ℕ}
use native.Mathlib.Omega.{arith}
use denote.Param.Members.{Mut, Called}
use lib.ListN.{length}
use lib.Seq.{ext_get_or}
use Rattle.std.specs.Array.{IsMapOf}

pub same_values : {F : Type 0} {g : Mut F (ℕ × Unit {0}) ℕ} {f : F} (from to : List ℕ) (n : ℕ) → length from ≡ n
    → ((a b : ℕ) (p q : F) → Called g p (a, tt) b q → b ≡ a) → IsMapOf g f from to n → to ≡ from
same_values from to n long keeps calls =
    ext_get_or 0 to from (calls.long ∙ sym long)
    (λ i h. let (p, q, call) = calls.at i 0 0 (omega (arith, calls.long)) in keeps _ _ p q call)

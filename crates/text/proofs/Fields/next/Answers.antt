-- `text::Fields::next` meets its contract: the bytes up to the first comma, and the fields behind it.
use mathlib.Core.Path.{◌≡◌, sym, ◌∙◌}
use mathlib.Core.List.{List, ◌∷◌}
use Prim.Native.Nat.{ℕ, ◌+◌, ◌-◌, ◌≤◌}
use native.Mathlib.Omega.{arith}
use lib.ListN.{length, take, drop}
use Rattle.scanning.specs.Places.{index_of}
use Rattle.text.specs.Lines.{fields_from}
use Rattle.text.proofs.Lines.{fields_next}
use Rattle.text.proofs.Fields.next.Goals as goal

found : (s : List ℕ) (from end : ℕ) → from ≤ length s → end ≡ from + index_of 44 (drop from s)
    → fields_from s from ≡ take (end - from) (drop from s) ∷ fields_from s (end + 1)
found s from end h e =
    let z : end - from ≡ index_of 44 (drop from s) = omega arith in
    rw (z, e) (fields_next s from h)

pub returns : goal.returns
returns c =
    let f = c.self.inside in
    sym c.self.view_is ∙ found f.line.now f.from _ (omega arith) c.find-end.ensures

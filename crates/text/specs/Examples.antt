-- Worked examples of the definitions, which the checker computes.
use Rattle.std.specs.Prelude.{◌≡◌, refl, [], ◌∷◌, map, ◌-◌, replicate}
use Rattle.text.specs.Lines.{fields_from}
use Rattle.text.specs.Ids.{slot_bytes, padded, trimmed}

-- "L,7,": from its start the fields are L, 7 and a blank one behind the last comma; from behind a comma those that are left; past the line none
field_ends : map (fields_from (76 ∷ 44 ∷ 55 ∷ 44 ∷ [])) (0 ∷ 2 ∷ 4 ∷ 5 ∷ [])
    ≡ ((76 ∷ []) ∷ (55 ∷ []) ∷ [] ∷ []) ∷ ((55 ∷ []) ∷ [] ∷ []) ∷ ([] ∷ []) ∷ [] ∷ []
field_ends = refl

-- "12" in its slot, and a slot with a byte after a zero
stored : padded (49 ∷ 50 ∷ []) ≡ 49 ∷ 50 ∷ replicate (slot_bytes - 2) 0
stored = refl

gap : trimmed (49 ∷ 0 ∷ 50 ∷ replicate 5 0) ≡ 49 ∷ 0 ∷ 50 ∷ []
gap = refl

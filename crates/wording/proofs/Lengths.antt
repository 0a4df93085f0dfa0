-- How long fields and lines are.
use mathlib.Core.List.{List, [], ◌∷◌}
use Prim.Native.Nat.{ℕ, suc, ◌*◌, ◌<◌, ◌≤◌}
use native.Mathlib.Omega.{arith}
use mir.Syntax.{w32}
use mir.Val.{Fits}
use lib.ListN.{length, get_or, length-append}
use Rattle.semantics.specs.Text.{decimal, comma_each}
use Rattle.semantics.proofs.Decimals.{u32_length}
use Rattle.text.specs.declared.Id.{Id}
use Rattle.text.specs.Ids.{id_bytes}
use Rattle.text.proofs.Ids.{length-id}
use Rattle.wording.specs.Lines.{ended, value_text}
use Rattle.wording.specs.Room.{field_room, line_room}

-- a number of 32 bits behind a comma takes no more than its room
field_fits : (n : ℕ) → Fits w32 n → length (44 ∷ decimal n) ≤ field_room
field_fits n h = omega (arith, u32_length n h)

-- so many numbers of 32 bits take no more than as many fields' room
pub fields_fit : (ns : List ℕ) → ((i : ℕ) → i < length ns → Fits w32 (get_or ns i 0)) → length (comma_each ns) ≤ field_room * length ns
fields_fit [] h = omega arith
fields_fit (n ∷ ns) h =
    let first = field_fits n (h 0 (omega arith)) in
    let others = fields_fit ns (λ i l. h (suc i) (omega arith)) in
    rw length-append (omega arith)

-- the line of a value takes no more than its room
pub value-fits : (letter : ℕ) (id : Id) (value : ℕ) → Fits w32 value → length (ended (value_text letter (id_bytes id) value)) ≤ line_room
value-fits letter id value h = simp length-append (omega (arith, length-id id, u32_length value h))

-- an id and a number of 32 bits have few bytes
pub ruleset few_bytes = (length-id, u32_length)

-- `text::write_id` meets its contract: an id's bytes are the front of its slot.
use native.Mathlib.Omega.{arith}
use mathlib.Core.Path.{◌≡◌, ap, ◌∙◌}
use mathlib.Core.List.{List}
use Prim.Native.Nat.{ℕ, ◌≤◌}
use lib.ListN.{length, take}
use Rattle.text.specs.declared.Id.{Id}
use Rattle.text.specs.Ids.{slot_of, id_bytes}
use Rattle.text.proofs.Ids.{length-id, length-slot, slot_front}
use Rattle.text.proofs.write_id.Goals as goal

within : (id : Id) (n : ℕ) (slot : List ℕ) → n ≡ length (id_bytes id) → slot ≡ slot_of id → n ≤ length slot
within id n slot e s = omega (arith, length-id id, length-slot id, ap length s)

front : (id : Id) (n : ℕ) (slot : List ℕ) → n ≡ length (id_bytes id) → slot ≡ slot_of id → take n slot ≡ id_bytes id
front id n slot e s = ap (take n) s ∙ slot_front id n e

pub slice_bounds-bytes-end : goal.slice_bounds-bytes-end
slice_bounds-bytes-end c = search within

pub slice_bounds-bytes-end-2 : goal.slice_bounds-bytes-end-2
slice_bounds-bytes-end-2 c = rw (front c.args.id _ _ c.id_length.ensures c.slot_of.ensures) c.id_length.ensures

pub returns : goal.returns
returns c = rw (front c.args.id _ _ c.id_length.ensures c.slot_of.ensures) at c.bytes.ensures

-- `text::is_id` meets its contract: its bytes are the front of its slot.
use mathlib.Core.Path.{◌≡◌, ◌∙◌}
use Prim.Native.Nat.{ℕ, ◌≤◌, ◌<◌}
use native.Mathlib.Omega.{arith}
use lib.ListN.{length, take}
use borrow.Author.Tests.{le-leb}
use Rattle.semantics.specs.Basics.{every}
use Rattle.semantics.specs.Limits.{max_id_bytes}
use Rattle.semantics.specs.Text.{is_id_byte, is_id}
use Rattle.text.specs.declared.Id.{Id}
use Rattle.text.specs.Ids.{slot_of, id_bytes}
use Rattle.text.proofs.Ids.{slot_front}
use Rattle.text.proofs.is_id.Goals as goal

tested : (id : Id) (n : ℕ) → n ≡ length (id_bytes id) → 0 < n → n ≤ max_id_bytes → every is_id_byte (take n (slot_of id)) ≡ is_id (id_bytes id)
tested id n e some few =
    rw (le-leb 1 (length (id_bytes id)) (omega arith), le-leb (length (id_bytes id)) max_id_bytes (omega arith), slot_front id n e)

pub returns-then-n-le-ID_BYTES : goal.returns-then-n-le-ID_BYTES
returns-then-n-le-ID_BYTES c =
    let n = c.id_length-n.result in
    rw c.slot_of.ensures at c.are_id_bytes.ensures ∙ tested c.args.id n c.id_length-n.ensures (omega arith) (omega arith)

-- The id of a drawn plot, written and read.
use Rattle.std.proofs.Common.{Option, ◌≡◌, ◌<◌, ◌≤◌, ℕ, List, length, take, arith}
use Rattle.std.specs.Option.{IsSome}
use Rattle.semantics.specs.Limits.{max_plots}
use Rattle.semantics.specs.Buffers.{written}
use Rattle.semantics.specs.Drawing.{id_drawn}
use Rattle.semantics.proofs.Decimals.{length-below}
use Rattle.semantics.proofs.Drawn.{id-drawn}
use Rattle.writing.proofs.Parts.{front_told}
use Rattle.text.specs.declared.Id.{Id}
use Rattle.text.specs.Ids.{slot_bytes, read_id}

module _ (i : ℕ) (h : i < max_plots) where
  -- it fits in a slot
  pub id_fits : length (id_drawn i) ≤ slot_bytes
  id_fits = omega (arith, length-below 2 i (omega arith))

  -- what was written of it at the front of a buffer is read as an id
  pub id_read : (out last : List ℕ) (end : ℕ) (r : Option Id) → end ≡ length (id_drawn i) → last ≡ written out 0 (id_drawn i)
      → r ≡ read_id (take end last) → IsSome r
  id_read out last end r e w f =
      let front : take end last ≡ id_drawn i = front_told out (id_drawn i) last end e w in
      rw (f, front, id-drawn i (omega arith))

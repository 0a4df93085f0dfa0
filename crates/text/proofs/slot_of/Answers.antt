-- `text::slot_of` meets its contract: the bytes of both numbers.
use mathlib.Core.Path.{◌≡◌, ap₂, ◌∙◌}
use mathlib.Core.List.{List, ◌++◌}
use Prim.Native.Nat.{ℕ}
use mir.Syntax.{w64}
use lib.ListN.{replicate}
use borrow.Rule.Slice.PartMut.{put_mid}
use Rattle.std.specs.Int.{to_le_bytes}
use Rattle.text.specs.declared.Id.{Id}
use Rattle.text.specs.Ids.{eight_of, slot_of}
use Rattle.text.proofs.Words.{low_bytes}
use Rattle.text.proofs.slot_of.Goals as goal

both : (id : Id) (low high : List ℕ) → low ≡ to_le_bytes w64 id.low → high ≡ to_le_bytes w64 id.high
    → put_mid 8 8 (low ++ replicate 8 0) high ≡ slot_of id
unfolding eight_of
both id low high e f = rw (e, f) (ap₂ (λ x y. x ++ y) (low_bytes id.low) (low_bytes id.high))

pub returns : goal.returns
returns c =
    both c.args.id _ _ (c.copy_from_slice.ensures.after ∙ c.to_le_bytes.ensures) (c.copy_from_slice-2.ensures.after ∙ c.to_le_bytes-2.ensures)

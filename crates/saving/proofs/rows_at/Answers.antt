-- `saving::rows_at` meets its contract: each stored row is the number that it is.
use Rattle.std.proofs.Common.{◌∙◌, rules, arith}
use Rattle.saving.proofs.Rows.{same_values}
use Rattle.saving.proofs.rows_at.Goals as goal

pub returns : goal.returns
returns c =
    let same = same_values _ _ 8 (omega arith) (λ a b p q call. search rules) c.map.ensures.items in
    same ∙ c.copy_from_slice.ensures.after ∙ c.table_part.ensures.rows

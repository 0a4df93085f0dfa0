-- Rows of a table, drawn one after the other.
use Rattle.std.proofs.Common.{◌≡◌, refl, ap, ◌∙◌, ◌+◌, ◌<◌, ◌≤◌, ℕ, List, add-one, length, set, length-set, take, take_all, arith}
use lib.Seq.{take-suc-set}
use Rattle.semantics.specs.Limits.{table_rows}
use Rattle.semantics.specs.Drawing.{draw, next_state, after_steps, rows_drawn}

-- the first i of eight rows are drawn from the state v, and the generator's state is w
pub record Rows (v i : ℕ) (rows : List ℕ) (w : ℕ) : Type 0 where
  pub long : length rows ≡ table_rows
  pub first : take i rows ≡ rows_drawn i v
  pub at : w ≡ after_steps i v

module _ (v i w : ℕ) (rows : List ℕ) (r : Rows v i rows w) where
  pub next_row : (d z : ℕ) → i < table_rows → d ≡ draw 256 w → z ≡ next_state w → Rows v (i + 1) (set rows i d) z
  next_row d z h e f =
      record {
        long = length-set rows i d ∙ r.long;
        first = rw (add-one, take-suc-set rows i d (omega (arith, r.long)), r.first, e, r.at) refl;
        at = rw (add-one, f, r.at) refl;
      }

  module _ (low : table_rows ≤ i) (high : i ≤ table_rows) where
    whole : i ≡ table_rows
    whole = omega arith

    pub all_rows : rows ≡ rows_drawn table_rows v
    all_rows = rw (whole, take_all table_rows rows (omega (arith, r.long))) at r.first

    pub after_rows : w ≡ after_steps table_rows v
    after_rows = r.at ∙ ap (λ j. after_steps j v) whole

-- What bars a class: where a table has its bit, nothing; where not, all bits of its key. So an "or" does what a test of the bit would, with
-- no branch.
use Rattle.std.proofs.Common.{◌≡◌, refl, ap, ◌∙◌, Bool, true, false, cond, List, [], ℕ, ◌/◌, ◌%◌, ◌^◌, ◌<◌, arith, bit_or, get_or}
use Rattle.std.proofs.Common.{replicate}
use lib.Bits.{or_zero_r, or_add_and, and_le_l, or_lt}
use Rattle.semantics.specs.Limits.{max_tables, max_classes}
use Rattle.semantics.specs.Network.{Link, root, child, allows}
use Rattle.semantics.proofs.Lists.{get_or_by}
use Rattle.stored.specs.Values.{table_at}
use Rattle.stored.proofs.Masks.{bit_allows}
use Rattle.messages.specs.Columns.{column_of, in_columns}
use Rattle.messages.proofs.Filling.{replicate_any, get_or-filled}
use Rattle.messages.proofs.Columns.{column_bit}
use Rattle.relabel.specs.Costs.{row_above}
use Rattle.relabel.specs.Keys.{bar_number, bar_of, bars_of, table_bars, all_bars, bars_below}
use Rattle.relabel.proofs.Chosen.{all_allowed}

pub bar_or : (key : ℕ) → key < 65536 → (t : Bool) → bit_or key (cond t 0 bar_number) ≡ cond t key bar_number
bar_or key h true = or_zero_r key
bar_or key h false = omega (arith, or_add_and key bar_number, and_le_l key bar_number, or_lt 16 key bar_number h (omega arith))

-- by the bit of a mask
bar_bit : (mask c : ℕ) → bar_of (mask / 2 ^ c % 2) ≡ cond (allows mask c) 0 bar_number
bar_bit mask c = ap bar_of (bit_allows mask c) ∙ go (allows mask c)
  where
    go : (t : Bool) → bar_of (cond t 1 0) ≡ cond t 0 bar_number
    go true = omega arith
    go false = omega arith

-- by the columns of a table
columns_bar : (rows : List ℕ) (table b c : ℕ) → b < max_classes → c < max_classes
    → in_columns (table_bars rows table) b c ≡ bar_of (get_or (column_of rows table c) b 0)
unfolding table_bars bars_of
columns_bar rows table b c l k =
    ap (λ x. get_or x b 0) (get_or_by (λ d. bars_of (column_of rows table d)) [] max_classes c k)
    ∙ get_or_by (λ e. bar_of (get_or (column_of rows table c) e 0)) 0 max_classes b l

-- a link through a table that stands, if it goes through one
abbrev pub Through : ℕ → Link → Type 0
Through tables root = Prim.Unit
Through tables (child parent table) = table < tables

module _ (rows : List ℕ) (tables : ℕ) where
  -- those of a table that stands
  table_there : (table : ℕ) → table < tables → get_or (all_bars rows tables) table [] ≡ table_bars rows table
  unfolding all_bars
  table_there table l = get_or-filled (replicate max_classes (replicate max_classes 0)) max_tables (table_bars rows) [] tables table l

  -- below a link: by the row above, for each class of the parent
  pub below_bar : (link : Link) → Through tables link → (b c : ℕ) → b < max_classes → c < max_classes
      → in_columns (bars_below link (all_bars rows tables)) b c ≡ cond (allows (row_above link rows (λ q. b)) c) 0 bar_number
  below_bar root s b c l k =
      rw (all_allowed c k)
      (replicate_any (λ r. get_or r b 0 ≡ 0) (replicate max_classes 0) [] max_classes c refl
      (replicate_any (λ x. x ≡ 0) 0 0 max_classes b refl refl))
  below_bar (child parent table) s b c l k =
      ap (λ t. in_columns t b c) (table_there table s)
      ∙ columns_bar rows table b c l k
      ∙ ap bar_of (column_bit rows table c b l)
      ∙ bar_bit (get_or (table_at rows table) b 0) c

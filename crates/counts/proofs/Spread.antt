-- Tables spread to columns: which bit stands where, and that nothing but bits does.
use Rattle.std.proofs.Common.{◌≡◌, ap, ◌∙◌, Bool, true, false, cond, List, [], ℕ, ◌/◌, ◌%◌, ◌^◌, ◌≤◌, ◌<◌, arith, get_or, replicate, ltb}
use Rattle.semantics.specs.Limits.{max_tables, max_classes}
use Rattle.semantics.proofs.Lists.{get_or_by}
use Rattle.semantics.proofs.Rows.{row_any}
use Rattle.stored.specs.Values.{table_at}
use Rattle.messages.specs.Columns.{column_of, Bits, in_columns}
use Rattle.messages.proofs.Filling.{replicate_any, get_or-filled, filled_upto}
use Rattle.messages.proofs.Columns.{column_bit, column_bits}
use Rattle.counts.specs.HeldRows.{spread_table, spread_tables, BitColumns, BitTables}

-- zeros are bits
zero_columns : (k m : ℕ) → BitColumns (replicate k (replicate m 0))
zero_columns k m c =
    replicate_any Bits (replicate m 0) [] k c (λ b. omega arith) (λ b. replicate_any (λ x. x < 2) 0 0 m b (omega arith) (omega arith))

module _ (rows : List ℕ) where
  -- a spread table has the table's bits, and nothing else
  pub spread_bit : (table b c : ℕ) → b < max_classes → c < max_classes
      → in_columns (spread_table rows table) b c ≡ get_or (table_at rows table) b 0 / 2 ^ c % 2
  unfolding spread_table
  spread_bit table b c l k = ap (λ x. get_or x b 0) (get_or_by (column_of rows table) [] max_classes c k) ∙ column_bit rows table c b l

  spread_bits : (table : ℕ) → BitColumns (spread_table rows table)
  unfolding spread_table
  spread_bits table c = row_any Bits [] max_classes (column_of rows table) c (λ b. omega arith) (column_bits rows table c)

  -- a table that stands is spread at its place; at every place there are bits
  pub spread_there : (tables table : ℕ) → table < tables → get_or (spread_tables rows tables) table [] ≡ spread_table rows table
  unfolding spread_tables
  spread_there tables table l =
      get_or-filled (replicate max_classes (replicate max_classes 0)) max_tables (spread_table rows) [] tables table l

  pub all_bits : (tables : ℕ) → tables ≤ max_tables → BitTables (spread_tables rows tables)
  unfolding spread_tables
  all_bits tables l table =
      rw (filled_upto (replicate max_classes (replicate max_classes 0)) max_tables (spread_table rows) tables l)
      (row_any BitColumns [] max_tables (λ t. cond (ltb t tables) (spread_table rows t) (replicate max_classes (replicate max_classes 0))) table
      (λ c b. omega arith) (either (ltb table tables)))
    where
      either : (b : Bool) → BitColumns (cond b (spread_table rows table) (replicate max_classes (replicate max_classes 0)))
      either true = spread_bits table
      either false = zero_columns max_classes max_classes

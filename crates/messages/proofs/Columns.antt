-- The columns of a table: which bit stands where, and that nothing but bits does.
use Rattle.std.proofs.Common.{◌≡◌, List, ℕ, ◌/◌, ◌%◌, ◌^◌, ◌<◌, arith, get_or}
use Rattle.semantics.specs.Limits.{max_classes}
use Rattle.semantics.proofs.Lists.{get_or_by}
use Rattle.semantics.proofs.Rows.{row_any}
use Rattle.stored.specs.Values.{table_at}
use Rattle.messages.specs.Columns.{column_of, Bits}

module _ (rows : List ℕ) (table c : ℕ) where
  abbrev bit_of : ℕ → ℕ
  bit_of b = get_or (table_at rows table) b 0 / 2 ^ c % 2

  pub column_bit : (b : ℕ) → b < max_classes → get_or (column_of rows table c) b 0 ≡ get_or (table_at rows table) b 0 / 2 ^ c % 2
  unfolding column_of
  column_bit b l = get_or_by bit_of 0 max_classes b l

  pub column_bits : Bits (column_of rows table c)
  unfolding column_of
  column_bits b = row_any (λ x. x < 2) 0 max_classes bit_of b (omega arith) (omega arith)

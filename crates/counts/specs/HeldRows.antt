-- Rows of eight counts: a plot's own, what a neighbour contributes through a table (equation 2 of 004), as the table's rows have it and as
-- its bits do once they are spread, and products. Products are held, and sums at their end.
use Rattle.std.specs.Prelude.{Bool, cond, ◌&&◌, List, [], ℕ, zero, suc, ◌+◌, ◌*◌, get_or, replicate}
use Rattle.semantics.specs.Basics.{below, row_of, sum}
use Rattle.semantics.specs.Limits.{max_tables, max_classes}
use Rattle.semantics.specs.Network.{Label, allows}
use Rattle.semantics.specs.Solutions.{agrees, held}
use Rattle.semantics.specs.Messages.{held_times, held_contribution}
use Rattle.stored.specs.Values.{table_at}
use Rattle.messages.specs.Rows.{filled}
use Rattle.messages.specs.Columns.{column_of, Bits, in_columns}

-- equation 2, from a child of k classes to each class of its parent
unfoldable pub counts_up : List ℕ → List ℕ → ℕ → ℕ → List ℕ
counts_up counts rows table k = row_of max_classes (λ b. held_contribution counts k (allows (get_or (table_at rows table) b 0)))

-- equation 2, from a parent to each class of its child
unfoldable pub counts_down : List ℕ → List ℕ → ℕ → List ℕ
counts_down counts rows table = row_of max_classes (λ c. held_contribution counts max_classes (λ b. allows (get_or (table_at rows table) b 0) c))

-- a table spread: its columns, by the child's class
unfoldable pub spread_table : List ℕ → ℕ → List (List ℕ)
spread_table rows table = row_of max_classes (column_of rows table)

-- the first n tables spread, then zeros
unfoldable pub spread_tables : List ℕ → ℕ → List (List (List ℕ))
spread_tables rows tables = filled (replicate max_classes (replicate max_classes 0)) max_tables (spread_table rows) tables

-- the columns of a table, and tables, of nothing but zeros and ones
abbrev pub BitColumns : List (List ℕ) → Type 0
BitColumns columns = (c : ℕ) → Bits (get_or columns c [])

abbrev pub BitTables : List (List (List ℕ)) → Type 0
BitTables spread = (table : ℕ) → BitColumns (get_or spread table [])

-- the sum of the first k counts, each times its bit
unfoldable pub added : List ℕ → (ℕ → ℕ) → ℕ → ℕ
added counts bit k = sum (λ c. get_or counts c 0 * bit c) (below k)

-- sums for the classes of a parent, with the count of a class more times the bits of its column; and sums held
unfoldable pub with_class : List ℕ → ℕ → List ℕ → List ℕ
with_class sums count column = row_of max_classes (λ b. get_or sums b 0 + count * get_or column b 0)

unfoldable pub held_all : List ℕ → List ℕ
held_all sums = row_of max_classes (λ b. held (get_or sums b 0))

-- equation 2 through a spread table, from a child to each class of its parent, and from a parent to each class of its child
unfoldable pub up_through : List ℕ → List (List ℕ) → List ℕ
up_through counts columns = row_of max_classes (λ b. held (added counts (in_columns columns b) max_classes))

unfoldable pub down_through : List ℕ → List (List ℕ) → List ℕ
down_through counts columns = row_of max_classes (λ c. held (added counts (λ b. in_columns columns b c) max_classes))

-- the sum that tests each bit: a count is added, and the sum held, where the bit is set
abbrev pub tested : List ℕ → (ℕ → Bool) → ℕ → ℕ
tested counts is_set zero = 0
tested counts is_set (suc k) = let so_far = tested counts is_set k in cond (is_set k) (held (so_far + get_or counts k 0)) so_far

-- the products of the first k counts, then zeros
unfoldable pub products : List ℕ → List ℕ → ℕ → List ℕ
products a b k = filled 0 max_classes (λ c. held_times (get_or a c 0) (get_or b c 0)) k

-- a plot's own counts: 1 for a class that is in its domain and agrees with its label
unfoldable pub own_counts : ℕ → Label → List ℕ
own_counts domain label = row_of max_classes (λ c. cond (allows domain c && agrees label c) 1 0)

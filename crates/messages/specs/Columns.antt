-- The columns of a table, each bit a number: as the messages of counts and of costs go through them, class by class of a child.
use Rattle.std.specs.Prelude.{List, [], ℕ, ◌/◌, ◌%◌, ◌^◌, ◌<◌, get_or}
use Rattle.semantics.specs.Basics.{row_of}
use Rattle.semantics.specs.Limits.{max_classes}
use Rattle.stored.specs.Values.{table_at}

-- column c of a table: for each class of the parent the bit of the child's class c in its row, 0 or 1
unfoldable pub column_of : List ℕ → ℕ → ℕ → List ℕ
column_of rows table c = row_of max_classes (λ b. get_or (table_at rows table) b 0 / 2 ^ c % 2)

-- a column of nothing but zeros and ones
abbrev pub Bits : List ℕ → Type 0
Bits column = (b : ℕ) → get_or column b 0 < 2

-- what some columns have for the parent's class b and the child's class c
abbrev pub in_columns : List (List ℕ) → ℕ → ℕ → ℕ
in_columns columns b c = get_or (get_or columns c []) b 0

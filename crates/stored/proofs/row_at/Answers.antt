-- `stored::row_at` meets its contract: an element of a part of the rows is one of the rows.
use Prim.Native.Nat.{ℕ}
use lib.Seq.{get_or-take, get_or-drop}
use Rattle.semantics.specs.Limits.{table_rows}
use Rattle.stored.proofs.row_at.Goals as goal

pub returns : goal.returns
returns c = rw (get_or-take {A = ℕ} table_rows _ c.args.class 0 c.requires.class_lt_table_rows, get_or-drop)

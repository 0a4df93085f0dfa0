-- What stored bytes stand for, and what is stored of a table and of a plot at a position.
use Rattle.std.specs.Prelude.{Option, Some, None, List, ℕ, zero, suc, ◌+◌, ◌*◌, get_or, take, drop}
use Rattle.semantics.specs.Limits.{max_tables, max_plots, table_rows}
use Rattle.semantics.specs.Network as model
use Rattle.semantics.specs.Network.{root, child, unlabelled, class}
use Rattle.text.specs.Ids.{slot_bytes, slot}
use Rattle.stored.specs.declared.Link.{Link}
use Rattle.stored.specs.declared.LinkBytes.{LinkBytes}

-- an enum of the code, as the definitions have it
abbrev pub as_link : Option Link → model.Link
as_link None = root
as_link (Some l) = child l.parent l.table

abbrev pub as_label : Option ℕ → model.Label
as_label None = unlabelled
as_label (Some c) = class c

-- and one of the definitions, as the code has it
abbrev pub to_label : model.Label → Option ℕ
to_label unlabelled = None
to_label (class c) = Some c

-- a link, stored as a parent and a table, each stored plus one. Where only one of them is there, the other is put past the last
-- that may stand: no rule lets such a link hold
abbrev pub link_of : ℕ → ℕ → model.Link
link_of zero zero = root
link_of zero (suc table) = child max_plots table
link_of (suc parent) zero = child parent max_tables
link_of (suc parent) (suc table) = child parent table

-- a label, stored plus one
abbrev pub label_of : ℕ → model.Label
label_of zero = unlabelled
label_of (suc c) = class c

-- a link to the parent at a position, through a table
abbrev pub below : ℕ → ℕ → Option Link
below parent table = Some (record { parent = parent; table = table })

-- the bytes that a link and a label are stored as: plus one, so that 0 is none
abbrev pub parent_byte : Option Link → ℕ
parent_byte None = 0
parent_byte (Some l) = l.parent + 1

abbrev pub table_byte : Option Link → ℕ
table_byte None = 0
table_byte (Some l) = l.table + 1

abbrev pub link_bytes : Option Link → LinkBytes
link_bytes link = record { parent = parent_byte link; table = table_byte link }

abbrev pub label_byte : Option ℕ → ℕ
label_byte None = 0
label_byte (Some c) = c + 1

-- the rows of a table
abbrev pub table_at : List ℕ → ℕ → List ℕ
table_at rows t = take table_rows (drop (t * table_rows) rows)

-- the parts of the plot at a position
abbrev pub slot_at : List ℕ → ℕ → List ℕ
slot_at ids i = slot ids (i * slot_bytes)

abbrev pub link_at : List ℕ → List ℕ → ℕ → model.Link
link_at parents through i = link_of (get_or parents i 0) (get_or through i 0)

abbrev pub classes_at : List ℕ → ℕ → ℕ
classes_at classes i = get_or classes i 0

abbrev pub domain_at : List ℕ → ℕ → ℕ
domain_at domains i = get_or domains i 0

abbrev pub label_at : List ℕ → ℕ → model.Label
label_at labels i = label_of (get_or labels i 0)

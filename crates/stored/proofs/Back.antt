-- A link and a label are read back from the bytes that they are stored as.
use Rattle.std.proofs.Common.{ℕ, Option, Some, None, ◌≡◌, refl, add-one}
use Rattle.stored.specs.declared.Link.{Link}
use Rattle.stored.specs.Values.{as_link, as_label, link_of, label_of, parent_byte, table_byte, label_byte}

pub link_back : (link : Option Link) → link_of (parent_byte link) (table_byte link) ≡ as_link link
link_back None = refl
link_back (Some l) = rw (add-one l.parent, add-one l.table)

pub label_back : (label : Option ℕ) → label_of (label_byte label) ≡ as_label label
label_back None = refl
label_back (Some c) = rw add-one

-- What is asked of a link where it is followed: that it leads to places of the arrays.
use Rattle.std.specs.Prelude.{Bool, true, ◌&&◌, ltb}
use Rattle.semantics.specs.Limits.{max_tables, max_plots}
use Rattle.semantics.specs.Network.{Link, root, child}

-- a link that names a place of the arrays
abbrev pub in_arrays : Link → Bool
in_arrays root = true
in_arrays (child parent table) = ltb parent max_plots && ltb table max_tables

-- Worked examples of the definitions, which the checker computes.
use Rattle.std.specs.Prelude.{◌≡◌, refl}
use Rattle.semantics.specs.Limits.{max_tables, max_plots}
use Rattle.semantics.specs.Network.{root, child}
use Rattle.stored.specs.Values.{link_of}

-- a root; below plot 0 through table 0; half a link, which no rule lets stand
stored-root : link_of 0 0 ≡ root
stored-root = refl

stored-child : link_of 1 1 ≡ child 0 0
stored-child = refl

no_parent : link_of 0 3 ≡ child max_plots 2
no_parent = refl

no_table : link_of 3 0 ≡ child 2 max_tables
no_table = refl

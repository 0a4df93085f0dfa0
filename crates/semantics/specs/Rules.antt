-- The rules of the book (document 01: "The book and its solutions"): a state that breaks one is refused with 9.
use Rattle.std.specs.Prelude.{Bool, true, not, ◌&&◌, List, [], ◌∷◌, ℕ, ◌^◌, length, eqb, leb, ltb}
use Rattle.semantics.specs.Basics.{every}
use Rattle.semantics.specs.Limits.{max_tables, max_plots, max_classes, table_rows, max_mask}
use Rattle.semantics.specs.Text.{is_id}
use Rattle.semantics.specs.Network.{Link, root, child, Label, unlabelled, class, Plot, Network, find, is_present}

-- eight rows, each a mask
abbrev pub is_table : List ℕ → Bool
is_table rows = eqb (length rows) table_rows && every (λ r. leb r max_mask) rows

-- of the plot at position i, with some number of tables: the first alone is a root; a later one has an earlier parent, and a table that
-- stands
abbrev pub link_holds : ℕ → ℕ → Link → Bool
link_holds tables i root = eqb i 0
link_holds tables i (child parent table) = ltb parent i && ltb table tables

-- one to eight classes
abbrev pub classes_hold : ℕ → Bool
classes_hold k = leb 1 k && leb k max_classes

-- one or more of the plot's classes
abbrev pub domain_holds : ℕ → ℕ → Bool
domain_holds k mask = leb 1 mask && ltb mask (2 ^ k)

-- none, or one of the plot's classes; it may lie outside the domain
abbrev pub label_holds : ℕ → Label → Bool
label_holds k unlabelled = true
label_holds k (class c) = ltb c k

-- the rules of the plot at position i, with some number of tables
abbrev pub plot_holds : ℕ → ℕ → Plot → Bool
plot_holds tables i p =
    is_id p.id
    && link_holds tables i p.link
    && classes_hold p.classes
    && domain_holds p.classes p.domain
    && label_holds p.classes p.label

-- the rules hold of every plot, and its id is no other's
abbrev pub plots_hold : ℕ → List Plot → Bool
plots_hold tables [] = true
plots_hold tables (p ∷ older) = plots_hold tables older && plot_holds tables (length older) p && not (is_present (find p.id older))

-- the rules of the book
abbrev pub network_holds : Network → Bool
network_holds n =
    leb (length n.tables) max_tables
    && every is_table n.tables
    && leb (length n.plots) max_plots
    && plots_hold (length n.tables) n.plots

-- The text of a network (02: U1): the lines that make it from an empty network, in an unused run. T lines come first, then P lines, then
-- an S line for each plot whose domain isn't all its classes, then an L line for each labelled plot; plots go in order of arrival.
use Rattle.std.specs.Prelude.{Bool, cond, List, [], ◌∷◌, ◌++◌, map, ℕ, ◌+◌, ◌-◌, ◌*◌, length, eqb}
use Rattle.semantics.specs.Limits.{max_tables, max_plots}
use Rattle.semantics.specs.Network.{Link, root, child, Label, unlabelled, class, Plot, Network, all_classes}
use Rattle.semantics.specs.Protocol.{Parent, nobody, named, table_text, plot_text, domain_text, label_text}
use Rattle.semantics.specs.Protocol.{max_table_line, max_root_line, max_child_line, max_domain_line, max_label_line}

-- the id of the plot at a position
abbrev pub id_at : ℕ → List Plot → List ℕ
id_at i [] = []
id_at i (p ∷ older) = cond (eqb i (length older)) p.id (id_at i older)

-- what a P line names above a plot, among the plots that are older: the parent by its id
abbrev pub parent_named : List Plot → Link → Parent
parent_named older root = nobody
parent_named older (child i table) = named (id_at i older) table

-- the P line of a plot, by the plots that are older
abbrev pub plot_line : Plot → List Plot → List (List ℕ)
plot_line p older = plot_text p.id (parent_named older p.link) p.classes ∷ []

-- all its classes are possible, as P puts it
abbrev pub is_full : Plot → Bool
is_full p = eqb p.domain (all_classes p.classes)

-- its S line, or none
abbrev pub domain_line : Plot → List Plot → List (List ℕ)
domain_line p older = cond (is_full p) [] (domain_text p.id p.domain ∷ [])

-- its L line, or none
abbrev pub line_of_label : List ℕ → Label → List (List ℕ)
line_of_label id unlabelled = []
line_of_label id (class c) = label_text id (class c) ∷ []

abbrev pub label_line : Plot → List Plot → List (List ℕ)
label_line p older = line_of_label p.id p.label

-- the lines of one kind, in order of arrival
abbrev pub in_order : (Plot → List Plot → List (List ℕ)) → List Plot → List (List ℕ)
in_order line [] = []
in_order line (p ∷ older) = in_order line older ++ line p older

-- the lines of a network
abbrev pub network_lines : Network → List (List ℕ)
network_lines n =
    map table_text n.tables ++ in_order plot_line n.plots ++ in_order domain_line n.plots ++ in_order label_line n.plots

-- lines one behind the other, each with the byte 10 that ends it
abbrev pub lines_text : List (List ℕ) → List ℕ
lines_text [] = []
lines_text (l ∷ ls) = l ++ (10 ∷ lines_text ls)

-- the text of a network
abbrev pub network_text : Network → List ℕ
network_text n = lines_text (network_lines n)

-- the most bytes that the text of a network has that keeps the rules: T lines, the P lines of a root and its children, S and L lines, as
-- many as there can be and each as long as it can be. That it is so is a law.
abbrev pub max_text_bytes : ℕ
max_text_bytes =
    max_table_line * max_tables + (max_root_line + max_child_line * (max_plots - 1)) + max_domain_line * max_plots
    + max_label_line * max_plots

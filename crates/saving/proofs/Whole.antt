-- The text of a network is that of its entries: the lines of the tables, of the plots, of their domains and of their labels.
use mathlib.Core.Path.{◌≡◌, refl, ap, ◌∙◌}
use mathlib.Core.List.{List, [], ◌∷◌, ◌++◌, map, map-append}
use Prim.Native.Nat.{ℕ, zero, suc, ◌+◌}
use lib.ListN.{length, length-append}
use Rattle.semantics.specs.Network.{Plot}
use Rattle.semantics.specs.Protocol.{table_text}
use Rattle.semantics.specs.NetworkText.{plot_line, domain_line, label_line, in_order, lines_text, network_text}
use Rattle.semantics.proofs.ShortLines.{lines-append}
use Rattle.stored.specs.Values.{table_at}
use Rattle.network.specs.declared.Network.{Network}
use Rattle.network.specs.View.{tables_of, plot_at, plots_of, view}
use Rattle.saving.specs.Texts.{up_to, table_entry, plot_entry}

-- the lines of the tables, one more at a time
tables-text : (n : Network) (m : ℕ) → lines_text (map table_text (tables_of n.rows m)) ≡ up_to (table_entry n) m
tables-text n zero = refl
tables-text n (suc m) =
    ap lines_text (map-append table_text (tables_of n.rows m) (table_at n.rows m ∷ []))
    ∙ lines-append (map table_text (tables_of n.rows m)) (table_text (table_at n.rows m) ∷ [])
    ∙ rw (tables-text n m)

-- lines of one kind, plot by plot
kind_text : (line : Plot → List Plot → List (List ℕ)) (n : Network) (m : ℕ)
    → lines_text (in_order line (plots_of n m)) ≡ up_to (plot_entry line n) m
kind_text line n zero = refl
kind_text line n (suc m) =
    lines-append (in_order line (plots_of n m)) (line (plot_at n m) (plots_of n m)) ∙ rw (kind_text line n m)

module _ (n : Network) where
  -- the lines of a kind, of all plots
  abbrev pub all_lines : (Plot → List Plot → List (List ℕ)) → List ℕ
  all_lines line = up_to (plot_entry line n) n.plots

  -- the four parts are the whole text
  pub whole-text : network_text (view n)
      ≡ up_to (table_entry n) n.tables ++ all_lines plot_line ++ all_lines domain_line ++ all_lines label_line
  whole-text =
      let t = map table_text (tables_of n.rows n.tables) in
      let p = in_order plot_line (plots_of n n.plots) in
      let d = in_order domain_line (plots_of n n.plots) in
      let l = in_order label_line (plots_of n n.plots) in
      rw (lines-append (t ++ p ++ d) l, lines-append (t ++ p) d, lines-append t p, tables-text n n.tables)
      (rw (kind_text plot_line n n.plots, kind_text domain_line n n.plots, kind_text label_line n n.plots))

  -- how long it is
  pub whole_length : length (network_text (view n))
      ≡ length (up_to (table_entry n) n.tables) + length (all_lines plot_line) + length (all_lines domain_line) + length (all_lines label_line)
  whole_length = rw whole-text (simp length-append)

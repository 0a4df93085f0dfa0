-- `saving::text_length` meets its contract: the four parts of the text, each as long as it was found to be.
use Rattle.std.proofs.Common.{rules, ◌+◌, ◌≤◌, length, arith}
use Rattle.semantics.specs.NetworkText.{max_text_bytes, plot_line, domain_line, label_line}
use Rattle.semantics.proofs.Saved.{text-fits}
use Rattle.network.specs.declared.sound.Sound.{Sound}
use Rattle.network.specs.View.{view}
use Rattle.saving.specs.Texts.{up_to, table_entry, plot_entry}
use Rattle.saving.proofs.Whole.{all_lines, whole_length}
use Rattle.saving.proofs.text_length.Goals as goal

-- the four parts are no longer than the largest text
parts-fit : (s : Sound) → length (up_to (table_entry s.network) s.network.tables) + length (all_lines s.network plot_line)
    + length (all_lines s.network domain_line) + length (all_lines s.network label_line) ≤ max_text_bytes
parts-fit s = omega (arith, whole_length s.network, text-fits (view s.network) s.network_rules)

pub length_each-tables_part-requires : goal.length_each-tables_part-requires
length_each-tables_part-requires c = (table_entry c.args.s.now.network, search rules, omega (arith, parts-fit c.args.s.now))

pub length_each-plots_part-requires : goal.length_each-plots_part-requires
length_each-plots_part-requires c = (plot_entry plot_line c.args.s.now.network, search rules, omega (arith, parts-fit c.args.s.now))

pub length_each-domains_part-requires : goal.length_each-domains_part-requires
length_each-domains_part-requires c = (plot_entry domain_line c.args.s.now.network, search rules, omega (arith, parts-fit c.args.s.now))

pub length_each-labels_part-requires : goal.length_each-labels_part-requires
length_each-labels_part-requires c = (plot_entry label_line c.args.s.now.network, search rules, omega (arith, parts-fit c.args.s.now))

pub overflow_add-result : goal.overflow_add-result
overflow_add-result c =
    let n = c.args.s.now.network in
    let a = c.length_each-tables_part.ensures (table_entry n) (search rules) in
    let b = c.length_each-plots_part.ensures (plot_entry plot_line n) (search rules) in
    omega (arith, parts-fit c.args.s.now)

pub overflow_add-result-2 : goal.overflow_add-result-2
overflow_add-result-2 c =
    let n = c.args.s.now.network in
    let a = c.length_each-tables_part.ensures (table_entry n) (search rules) in
    let b = c.length_each-plots_part.ensures (plot_entry plot_line n) (search rules) in
    let d = c.length_each-domains_part.ensures (plot_entry domain_line n) (search rules) in
    omega (arith, parts-fit c.args.s.now)

pub overflow_add-result-3 : goal.overflow_add-result-3
overflow_add-result-3 c =
    let n = c.args.s.now.network in
    let a = c.length_each-tables_part.ensures (table_entry n) (search rules) in
    let b = c.length_each-plots_part.ensures (plot_entry plot_line n) (search rules) in
    let d = c.length_each-domains_part.ensures (plot_entry domain_line n) (search rules) in
    let e = c.length_each-labels_part.ensures (plot_entry label_line n) (search rules) in
    omega (arith, parts-fit c.args.s.now)

pub returns : goal.returns
returns c =
    let n = c.args.s.now.network in
    let a = c.length_each-tables_part.ensures (table_entry n) (search rules) in
    let b = c.length_each-plots_part.ensures (plot_entry plot_line n) (search rules) in
    let d = c.length_each-domains_part.ensures (plot_entry domain_line n) (search rules) in
    let e = c.length_each-labels_part.ensures (plot_entry label_line n) (search rules) in
    omega (arith, whole_length n)

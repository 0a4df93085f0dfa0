-- `saving::write_network` meets its contract: the four parts of the text, one behind the other.
use Rattle.std.proofs.Common.{rules, arith}
use Rattle.semantics.specs.NetworkText.{plot_line, domain_line, label_line, network_text}
use Rattle.writing.specs.Pages.{Wrote}
use Rattle.writing.proofs.Pages.{wrote_four, told}
use Rattle.network.specs.View.{view}
use Rattle.saving.specs.Texts.{table_entry, plot_entry}
use Rattle.saving.proofs.Whole.{whole-text, whole_length}
use Rattle.saving.proofs.write_network.Goals as goal

pub write_each-requires : goal.write_each-requires
write_each-requires c = (table_entry c.args.s.now.network, search rules, omega (arith, whole_length c.args.s.now.network))

pub write_each-requires-2 : goal.write_each-requires-2
write_each-requires-2 c =
    let n = c.args.s.now.network in
    let size = whole_length n in
    let a = c.write_each.ensures (table_entry n) (search rules) (omega arith) in
    (plot_entry plot_line n, search rules, omega arith)

pub write_each-requires-3 : goal.write_each-requires-3
write_each-requires-3 c =
    let n = c.args.s.now.network in
    let size = whole_length n in
    let a = c.write_each.ensures (table_entry n) (search rules) (omega arith) in
    let b = c.write_each-2.ensures (plot_entry plot_line n) (search rules) (omega arith) in
    (plot_entry domain_line n, search rules, omega arith)

pub write_each-requires-4 : goal.write_each-requires-4
write_each-requires-4 c =
    let n = c.args.s.now.network in
    let size = whole_length n in
    let a = c.write_each.ensures (table_entry n) (search rules) (omega arith) in
    let b = c.write_each-2.ensures (plot_entry plot_line n) (search rules) (omega arith) in
    let d = c.write_each-3.ensures (plot_entry domain_line n) (search rules) (omega arith) in
    (plot_entry label_line n, search rules, omega arith)

pub returns : goal.returns
returns c =
    let n = c.args.s.now.network in
    let size = whole_length n in
    let parts = whole-text n in
    let a = c.write_each.ensures (table_entry n) (search rules) (omega arith) in
    let b = c.write_each-2.ensures (plot_entry plot_line n) (search rules) (omega arith) in
    let d = c.write_each-3.ensures (plot_entry domain_line n) (search rules) (omega arith) in
    let e = c.write_each-4.ensures (plot_entry label_line n) (search rules) (omega arith) in
    let all : Wrote c.new-page.result (network_text (view n)) c.write_each-4.new.page = search wrote_four in
    record { next = omega (arith, all.next); written = search (rules, told) }

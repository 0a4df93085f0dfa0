-- `answers::write_relabelling` meets its contract: the number on its line, and the lines of the list behind it.
use Rattle.std.proofs.Common.{rules, [], ◌∷◌, append_assoc, sym}
use Rattle.semantics.specs.Text.{decimal}
use Rattle.writing.specs.Pages.{Wrote}
use Rattle.writing.proofs.Pages.{wrote_four, told}
use Rattle.answers.specs.Changes.{change_lines, list_text}
use Rattle.answers.proofs.write_relabelling.Goals as goal

pub returns-clause-written : goal.returns-clause-written
returns-clause-written c =
    let n = c.args.n.now in
    let lines = change_lines n.ids n.labels c.args.classes.now n.plots in
    let parted = sym (append_assoc (82 ∷ 44 ∷ decimal c.args.number) (10 ∷ []) lines) in
    let all : Wrote c.new-page.result (list_text c.args.number lines) c.write_changes.new.page = search wrote_four in
    search (rules, told)

-- `saving::plot_length` meets its contract: the line of a plot below a parent names the id that was read at the parent's position.
use Rattle.std.proofs.Common.{◌∙◌, length, ap, sym, arith}
use Rattle.saving.proofs.Stands.{plot_within, parent_within, table_low}
use Rattle.saving.proofs.Entries.{child-line}
use Rattle.saving.proofs.plot_length.Goals as goal

pub id_at-id-requires : goal.id_at-id-requires
id_at-id-requires c = search plot_within

pub bounds-s-i : goal.bounds-s-i
bounds-s-i c = search plot_within

pub link_at-requires : goal.link_at-requires
link_at-requires c = search plot_within

pub id_at-requires : goal.id_at-requires
id_at-requires c =
    let parent = parent_within c.args.s.now c.args.i c.requires _ _ c.in-Some.ensures in
    let table = table_low c.args.s.now c.args.i c.requires _ _ c.in-Some.ensures in
    omega arith

pub returns-in-Some : goal.returns-in-Some
returns-in-Some c =
    let line = child-line c.args.s.now _ _ _ _ _ c.requires c.in-Some.ensures c.id_at-id.ensures c.id_at.ensures in
    c.child_length.ensures.sum ∙ sym (ap length line)

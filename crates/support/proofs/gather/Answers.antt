-- `support::gather` meets its contract: a link leads to places of the arrays.
use Rattle.std.proofs.Common.{◌-◌, ◌<◌, arith}
use Rattle.semantics.specs.Limits.{max_plots, max_tables}
use Rattle.network.proofs.Reach.{far, parent_reached, table_reached}
use Rattle.support.proofs.gather.Goals as goal

pub offset_bounds-spread-table : goal.offset_bounds-spread-table
offset_bounds-spread-table c =
    let l : c.loop-j.j - 1 < c.args.s.now.network.plots = omega arith in
    far max_tables _ 128 (search table_reached) (omega arith) (omega arith)

pub bounds-spread-table : goal.bounds-spread-table
bounds-spread-table c = let l : c.loop-j.j - 1 < c.args.s.now.network.plots = omega arith in search table_reached

pub offset_bounds-rows-parent : goal.offset_bounds-rows-parent
offset_bounds-rows-parent c =
    let l : c.loop-j.j - 1 < c.args.s.now.network.plots = omega arith in
    far max_plots _ 32 (search parent_reached) (omega arith) (omega arith)

pub bounds-rows-parent : goal.bounds-rows-parent
bounds-rows-parent c = let l : c.loop-j.j - 1 < c.args.s.now.network.plots = omega arith in search parent_reached

pub offset_bounds-rows-parent-in-Some : goal.offset_bounds-rows-parent-in-Some
offset_bounds-rows-parent-in-Some c =
    let l : c.loop-j.j - 1 < c.args.s.now.network.plots = omega arith in
    far max_plots _ 32 (search parent_reached) (omega arith) (omega arith)

pub bounds-rows-parent-in-Some : goal.bounds-rows-parent-in-Some
bounds-rows-parent-in-Some c = let l : c.loop-j.j - 1 < c.args.s.now.network.plots = omega arith in search parent_reached

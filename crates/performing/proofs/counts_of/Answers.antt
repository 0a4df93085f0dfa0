-- `performing::counts_of` meets its contract.
use Rattle.std.proofs.Common.{◌≡◌, ◌≤◌, Some, None, arith, sym, length-take-le}
use Rattle.semantics.specs.Limits.{max_classes}
use Rattle.network.proofs.Standing.{few-plots}
use Rattle.performing.proofs.Editing.{found_below, found_within, found_few}
use Rattle.performing.proofs.Asking.{counts_absent, counts_found_lem}
use Rattle.performing.proofs.counts_of.Goals as goal

pub classes_at-classes-requires : goal.classes_at-classes-requires
classes_at-classes-requires c =
    let few = few-plots c.args.s.now.network c.args.s.now.network_rules in
    let found : c.find.result ≡ Some c.in_ok-i.i = c.in_ok-i.was in
    search found_within

pub supports-counts-requires : goal.supports-counts-requires
supports-counts-requires c =
    let found : c.find.result ≡ Some c.in_ok-i.i = c.in_ok-i.was in
    search found_below

pub slice_bounds-believed-end : goal.slice_bounds-believed-end
slice_bounds-believed-end c =
    let few : c.classes_at-classes.result ≤ max_classes =
    found_few c.args.s.now.network c.args.id c.find.result c.find.ensures _ c.in_ok-i.was c.args.s.now.network_rules _
    c.classes_at-classes.ensures in
    sym (length-take-le c.classes_at-classes.result c.supports-counts.result (omega arith))

pub returns-in_err-i : goal.returns-in_err-i
returns-in_err-i c =
    let none : c.find.result ≡ None = c.in_err-i.was in
    rw c.from_residual.ensures (search counts_absent)

pub returns : goal.returns
returns c =
    let found : c.find.result ≡ Some c.in_ok-i.i = c.in_ok-i.was in
    search counts_found_lem

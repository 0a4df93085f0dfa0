-- `performing::add_plot` meets its contract.
use Rattle.semantics.specs.Protocol.{add_plot}
use Rattle.text.specs.Ids.{id_bytes}
use Rattle.protocol.specs.Lines.{as_above}
use Rattle.performing.proofs.Editing.{network_ruled, plot_full, plot_stands, plot_unbound, plot_more}
use Rattle.performing.proofs.Refusing.{handed_on}
use Rattle.std.proofs.Common.{◌≡◌, Ok, Err}
use Rattle.performing.proofs.add_plot.Goals as goal

pub returns-then-s-ge-MAX_PLOTS : goal.returns-then-s-ge-MAX_PLOTS
returns-then-s-ge-MAX_PLOTS c = search plot_full

pub returns-then-is_some : goal.returns-then-is_some
returns-then-is_some c = search plot_stands

pub invariant_of-s-clause-network_rules : goal.invariant_of-s-clause-network_rules
invariant_of-s-clause-network_rules c =
    let bound : c.link_below.result ≡ Ok c.in_ok-link.link = c.in_ok-link.was in
    network_ruled c.args.s.now (add_plot (id_bytes c.args.id) (as_above c.args.above) c.args.k) c.requires c.lengths.ensures
    c.add_plot.new.n (search plot_more)

pub returns-in_err-link : goal.returns-in_err-link
returns-in_err-link c =
    let unbound : c.link_below.result ≡ Err c.in_err-link.field-0.0 = c.in_err-link.was in
    rw (handed_on _ _ c.from_residual.ensures.1) (search plot_unbound)

pub returns : goal.returns
returns c =
    let bound : c.link_below.result ≡ Ok c.in_ok-link.link = c.in_ok-link.was in
    search plot_more

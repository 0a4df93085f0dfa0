-- `relabel::offer` meets its contract. The invariant: the offer is that of the first c classes.
use Rattle.std.proofs.Common.{◌≡◌, ◌∙◌, ap, arith}
use Rattle.semantics.specs.Limits.{max_classes}
use Rattle.relabel.proofs.Offered.{offered_to, none-offered, offer_turn, all-offered}
use Rattle.relabel.proofs.offer.Goals as goal

pub loop-c-init : goal.loop-c-init
loop-c-init c = none-offered c.args.keys c.args.bars

pub loop-c-preserved : goal.loop-c-preserved
loop-c-preserved c = search offer_turn

pub returns : goal.returns
returns c =
    let q : c.loop-c.c ≡ max_classes = omega arith in
    c.loop-c.invariant ∙ ap (offered_to c.args.keys c.args.bars) q ∙ all-offered c.args.keys c.args.bars

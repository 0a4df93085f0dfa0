-- `relabel::gather` meets its contract. The invariant: the offers that are still to be made, made from here, give all of them, and no cost
-- is past the number that says "never".
use Rattle.std.proofs.Common.{◌≡◌, ◌-◌, ◌<◌, arith, rules, refl}
use Rattle.semantics.specs.Limits.{max_plots}
use Rattle.network.proofs.Reach.{far, link_reaches, parent_reached}
use Rattle.messages.specs.Rows.{own_rows}
use Rattle.messages.proofs.Own.{own_made}
use Rattle.relabel.specs.Costs.{own_costs}
use Rattle.relabel.proofs.Gathering.{own_all, folded_all, child_offer, offers_start}
use Rattle.relabel.proofs.gather.Goals as goal

pub loop-j-init : goal.loop-j-init
loop-j-init c =
    let own : c.own_rows.new.rows ≡ own_rows own_costs c.args.s.now.network =
    own_made own_costs c.args.s.now.network _ _ _ c.own_rows.ensures (λ d l r p. search rules) refl in
    (own_all c.args.s.now.network _ own, offers_start c.args.s.now.network c.args.bars.now _ own)

pub offer_of-offer-requires-clause-link_value : goal.offer_of-offer-requires-clause-link_value
offer_of-offer-requires-clause-link_value c = let l : c.loop-j.j - 1 < c.args.s.now.network.plots = omega arith in search link_reaches

pub offset_bounds-rows-above : goal.offset_bounds-rows-above
offset_bounds-rows-above c =
    let l : c.loop-j.j - 1 < c.args.s.now.network.plots = omega arith in
    far max_plots _ 16 (search parent_reached) (omega arith) (omega arith)

pub bounds-rows-above : goal.bounds-rows-above
bounds-rows-above c = let l : c.loop-j.j - 1 < c.args.s.now.network.plots = omega arith in search parent_reached

pub offset_bounds-rows-above-in-Some : goal.offset_bounds-rows-above-in-Some
offset_bounds-rows-above-in-Some c =
    let l : c.loop-j.j - 1 < c.args.s.now.network.plots = omega arith in
    far max_plots _ 16 (search parent_reached) (omega arith) (omega arith)

pub bounds-rows-above-in-Some : goal.bounds-rows-above-in-Some
bounds-rows-above-in-Some c = let l : c.loop-j.j - 1 < c.args.s.now.network.plots = omega arith in search parent_reached

pub loop-j-preserved-in-Some : goal.loop-j-preserved-in-Some
loop-j-preserved-in-Some c = (search folded_all, search child_offer)

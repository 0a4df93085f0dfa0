-- `relabel::gather` meets its contract. The invariant: the offers that are still to be made, made from here, give all of them, and no cost
-- is past the number that says "never".
use mathlib.Core.Path.{◌≡◌}
use Rattle.relabel.specs.Keys.{offers_to, all_offers}
use Rattle.relabel.proofs.Gathering.{AllCosts}
use Rattle.relabel.proofs.gather.Given as goal

abbrev pub invariant-loop-j : goal.invariant-loop-j
invariant-loop-j l =
    let n = l.s.network in
    AllCosts n l.rows × (offers_to n l.bars l.j l.rows l.offers ≡ all_offers n l.bars)

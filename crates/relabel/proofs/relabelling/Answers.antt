-- `relabel::relabelling` meets its contract: what the passes give is what `chosen-relabelling` says of them.
use Rattle.std.proofs.Common.{◌≡◌, sym, ap, ap₂, ◌∙◌, true, List, ℕ, ◌≤◌, arith, lt-ltb, Option, Some, None}
use Rattle.semantics.specs.Relabelling.{relabelling}
use Rattle.semantics.specs.Rules.{network_holds}
use Rattle.semantics.specs.Messages.{at_cost}
use Rattle.network.specs.declared.Network.{Network}
use Rattle.network.specs.View.{view}
use Rattle.relabel.specs.declared.Relabelled.{Relabelled}
use Rattle.relabel.specs.Costs.{never_number, as_cost, cost_rows}
use Rattle.relabel.specs.Keys.{all_bars, all_offers, totalled_by, read_to, NameClasses}
use Rattle.relabel.specs.Answer.{by_position, as_relabelled}
use Rattle.relabel.proofs.Chosen.{chosen-relabelling}
use Rattle.relabel.proofs.Offers.{OffersBy, total-low, never_past, are_costs, name_classes, totals, reads}
use Rattle.relabel.proofs.Gathering.{all_kept}
use Rattle.relabel.proofs.relabelling.Goals as goal

module _ (n : Network) (h : network_holds (view n) ≡ true) (bars : List (List (List ℕ))) (b : bars ≡ all_bars n.rows n.tables)
    (offers : List (List ℕ)) (o : offers ≡ all_offers n bars) where
  kept : OffersBy n (cost_rows n) offers
  kept = rw (o, b) (all_kept n h)

  -- what is offered names classes
  classes-named : NameClasses n offers
  classes-named = name_classes n h (cost_rows n) (never_past n h) (are_costs n h) offers kept

  abbrev read : List ℕ
  read = read_to n offers n.plots

  module _ (cost : ℕ) (t : cost ≡ totalled_by n offers n.plots 0) where
    -- the relabelling, by the offers and the cost at hand
    found : relabelling (view n) ≡ at_cost (as_cost cost) read
    found =
        chosen-relabelling n h
        ∙ ap₂ (λ x a. at_cost (as_cost x) a)
        (sym (t ∙ totals n h (cost_rows n) (never_past n h) (are_costs n h) offers kept n.plots (omega arith) 0))
        (sym (reads n h (cost_rows n) (never_past n h) (are_costs n h) offers kept n.plots (omega arith)))

    none : cost ≡ never_number
        → ◌≡◌ {A = Option Relabelled} None (as_relabelled (relabelling (view n)))
    none e = sym (ap as_relabelled (found ∙ ap (λ c. at_cost (as_cost c) read) e))

    some : (cost ≡ never_number → ⊥) → (classes : List ℕ) → classes ≡ by_position read
        → ◌≡◌ {A = Option Relabelled} (Some (record { number = cost; classes = classes })) (as_relabelled (relabelling (view n)))
    some d classes e =
        let l : cost ≤ never_number = rw t (total-low n offers n.plots 0 (omega arith)) in
        rw (found, lt-ltb cost never_number (omega arith), e)

pub returns-then-number-eq-NEVER : goal.returns-then-number-eq-NEVER
returns-then-number-eq-NEVER c = search none

pub choose-requires : goal.choose-requires
choose-requires c = search classes-named

pub returns : goal.returns
returns c = search some

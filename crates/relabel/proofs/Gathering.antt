-- The pass up as the code has it, offer by offer: a turn of its loop, and that in a network that keeps the rules it makes the offers by the
-- rows of all costs.
use Rattle.std.proofs.Common.{Option, Some, ◌≡◌, refl, sym, ap, ◌∙◌, true, List, [], ℕ, zero, suc, ◌-◌, ◌<◌, ◌≤◌, not-suc-le-zero, sub-one}
use Rattle.std.proofs.Common.{arith, length, get_or, set, replicate, length-set}
use Rattle.semantics.specs.Limits.{max_plots, max_classes}
use Rattle.semantics.specs.Network as model
use Rattle.semantics.specs.Network.{root, child}
use Rattle.semantics.specs.Rules.{network_holds}
use Rattle.network.specs.declared.Network.{Network}
use Rattle.network.specs.View.{view}
use Rattle.network.proofs.Standing.{few-plots}
use Rattle.stored.specs.declared.Link.{Link}
use Rattle.stored.specs.Values.{as_link, link_at, classes_at, domain_at, label_at}
use Rattle.messages.specs.Rows.{own_rows}
use Rattle.messages.specs.Pass.{sent_up, gathered}
use Rattle.messages.proofs.Own.{own_at_lem}
use Rattle.messages.proofs.Each.{each_turn}
use Rattle.messages.proofs.Pass.{settled}
use Rattle.network.proofs.Reach.{parents_back}
use Rattle.relabel.specs.Costs.{costs_up, folded_costs, own_costs, cost_rows}
use Rattle.relabel.specs.Keys.{AreCosts, key_row, all_bars, bars_below, offered, folded_offer, folded_up, offer_at, offers_to, all_offers}
use Rattle.relabel.proofs.Offers.{offer_in, OffersBy, OffersFrom, offers_none, offers_more, offers_all, own_costs_lem, offer_costs}
use Rattle.relabel.proofs.Offers.{never_past, are_costs, folded_offer_lem}

-- the rows of the plots are rows of costs
pub record AllCosts (n : Network) (rows : List (List ℕ)) : Type 0 where
  pub each : (i : ℕ) → i < n.plots → AreCosts (get_or rows i [])

pub own_all : (n : Network) (rows : List (List ℕ)) → rows ≡ own_rows own_costs n → AllCosts n rows
own_all n rows e =
    record { each = λ i l. rw (e, own_at_lem own_costs n i l) (own_costs_lem (domain_at n.domains i) (label_at n.labels i)) }

pub folded_all : (n : Network) (rows : List (List ℕ)) (parent : ℕ) (row offer : List ℕ) → AllCosts n rows
    → row ≡ folded_offer (get_or rows parent []) offer → AllCosts n (set rows parent row)
folded_all n rows parent row offer h e =
    record { each = each_turn (λ i. AreCosts) n rows parent row h.each (λ old. rw e (offer_costs (get_or rows parent []) offer)) }

-- a turn of the loop: the newest that is left makes its offer, and the rest is done from there
module _ (n : Network) (bars : List (List (List ℕ))) (whole rows offers : List (List ℕ)) (j : ℕ)
    (e : offers_to n bars j rows offers ≡ whole) (l : 0 < j)
    (link : Option Link) (at : as_link link ≡ link_at n.parents n.through (j - 1))
    (label : model.Label) (own : label ≡ label_at n.labels (j - 1))
    (offer : List ℕ) (o : offer ≡ offered (key_row (get_or rows (j - 1) []) label) (bars_below (as_link link) bars)) where
  one_offer : offers_to n bars (j - 1) (folded_up (as_link link) offer rows) (set offers (j - 1) offer) ≡ whole
  one_offer = rw (o, own, at) (sym (step j l) ∙ e)
    where
      step : (i : ℕ) → 0 < i
          → offers_to n bars i rows offers
          ≡ offers_to n bars (i - 1)
          (folded_up (link_at n.parents n.through (i - 1)) (offer_at n bars rows (i - 1)) rows)
          (set offers (i - 1) (offer_at n bars rows (i - 1)))
      step zero h = absurd (not-suc-le-zero h)
      step (suc i) h = rw (sub-one (suc i))

  pub child_offer : (above : Link) (row : List ℕ) → link ≡ Some above → row ≡ folded_offer (get_or rows above.parent []) offer
      → offers_to n bars (j - 1) (set rows above.parent row) (set offers (j - 1) offer) ≡ whole
  child_offer above row q r = rw r (rw q at one_offer)

pub offers_start : (n : Network) (bars : List (List (List ℕ))) (rows : List (List ℕ)) → rows ≡ own_rows own_costs n
    → offers_to n bars n.plots rows (replicate max_plots (replicate max_classes 0))
    ≡ all_offers n bars
unfolding all_offers
offers_start n bars rows e = rw e refl

module _ (n : Network) (h : network_holds (view n) ≡ true) where
  abbrev link_in : ℕ → model.Link
  link_in = link_at n.parents n.through

  abbrev bars_in : List (List (List ℕ))
  bars_in = all_bars n.rows n.tables

  -- the rows once the first j plots have sent their costs
  abbrev passed : ℕ → List (List ℕ) → List (List ℕ)
  passed = gathered folded_costs costs_up n []

  module _ (j : ℕ) (l : suc j ≤ n.plots) (rows : List (List ℕ)) (e : passed (suc j) rows ≡ cost_rows n) where
    -- the newest that is left has the costs that it will have at the end
    final : get_or rows j [] ≡ get_or (cost_rows n) j []
    final = sym (settled folded_costs costs_up n [] j (parents_back n h (suc j) l) rows) ∙ ap (λ r. get_or r j []) e

    -- so what it offers is what is kept of it
    made : offer_in n rows j ≡ offer_in n (cost_rows n) j
    made = rw final

    -- and what is folded into its parent's row is what it then costs
    sent_offer : (u : model.Link) → link_in j ≡ u
        → passed j (folded_up u (offer_in n rows j) rows) ≡ passed j (sent_up folded_costs costs_up n u j rows)
    sent_offer root q = refl
    sent_offer (child parent table) q =
        let mine = get_or rows parent [] in
        ap (λ row. passed j (set rows parent row))
        (ap (folded_offer mine) made
        ∙ folded_offer_lem n h (cost_rows n) (never_past n h) (are_costs n h) j parent table mine l q
        ∙ ap (λ x. folded_costs mine (costs_up x n.rows table (classes_at n.classes j))) (sym final))

  kept_from : (j : ℕ) → j ≤ n.plots → (rows offers : List (List ℕ)) → passed j rows ≡ cost_rows n → OffersFrom n j (cost_rows n) offers
      → length offers ≡ max_plots
      → OffersBy n (cost_rows n) (offers_to n bars_in j rows offers)
  kept_from zero l rows offers e o long = offers_all n zero (cost_rows n) offers (omega arith) o
  kept_from (suc j) l rows offers e o long =
      let offer = offer_in n rows j in
      kept_from j (omega arith) (folded_up (link_in j) offer rows) (set offers j offer)
      (sent_offer j l rows e (link_in j) refl ∙ e)
      (offers_more n j (cost_rows n) offers o l (few-plots n h) long offer (made j l rows e))
      (length-set offers j offer ∙ long)

  -- The pass makes the offers by the rows of all costs.
  pub all_kept : OffersBy n (cost_rows n) (all_offers n bars_in)
  unfolding all_offers
  all_kept =
      kept_from n.plots (omega arith) (own_rows own_costs n) (replicate max_plots (replicate max_classes 0)) refl
      (offers_none n n.plots (cost_rows n) _ (omega arith)) refl

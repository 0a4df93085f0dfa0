-- The offers that the pass up keeps say what the passes over costs give: what each plot sends its parent, what the roots cost, and each
-- plot's class.
use Rattle.std.proofs.Common.{◌≡◌, refl, sym, ap, ◌∙◌, Bool, true, false, cond, List, [], ◌∷◌, ℕ, zero, suc, ◌/◌, ◌<◌, ◌≤◌, arith, length}
use Rattle.std.proofs.Common.{get_or, set, eqb, get_or-set_same, get_or-set_other}
use native.Mathlib.Decide.{ℕ_discrete}
use Rattle.semantics.specs.Basics.{foremost, below, row_of}
use Rattle.semantics.specs.Limits.{max_classes, max_plots}
use Rattle.semantics.specs.Network.{Link, root, child, Label, allows}
use Rattle.semantics.specs.Solutions.{class_at, agrees}
use Rattle.semantics.specs.Relabelling.{Best, none, best, is_label}
use Rattle.semantics.specs.Rules.{network_holds}
use Rattle.semantics.specs.Messages.{worth, chosen}
use Rattle.semantics.proofs.Lists.{get_or_by, in_foremost, in_below}
use Rattle.semantics.proofs.Rows.{row_any, row_cong, row-over}
use Rattle.semantics.proofs.Least.{OfBest, of_least}
use Rattle.network.specs.declared.Network.{Network}
use Rattle.network.specs.View.{view}
use Rattle.network.proofs.Standing.{rules-at, child-below}
use Rattle.stored.specs.Values.{table_at, link_at, classes_at, domain_at, label_at}
use Rattle.messages.specs.Rows.{Past}
use Rattle.messages.proofs.Past.{no_class, past_gathered}
use Rattle.messages.proofs.Each.{each-gathered}
use Rattle.relabel.specs.Costs.{never_number, cost_number, together, cost_in, best_in, preferred_in, costs_up, folded_costs, own_cost}
use Rattle.relabel.specs.Costs.{own_costs, row_above, with_root, cost_rows, totalled, chosen_to}
use Rattle.relabel.specs.Keys.{ranks, AreCosts, all_bars, folded_offer, with_root_offer, class_above, key_class, offer_at, totalled_by}
use Rattle.relabel.specs.Keys.{read_to, NameClasses}
use Rattle.relabel.proofs.Bars.{Through}
use Rattle.relabel.proofs.Keyed.{least_allowed, offered-at, key_number, key_chosen}

-- the class that a plot takes is a class
class_low : (b : Best ℕ) → OfBest (λ m c. c < max_classes) b → chosen b < max_classes
class_low none h = omega arith
class_low (best m c) h = h

preferred-low : (label : Label) (row : List ℕ) (beside : ℕ → Bool) (k : ℕ) → k ≤ max_classes
    → chosen (preferred_in label row beside k) < max_classes
preferred-low label row beside k h =
    class_low (preferred_in label row beside k)
    (of_least (λ m c. c < max_classes) (cost_in row beside) (foremost (is_label label) (below k))
    (λ c i m e. let l : c < k = in_below k (in_foremost (is_label label) (below k) i) in omega arith))

-- what the plot at a position of a network offers, by the rows of costs
abbrev pub offer_in : Network → List (List ℕ) → ℕ → List ℕ
offer_in n = offer_at n (all_bars n.rows n.tables)

-- the offers of every plot, and those of the plots from a position on
pub record OffersBy (n : Network) (rows offers : List (List ℕ)) : Type 0 where
  pub each : (i : ℕ) → i < n.plots → get_or offers i [] ≡ offer_in n rows i

pub record OffersFrom (n : Network) (j : ℕ) (rows offers : List (List ℕ)) : Type 0 where
  pub each : (i : ℕ) → j ≤ i → i < n.plots → get_or offers i [] ≡ offer_in n rows i

pub low_above : (u : Link) (f : ℕ → ℕ) → ((q : ℕ) → f q < max_classes) → class_above u f < max_classes
low_above root f h = omega arith
low_above (child parent table) f h = h parent

module _ (n : Network) (offers : List (List ℕ)) where
  -- a class is read for each plot, and where offers name classes each is one
  pub length-read : (j : ℕ) → length (read_to n offers j) ≡ j
  length-read zero = refl
  length-read (suc j) = ap suc (length-read j)

  pub read_low : NameClasses n offers → (j : ℕ) → j ≤ n.plots → (q : ℕ) → class_at (read_to n offers j) q < max_classes
  read_low h zero l q = omega arith
  read_low h (suc j) l q =
      let u = link_at n.parents n.through j in
      let a = read_to n offers j in
      go (eqb q (length a)) (h.low j (class_above u (class_at a)) (omega arith) (low_above u (class_at a) (read_low h j (omega arith))))
      (read_low h j (omega arith) q)
    where
      go : {c d : ℕ} (b : Bool) → c < max_classes → d < max_classes → cond b c d < max_classes
      go true p r = p
      go false p r = r

  -- totals stay within the number that says "never"
  pub total-low : (j cost : ℕ) → cost ≤ never_number → totalled_by n offers j cost ≤ never_number
  total-low zero cost h = h
  total-low (suc j) cost h =
      total-low j (with_root_offer (link_at n.parents n.through j) (get_or offers j []) cost) (go (link_at n.parents n.through j))
    where
      go : (u : Link) → with_root_offer u (get_or offers j []) cost ≤ never_number
      go root = omega arith
      go (child parent table) = h

-- no own cost is past "never", and none is once another is folded in
pub own_costs_lem : (domain : ℕ) (l : Label) → AreCosts (own_costs domain l)
unfolding own_costs
own_costs_lem domain l =
    record {
      paid = λ c. row_any (λ x. x ≤ never_number) 0 max_classes (own_cost domain l) c (omega arith) (go (allows domain c) (agrees l c));
    }
  where
    go : (d g : Bool) → cond d (cond g 0 1) never_number ≤ never_number
    go true true = omega arith
    go true false = omega arith
    go false g = omega arith

together_costs : (f : ℕ → ℕ) (mine : List ℕ) → AreCosts (row_of max_classes (λ c. together (get_or mine c 0) (f c)))
together_costs f mine =
    record {
      paid = λ c. row_any (λ x. x ≤ never_number) 0 max_classes (λ d. together (get_or mine d 0) (f d)) c (omega arith) (omega arith);
    }

pub folded_costs_lem : (mine told : List ℕ) → AreCosts (folded_costs mine told)
unfolding folded_costs
folded_costs_lem mine told = together_costs (λ c. get_or told c 0) mine

pub offer_costs : (mine offer : List ℕ) → AreCosts (folded_offer mine offer)
unfolding folded_offer
offer_costs mine offer = together_costs (λ c. get_or offer c 0 / ranks) mine

module _ (n : Network) where
  abbrev link : ℕ → Link
  link = link_at n.parents n.through

  abbrev label : ℕ → Label
  label = label_at n.labels

  abbrev k : ℕ → ℕ
  k = classes_at n.classes

  -- those read of a network's plots, and what its roots cost
  abbrev read : List (List ℕ) → ℕ → List ℕ
  read = read_to n

  abbrev total_in : List (List ℕ) → ℕ → ℕ → ℕ
  total_in = totalled_by n

  -- none yet, one plot more, and all of them
  pub offers_none : (j : ℕ) (rows offers : List (List ℕ)) → n.plots ≤ j → OffersFrom n j rows offers
  offers_none j rows offers h = record { each = λ i l m. absurd (omega arith) }

  pub offers_more : (j : ℕ) (rows offers : List (List ℕ)) → OffersFrom n (suc j) rows offers → j < n.plots → n.plots ≤ max_plots
      → length offers ≡ max_plots
      → (offer : List ℕ) → offer ≡ offer_in n rows j → OffersFrom n j rows (set offers j offer)
  offers_more j rows offers kept m p long offer e =
      record {
        each = λ i low up.
            elim (ℕ_discrete i j) [
              | yes q ↦ rw q (get_or-set_same offers j offer [] (omega arith) ∙ e)
              | no q ↦ get_or-set_other offers j i offer [] q ∙ kept.each i (omega arith) up
            ];
      }

  pub offers_all : (j : ℕ) (rows offers : List (List ℕ)) → j ≤ 0 → OffersFrom n j rows offers → OffersBy n rows offers
  offers_all j rows offers h kept = record { each = λ i l. kept.each i (omega arith) l }

  module _ (h : network_holds (view n) ≡ true) where
    few : (i : ℕ) → i < n.plots → k i ≤ max_classes
    few i l = (rules-at n h i l).few_classes

    through : (i : ℕ) → i < n.plots → Through n.tables (link i)
    through i l = go (link i) refl
      where
        go : (u : Link) → link i ≡ u → Through n.tables u
        go root e = tt
        go (child parent table) e = (child-below n h i parent table l e).1

    -- a class past those of a plot can't be had: not by its own costs, nor with those of its children
    own_never : (i : ℕ) → i < n.plots → (c : ℕ) → k i ≤ c → c < max_classes
        → get_or (own_costs (domain_at n.domains i) (label i)) c 0 ≡ never_number
    unfolding own_costs
    own_never i l c p m =
        get_or_by (own_cost (domain_at n.domains i) (label i)) 0 max_classes c m
        ∙ rw (no_class (domain_at n.domains i) (k i) c (rules-at n h i l).own_classes p)

    folded_never : (mine told : List ℕ) (c : ℕ) → c < max_classes → get_or mine c 0 ≡ never_number
        → get_or (folded_costs mine told) c 0 ≡ never_number
    unfolding folded_costs
    folded_never mine told c m e = get_or_by (λ d. together (get_or mine d 0) (get_or told d 0)) 0 max_classes c m ∙ rw e (omega arith)

    -- What the rows of all costs are, once the pass is done.
    pub never_past : Past never_number n (cost_rows n)
    never_past = past_gathered never_number n own_costs folded_costs costs_up [] own_never folded_never

    pub are_costs : (i : ℕ) → i < n.plots → AreCosts (get_or (cost_rows n) i [])
    are_costs =
        each-gathered (λ i. AreCosts) n own_costs folded_costs costs_up [] (λ i l. own_costs_lem (domain_at n.domains i) (label i))
        (λ i mine told a. folded_costs_lem mine told)

    module _ (rows : List (List ℕ)) (past : Past never_number n rows) (costs : (i : ℕ) → i < n.plots → AreCosts (get_or rows i [])) where
      abbrev row_beside : ℕ → ℕ → ℕ → Bool
      row_beside i b = allows (row_above (link i) n.rows (λ q. b))

      offer_at_lem : (i b : ℕ) → i < n.plots → b < max_classes
          → get_or (offer_in n rows i) b 0 ≡ least_allowed (label i) (get_or rows i []) (row_beside i b)
      offer_at_lem i b l m = offered-at (label i) (get_or rows i []) n.rows n.tables (link i) (costs i l) (through i l) b m

      -- what an offer says that the plot costs, and which class it takes
      number_at : (i b : ℕ) → i < n.plots → b < max_classes
          → get_or (offer_in n rows i) b 0 / ranks ≡ cost_number (worth (best_in (get_or rows i []) (row_beside i b) (k i)))
      number_at i b l m =
          ap (λ x. x / ranks) (offer_at_lem i b l m) ∙ key_number (label i) (get_or rows i []) (k i) (few i l) (past.at i l) (row_beside i b)

      class-at : (i b : ℕ) → i < n.plots → b < max_classes
          → key_class (label i) (get_or (offer_in n rows i) b 0) ≡ chosen (preferred_in (label i) (get_or rows i []) (row_beside i b) (k i))
      class-at i b l m =
          ap (key_class (label i)) (offer_at_lem i b l m) ∙ key_chosen (label i) (get_or rows i []) (k i) (few i l) (past.at i l) (row_beside i b)

      -- What is folded into the parent's costs is what the plot then costs.
      pub folded_offer_lem : (i parent table : ℕ) (mine : List ℕ) → i < n.plots → link i ≡ child parent table
          → folded_offer mine (offer_in n rows i) ≡ folded_costs mine (costs_up (get_or rows i []) n.rows table (k i))
      unfolding folded_offer folded_costs costs_up
      folded_offer_lem i parent table mine l e =
          row_cong max_classes _ _
          (λ c m.
          ap (together (get_or mine c 0))
          (number_at i c l m ∙ ap (λ u. cost_number (worth (best_in (get_or rows i []) (allows (row_above u n.rows (λ q. c))) (k i)))) e))
          ∙ sym
          (row-over max_classes (λ c x. together (get_or mine c 0) x)
          (λ b. cost_number (worth (best_in (get_or rows i []) (allows (get_or (table_at n.rows table) b 0)) (k i)))) 0)

      module _ (offers : List (List ℕ)) (kept : OffersBy n rows offers) where
        pub name_classes : NameClasses n offers
        name_classes =
            record {
              low =
                  λ i b l m. rw (kept.each i l, class-at i b l m)
                  (preferred-low (label i) (get_or rows i []) (row_beside i b) (k i) (few i l));
            }

        -- The roots' offers say what they cost,
        pub totals : (j : ℕ) → j ≤ n.plots → (cost : ℕ) → total_in offers j cost ≡ totalled n rows j cost
        totals zero l cost = refl
        totals (suc j) l cost =
            ap (total_in offers j) (go (link j) refl) ∙ totals j (omega arith) (with_root (link j) (get_or rows j []) (k j) cost)
          where
            go : (u : Link) → link j ≡ u → with_root_offer u (get_or offers j []) cost ≡ with_root u (get_or rows j []) (k j) cost
            go root e =
                ap (together cost)
                (ap (λ o. get_or o 0 0 / ranks) (kept.each j (omega arith))
                ∙ number_at j 0 (omega arith) (omega arith)
                ∙ ap (λ u. cost_number (worth (best_in (get_or rows j []) (allows (row_above u n.rows (λ q. 0))) (k j)))) e)
            go (child parent table) e = refl

        -- and each plot's offer beside its parent's class says its class.
        pub reads : (j : ℕ) → j ≤ n.plots → read offers j ≡ chosen_to n rows j
        reads zero l = refl
        reads (suc j) l = rw (← reads j (omega arith)) (ap (λ c. c ∷ a) here)
          where
            a : List ℕ
            a = read offers j

            b : ℕ
            b = class_above (link j) (class_at (read offers j))

            same_row : (u : Link)
                → row_above u n.rows (λ q. class_above u (class_at (read offers j)))
                ≡ row_above u n.rows (class_at (read offers j))
            same_row root = refl
            same_row (child parent table) = refl

            here : key_class (label j) (get_or (get_or offers j []) (class_above (link j) (class_at (read offers j))) 0)
                ≡ chosen (preferred_in (label j) (get_or rows j []) (allows (row_above (link j) n.rows (class_at (read offers j)))) (k j))
            here =
                ap (λ o. key_class (label j) (get_or o b 0)) (kept.each j (omega arith))
                ∙ class-at j b (omega arith)
                (low_above (link j) (class_at (read offers j))
                (read_low n offers name_classes j (omega arith)))
                ∙ ap (λ x. chosen (preferred_in (label j) (get_or rows j []) (allows x) (k j))) (same_row (link j))

-- The costs up to the root and the choice down from it, over numbers by position, give the relabelling.
use Rattle.std.proofs.Common.{◌≡◌, refl, sym, ap, ap₂, ◌∙◌, subst, Bool, true, false, cond, List, [], ◌∷◌, ℕ, zero, suc, ◌+◌, ◌*◌, ◌<◌, ◌≤◌}
use Rattle.std.proofs.Common.{lt_of_lt_of_le, arith, length, get_or, get_or-set_same, get_or-set_other, eq-eqb, ne_eqb}
use native.Mathlib.Decide.{ℕ_discrete}
use Rattle.semantics.specs.Basics.{foremost, below, row_of, sum}
use Rattle.semantics.specs.Limits.{max_classes, max_mask}
use Rattle.semantics.specs.Network.{Link, root, child, Label, Plot, allows, row}
use Rattle.semantics.specs.Solutions.{class_at, agrees, linked}
use Rattle.semantics.specs.Relabelling.{Best, is_label, label_cost, relabelling}
use Rattle.semantics.specs.Rules.{network_holds}
use Rattle.semantics.specs.Messages.{Cost, never, some, plus, at_cost, least, worth, chosen}
use Rattle.semantics.proofs.Lists.{get_or_by, in_foremost, in_below, below_in, every_in}
use Rattle.semantics.proofs.Weights.{gate}
use Rattle.semantics.proofs.Rows.{row_cong, row-over, absorbed_rows}
use Rattle.semantics.proofs.Least.{costs, least_cong, complete}
use Rattle.semantics.proofs.Preference.{worth_foremost}
use Rattle.semantics.proofs.Choice as law
use Rattle.semantics.proofs.Choice.{best_class, cost_at, best_by}
use Rattle.semantics.proofs.Passes.{relabelling_passes}
use Rattle.network.specs.declared.Network.{Network}
use Rattle.stored.specs.Values.{table_at, link_at}
use Rattle.network.specs.View.{plot_at, plots_of, view}
use Rattle.network.proofs.Standing.{few-plots, rules-at, child-below}
use Rattle.messages.specs.Rows.{newest_first, own_rows}
use Rattle.messages.specs.Pass.{sent_up, gathered}
use Rattle.messages.proofs.Own.{own_at_lem, own_long, own_newest}
use Rattle.network.proofs.Reach.{rows_seen, parents_back}
use Rattle.messages.proofs.Pass.{settled, sent_long}
use Rattle.messages.proofs.Newest.{newest_folded}
use Rattle.relabel.specs.Costs.{never_number, as_cost, cost_number, together, cost_in, best_in, preferred_in, costs_up, folded_costs, own_cost}
use Rattle.relabel.specs.Costs.{own_costs, row_above, with_root, cost_rows, totalled, chosen_to}
use Rattle.relabel.proofs.Bounds.{AtMost, within-plus, within_more, number-cost, together-cost, Small, best-within, raised}
use Rattle.relabel.proofs.Bounds.{sum_raised, sum_newest, sum_part}

-- the costs that a row of numbers stands for
abbrev as_row : List ℕ → List Cost
as_row r = row_of max_classes (λ c. as_cost (get_or r c 0))

-- what a plot's classes cost, by its row of numbers
cost_in_lem : (r : List ℕ) (beside : ℕ → Bool) (k : ℕ) → k ≤ max_classes → (c : ℕ) → c < k
    → plus (cost_at (as_row r) c) (gate costs (beside c)) ≡ cost_in r beside c
cost_in_lem r beside k few c l = general max_classes few
  where
    general : (m : ℕ) → k ≤ m → plus (cost_at (row_of m (λ d. as_cost (get_or r d 0))) c) (gate costs (beside c)) ≡ cost_in r beside c
    general m i = ap (λ x. plus x (gate costs (beside c))) (get_or_by (λ d. as_cost (get_or r d 0)) never m c (lt_of_lt_of_le l i))

-- what its best class costs, which doesn't depend on its label
worth_in : (p : Plot) (r : List ℕ) (beside : ℕ → Bool) → p.classes ≤ max_classes
    → worth (best_class p (cost_at (as_row r)) beside) ≡ worth (best_in r beside p.classes)
worth_in p r beside few =
    worth_foremost (λ c. plus (cost_at (as_row r) c) (gate costs (beside c))) (is_label p.label) (below p.classes)
    ∙ ap worth (least_cong _ _ (below p.classes) (λ c i. cost_in_lem r beside p.classes few c (in_below p.classes i)))

-- costs that agree on k classes choose the same of them
same_costs : (f g : ℕ → Cost) (l : Label) (k : ℕ) → ((c : ℕ) → c < k → f c ≡ g c)
    → least f (foremost (is_label l) (below k)) ≡ least g (foremost (is_label l) (below k))
same_costs f g l k e =
    least_cong f g (foremost (is_label l) (below k)) (λ c i. e c (in_below k (in_foremost (is_label l) (below k) i)))

-- the best class of a plot, by its row of numbers
best_in_lem : (p : Plot) (r : List ℕ) (beside : ℕ → Bool) → p.classes ≤ max_classes
    → best_class p (cost_at (as_row r)) beside ≡ preferred_in p.label r beside p.classes
best_in_lem p r beside few = same_costs _ _ p.label p.classes (cost_in_lem r beside p.classes few)

-- every class is in the mask of all
pub all_allowed : (c : ℕ) → c < max_classes → allows max_mask c ≡ true
all_allowed c l = every_in (allows max_mask) (below max_classes) refl (below_in max_classes l)

root-cost_in : (r : List ℕ) (k : ℕ) → k ≤ max_classes → (c : ℕ) → c < k → cost_in r (λ d. true) c ≡ cost_in r (allows max_mask) c
root-cost_in r k few c l = ap (λ b. plus (as_cost (get_or r c 0)) (gate costs b)) (sym (all_allowed c (lt_of_lt_of_le l few)))

best-root : (r : List ℕ) (k : ℕ) → k ≤ max_classes → best_in r (λ c. true) k ≡ best_in r (allows max_mask) k
best-root r k few = least_cong _ _ (below k) (λ c i. root-cost_in r k few c (in_below k i))

-- what a row becomes once a message is folded into it, value by value
folded_at : (mine sender rows : List ℕ) (table k c : ℕ) → c < max_classes
    → get_or (folded_costs mine (costs_up sender rows table k)) c 0
    ≡ together (get_or mine c 0) (cost_number (worth (best_in sender (allows (get_or (table_at rows table) c 0)) k)))
unfolding folded_costs costs_up
folded_at mine sender rows table k c l =
    ap (λ r. get_or r c 0) (row-over max_classes (λ d x. together (get_or mine d 0) x) sent_to 0)
    ∙ get_or_by (λ d. together (get_or mine d 0) (sent_to d)) 0 max_classes c l
  where
    sent_to : ℕ → ℕ
    sent_to b = cost_number (worth (best_in sender (allows (get_or (table_at rows table) b 0)) k))

module _ (mine sender rows : List ℕ) (table k w v : ℕ) (few : k ≤ max_classes) (a : Small w mine) (b : Small v sender)
    (l : w + v < never_number) where
  abbrev sent_to : ℕ → Cost
  sent_to c = worth (best_in sender (allows (get_or (table_at rows table) c 0)) k)

  folded_cost : (c : ℕ) → c < max_classes
      → as_cost (get_or (folded_costs mine (costs_up sender rows table k)) c 0) ≡ plus (as_cost (get_or mine c 0)) (sent_to c)
  folded_cost c m =
      let s : AtMost v (sent_to c) = best-within v sender (allows (get_or (table_at rows table) c 0)) k few b in
      let e : as_cost (cost_number (sent_to c)) ≡ sent_to c = number-cost v (sent_to c) s (omega arith) in
      ap as_cost (folded_at mine sender rows table k c m)
      ∙ together-cost w v (get_or mine c 0) (cost_number (sent_to c)) (a c m) (rw e s) l
      ∙ ap (plus (as_cost (get_or mine c 0))) e

  folded_small : Small (w + v) (folded_costs mine (costs_up sender rows table k))
  folded_small c m =
      rw (folded_cost c m)
      (within-plus w v (as_cost (get_or mine c 0)) (sent_to c) (a c m) (best-within v sender (allows (get_or (table_at rows table) c 0)) k few b))

  folded_row : as_row (folded_costs mine (costs_up sender rows table k)) ≡ row_of max_classes (λ c. plus (get_or (as_row mine) c never) (sent_to c))
  folded_row =
      row_cong max_classes _ _
      (λ c m. folded_cost c m ∙ ap (λ x. plus x (sent_to c)) (sym (get_or_by (λ d. as_cost (get_or mine d 0)) never max_classes c m)))

-- an older choice, completed
complete_at-cost : (K : List ℕ → Best ℕ) (x : Cost) (a : List ℕ) → complete K (at_cost x a) ≡ at_cost x (chosen (K a) ∷ a)
complete_at-cost K never a = refl
complete_at-cost K (some v) a = refl

module _ (n : Network) (h : network_holds (view n) ≡ true) where
  abbrev link : ℕ → Link
  link = link_at n.parents n.through

  abbrev k : ℕ → ℕ
  k j = (plot_at n j).classes

  abbrev rows_to : ℕ → List (List ℕ) → List (List ℕ)
  rows_to = gathered folded_costs costs_up n []

  -- What the first j plots' numbers still have to give: the law's two passes over the costs that they stand for.
  abbrev best_to : List (List ℕ) → ℕ → ℕ → Best (List ℕ)
  best_to rows j s = best_by (view n).tables max_classes (as_cost s) (newest_first as_row rows j) (plots_of n j)

  -- costs that are within bounds that add up to less than "never"
  abbrev Bounded : List (List ℕ) → ℕ → ℕ → Type 0
  Bounded rows j s =
      (v : ℕ) × (w : ℕ → ℕ) × AtMost v (as_cost s) × ((i : ℕ) → i < j → Small (w i) (get_or rows i [])) × (v + sum w (below j) < never_number)

  abbrev Chooses : ℕ → Type 0
  Chooses j = (rows : List (List ℕ)) (s : ℕ) → j ≤ length rows → Bounded rows j s
      → best_to rows j s ≡ at_cost (as_cost (totalled n (rows_to j rows) j s)) (chosen_to n (rows_to j rows) j)

  module _ (j : ℕ) (l : j < n.plots) (rows : List (List ℕ)) (s : ℕ) where
    few : k j ≤ max_classes
    few = (rules-at n h j l).few_classes

    abbrev own : List ℕ
    own = get_or rows j []

    -- the best class of the plot beside those of the older ones, in the law and in the code
    beside : (a : List ℕ) → best_class (plot_at n j) (cost_at (as_row own)) (λ c. linked (view n).tables (link j) c a)
        ≡ preferred_in (plot_at n j).label own (allows (row_above (link j) n.rows (class_at a))) (k j)
    beside a = best_in_lem (plot_at n j) own (λ c. linked (view n).tables (link j) c a) few ∙ go (link j) refl
      where
        go : (u : Link) → link j ≡ u
            → preferred_in (plot_at n j).label own (λ c. linked (view n).tables u c a) (k j)
            ≡ preferred_in (plot_at n j).label own (allows (row_above u n.rows (class_at a))) (k j)
        go root e = same_costs _ _ (plot_at n j).label (k j) (root-cost_in own (k j) few)
        go (child parent table) e =
            ap (λ x. preferred_in (plot_at n j).label own (allows x) (k j))
            (rows_seen n table (child-below n h j parent table l e).1 (class_at a parent))

    abbrev choice : List ℕ → Best ℕ
    choice a = best_class (plot_at n j) (cost_at (as_row own)) (λ c. linked (view n).tables (link j) c a)

    -- the plot's class completes the choice for the older ones
    completed : (all : List (List ℕ)) → get_or all j [] ≡ own → (x : Cost)
        → complete choice (at_cost x (chosen_to n all j)) ≡ at_cost x (chosen_to n all (suc j))
    completed all e x =
        let a = chosen_to n all j in
        complete_at-cost choice x a
        ∙ ap (λ c. at_cost x (c ∷ a))
        (ap chosen (beside a)
        ∙ ap (λ r. chosen (preferred_in (plot_at n j).label r (allows (row_above (link j) n.rows (class_at a))) (k j))) (sym e))

    -- what the law leaves once the plot is taken away
    abbrev left_by : Link → Best (List ℕ)
    left_by u =
        let left =
        absorbed_rows plus never max_classes (view n).tables u (λ test. worth (best_class (plot_at n j) (cost_at (as_row own)) test)) (as_cost s)
        (newest_first as_row rows j) in
        best_by (view n).tables max_classes left.scalar left.rows (plots_of n j)

    taken : (u : Link) → link j ≡ u → best_to rows (suc j) s ≡ complete choice (left_by u)
    taken u e = ap (λ x. complete choice (left_by x)) e

    module _ (v w : ℕ) (a : AtMost v (as_cost s)) (b : Small w own) (low : v + w < never_number) where
      -- a root adds the least that it costs
      abbrev root_cost : Cost
      root_cost = worth (best_in own (allows max_mask) (k j))

      root-within : AtMost w root_cost
      root-within = best-within w own (allows max_mask) (k j) few b

      root-number : as_cost (cost_number root_cost) ≡ root_cost
      root-number = number-cost w root_cost root-within (omega arith)

      root-cost : as_cost (with_root root own (k j) s) ≡ plus (as_cost s) root_cost
      root-cost =
          together-cost v w s (cost_number root_cost) a (rw root-number root-within) low ∙ ap (plus (as_cost s)) root-number

      root-paid : AtMost (v + w) (as_cost (with_root root own (k j) s))
      root-paid = rw root-cost (within-plus v w (as_cost s) root_cost a root-within)

      root-left : left_by root ≡ best_to rows j (with_root root own (k j) s)
      root-left =
          ap (λ x. best_by (view n).tables max_classes x (newest_first as_row rows j) (plots_of n j))
          (ap (plus (as_cost s)) (worth_in (plot_at n j) own (λ c. true) few ∙ ap worth (best-root own (k j) few)) ∙ sym root-cost)

    module _ (parent table : ℕ) (e : link j ≡ child parent table) (long : j ≤ length rows) where
      abbrev rows_sent : List (List ℕ)
      rows_sent = sent_up folded_costs costs_up n (child parent table) j rows

      -- a child sends the least that it costs beside each of its parent's classes
      child-left : (v w : ℕ) → Small v (get_or rows parent []) → Small w own → v + w < never_number
          → left_by (child parent table) ≡ best_to rows_sent j s
      child-left v w a b low =
          let p = plot_at n j in
          let places = child-below n h j parent table l e in
          ap (λ rs. best_by (view n).tables max_classes (as_cost s) rs (plots_of n j))
          (sym
          (newest_folded as_row plus never max_classes parent
          (λ c. worth (best_class p (cost_at (as_row own)) (allows (row (view n).tables table c)))) rows
          (folded_costs (get_or rows parent []) (costs_up own n.rows table (k j)))
          (folded_row (get_or rows parent []) own n.rows table (k j) v w few a b low
          ∙ row_cong max_classes _ _
          (λ c m.
          ap (plus (get_or (as_row (get_or rows parent [])) c never))
          (ap (λ x. worth (best_in own (allows x) (k j))) (sym (rows_seen n table places.1 c))
          ∙ sym (worth_in p own (allows (row (view n).tables table c)) few))))
          j places.0 long))

      after_rows : rows_to (suc j) rows ≡ rows_to j rows_sent
      after_rows = rw e

      -- its parent's row grows, and no other changes
      after_small : (w : ℕ → ℕ) → ((i : ℕ) → i < suc j → Small (w i) (get_or rows i [])) → w parent + w j < never_number
          → (i : ℕ) → i < j → Small (raised w parent (w j) i) (get_or rows_sent i [])
      after_small w b low i m =
          let places = child-below n h j parent table l e in
          elim (ℕ_discrete i parent) [
            | yes q ↦ rw (q, eq-eqb parent parent refl)
                (subst (Small (w parent + w j))
                (sym (get_or-set_same rows parent (folded_costs (get_or rows parent []) (costs_up own n.rows table (k j))) [] (omega arith)))
                (folded_small (get_or rows parent []) own n.rows table (k j) (w parent) (w j) few (b parent (omega arith))
                (b j (omega arith)) low))
            | no d ↦ rw (ne_eqb i parent d)
                (subst (Small (w i + 0))
                (sym (get_or-set_other rows parent i (folded_costs (get_or rows parent []) (costs_up own n.rows table (k j))) [] d))
                (λ c o. within_more (w i) (w i + 0) (as_cost (get_or (get_or rows i []) c 0)) (omega arith) (b i (omega arith) c o)))
          ]

  -- the totals and the classes once the plot is taken away
  whole : (j : ℕ) (l : j < n.plots) (rows all : List (List ℕ)) (s : ℕ) (u : Link) → link j ≡ u → rows_to (suc j) rows ≡ all
      → get_or all j [] ≡ get_or rows j []
      → at_cost (as_cost (totalled n all j (with_root u (get_or rows j []) (k j) s))) (chosen_to n all (suc j))
      ≡ at_cost (as_cost (totalled n (rows_to (suc j) rows) (suc j) s)) (chosen_to n (rows_to (suc j) rows) (suc j))
  whole j l rows all s u e r o =
      ap₂ (λ x y. at_cost (as_cost (totalled n all j (with_root x y (k j) s))) (chosen_to n all (suc j))) (sym e) (sym o)
      ∙ ap (λ x. at_cost (as_cost (totalled n x (suc j) s)) (chosen_to n x (suc j))) (sym r)

  step : (j : ℕ) → j < n.plots → Chooses j → Chooses (suc j)
  step j l ih rows s long (v, w, a, b, low) = go (link j) refl
    where
      kept : (all : List (List ℕ)) → rows_to (suc j) rows ≡ all → get_or all j [] ≡ get_or rows j []
      kept all r = ap (λ x. get_or x j []) (sym r) ∙ settled folded_costs costs_up n [] j (parents_back n h (suc j) l) rows

      apart : v + (sum w (below j) + w j) < never_number
      apart = rw (sum_newest w j) at low

      go : (u : Link) → link j ≡ u
          → best_to rows (suc j) s ≡ at_cost (as_cost (totalled n (rows_to (suc j) rows) (suc j) s)) (chosen_to n (rows_to (suc j) rows) (suc j))
      go root e =
          let next = with_root root (get_or rows j []) (k j) s in
          let same : rows_to (suc j) rows ≡ rows_to j rows = rw e in
          let own-kept = kept (rows_to j rows) same in
          let paid : AtMost (v + w j) (as_cost next) = root-paid j l rows s v (w j) a (b j (omega arith)) (omega (arith, apart)) in
          taken j l rows s root e
          ∙ ap (complete (choice j l rows s))
          (root-left j l rows s v (w j) a (b j (omega arith)) (omega (arith, apart))
          ∙ ih rows next (omega arith) (v + w j, w, paid, λ i m. b i (omega arith), omega (arith, apart)))
          ∙ completed j l rows s (rows_to j rows) own-kept (as_cost (totalled n (rows_to j rows) j next))
          ∙ whole j l rows (rows_to j rows) s root e same own-kept
      go (child parent table) e =
          let places = child-below n h j parent table l e in
          let part = sum_part w parent j places.0 in
          let long-enough : j ≤ length rows = omega arith in
          let next = rows_sent j l rows s parent table e long-enough in
          let same = after_rows j l rows s parent table e long-enough in
          let own-kept = kept (rows_to j next) same in
          taken j l rows s (child parent table) e
          ∙ ap (complete (choice j l rows s))
          (child-left j l rows s parent table e long-enough (w parent) (w j) (b parent (omega arith)) (b j (omega arith))
          (omega (arith, apart))
          ∙ ih next s (sent_long folded_costs costs_up n rows j parent table long-enough) (
            v,
            raised w parent (w j),
            a,
            after_small j l rows s parent table e long-enough w b (omega (arith, apart)),
            omega (arith, apart, sum_raised w parent (w j) j places.0),
          ))
          ∙ completed j l rows s (rows_to j next) own-kept (as_cost (totalled n (rows_to j next) j s))
          ∙ whole j l rows (rows_to j next) s (child parent table) e same own-kept

  chooses : (j : ℕ) → j ≤ n.plots → Chooses j
  chooses zero l = λ rows s long b. refl
  chooses (suc j) l = step j l (chooses j (omega arith))

  -- the rows that the pass starts from stand for those of the law
  own_row : (j : ℕ) → as_row (own_costs (plot_at n j).domain (plot_at n j).label) ≡ law.own_cost_row label_cost max_classes (plot_at n j)
  unfolding own_costs
  own_row j =
      row_cong max_classes _ _
      (λ c m.
      ap as_cost (get_or_by (own_cost (plot_at n j).domain (plot_at n j).label) 0 max_classes c m)
      ∙ go (allows (plot_at n j).domain c) (agrees (plot_at n j).label c))
    where
      go : (d g : Bool) → as_cost (cond d (cond g 0 1) never_number) ≡ cond d (some (cond g 0 1)) never
      go true true = refl
      go true false = refl
      go false g = refl

  -- the most that a label may cost
  abbrev dearest : ℕ
  dearest = 9

  within_dearest : (p : Plot) → label_cost p ≤ dearest
  within_dearest p = omega arith

  own_within : (j c : ℕ) → AtMost dearest (law.charges label_cost (plot_at n j) c)
  own_within j c = go (allows (plot_at n j).domain c) (agrees (plot_at n j).label c)
    where
      go : (d g : Bool) → AtMost dearest (cond d (some (cond g 0 (label_cost (plot_at n j)))) never)
      go true true = omega arith
      go true false = within_dearest (plot_at n j)
      go false g = tt

  abbrev own_at : ℕ → List ℕ
  own_at i = own_costs (plot_at n i).domain (plot_at n i).label

  -- all plots together don't cost what can't be paid
  own_small : (i : ℕ) → i < n.plots → Small dearest (get_or (own_rows own_costs n) i [])
  own_small i l c m =
      rw (
        own_at_lem own_costs n i l,
        sym (get_or_by (λ d. as_cost (get_or (own_at i) d 0)) never max_classes c m) ∙ ap (λ r. get_or r c never) (own_row i)
            ∙ get_or_by (law.charges label_cost (plot_at n i)) never max_classes c m,
      )
      (own_within i c)

  all_dearest : (j : ℕ) → sum (λ i. dearest) (below j) ≡ j * dearest
  all_dearest zero = refl
  all_dearest (suc j) = sum_newest (λ i. dearest) j ∙ let e = all_dearest j in omega arith

  own_bounded : Bounded (own_rows own_costs n) n.plots 0
  own_bounded = (0, (λ i. dearest), omega arith, own_small, omega (arith, all_dearest n.plots, few-plots n h))

  -- The first of the cheapest assignments that fit, or that none fits, by one pass up and one pass down.
  pub chosen-relabelling : relabelling (view n)
      ≡ at_cost (as_cost (totalled n (cost_rows n) n.plots 0)) (chosen_to n (cost_rows n) n.plots)
  chosen-relabelling =
      sym (relabelling_passes (view n) h)
      ∙ ap (λ rs. best_by (view n).tables max_classes (some 0) rs (plots_of n n.plots))
      (sym (own_newest own_costs n as_row (law.own_cost_row label_cost max_classes) own_row))
      ∙ chooses n.plots (omega arith) (own_rows own_costs n) 0 (own_long own_costs n (few-plots n h)) own_bounded

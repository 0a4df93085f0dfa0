-- The rules of a network one by one, and what follows for its plots.
use Rattle.std.proofs.Common.{◌≡◌, refl, sym, ap, ◌∙◌, Bool, true, false, cond, not, ◌&&◌, true≢false, List, [], ◌∷◌, ◌++◌, inl, inr, ℕ}
use Rattle.std.proofs.Common.{suc, ◌+◌, ◌-◌, ◌^◌, ◌<◌, ◌≤◌, arith, length, length-append, leb, ltb, lt-ltb, le-leb, eq-eqb, ne_eqb}
use Rattle.std.proofs.Common.{leb-true}
use native.Mathlib.Nat.{pow-le-pow_right}
use borrow.Author.Tests.{not-true}
use Rattle.semantics.specs.Basics.{every, same}
use Rattle.semantics.specs.Limits.{max_tables, max_plots, max_classes}
use Rattle.semantics.specs.Text.{is_id}
use Rattle.semantics.specs.Network.{Link, root, child, Plot, Network, StandsAt, present, find, is_present, update, new_plot}
use Rattle.semantics.specs.Rules.{is_table, link_holds, classes_hold, domain_holds, label_holds, plot_holds, plots_hold, network_holds}
use Rattle.semantics.proofs.Lists.{and_left, and_right, every_append, same_refl, same_true}
use Rattle.semantics.proofs.Weights.{earlier, ordered}
use Rattle.semantics.proofs.Places.{stands_below, length-update, present-update}

-- the three parts of a test that passes
and_three : (a b c : Bool) → (a && b && c) ≡ true → (a ≡ true) × (b ≡ true) × (c ≡ true)
and_three a b c h = let t = and_left (a && b) c h in (and_left a b t, and_right a b t, and_right (a && b) c h)

-- two orders that are tested together
pub and_orders : (a b c d : ℕ) → (leb a b && leb c d) ≡ true → (a ≤ b) × (c ≤ d)
and_orders a b c d h = (leb-true a b (and_left (leb a b) (leb c d) h), leb-true c d (and_right (leb a b) (leb c d) h))

-- The rules of a plot, one by one.
pub record PlotRules (tables i : ℕ) (p : Plot) : Type 0 where
  pub has_id : is_id p.id ≡ true
  pub has_link : link_holds tables i p.link ≡ true
  pub some_class : 1 ≤ p.classes
  pub few_classes : p.classes ≤ max_classes
  pub some_domain : 1 ≤ p.domain
  pub own_classes : p.domain < 2 ^ p.classes
  pub has_label : label_holds p.classes p.label ≡ true

module _ (t i : ℕ) (p : Plot) where
  pub plot-rules : plot_holds t i p ≡ true → PlotRules t i p
  plot-rules h =
      let k = p.classes in
      let b =
      and_three (is_id p.id && link_holds t i p.link && classes_hold k) (domain_holds k p.domain) (label_holds k p.label) h in
      let a = and_three (is_id p.id) (link_holds t i p.link) (classes_hold k) b.0 in
      let c = and_orders 1 k k max_classes a.2 in
      let d = and_orders 1 p.domain (suc p.domain) (2 ^ k) b.1 in
      record {
        has_id = a.0;
        has_link = a.1;
        some_class = c.0;
        few_classes = c.1;
        some_domain = d.0;
        own_classes = d.1;
        has_label = b.2;
      }

  pub rules-plot : PlotRules t i p → plot_holds t i p ≡ true
  rules-plot r =
      rw (r.has_id, r.has_link, le-leb _ _ r.some_class, le-leb _ _ r.few_classes)
      (rw (le-leb _ _ r.some_domain, lt-ltb _ _ r.own_classes) r.has_label)

module _ (t : ℕ) (p : Plot) (older : List Plot) where
  -- The rules of the plots, the newest apart: the older keep them, the newest does, and its id is no older one's.
  pub newest_rules : plots_hold t (p ∷ older) ≡ true
      → (plots_hold t older ≡ true) × PlotRules t (length older) p × (is_present (find p.id older) ≡ false)
  newest_rules h =
      let a = and_three (plots_hold t older) (plot_holds t (length older) p) (not (is_present (find p.id older))) h in
      (a.0, plot-rules t (length older) p a.1, not-true (is_present (find p.id older)) a.2)

  pub rules_newest : plots_hold t older ≡ true → PlotRules t (length older) p → is_present (find p.id older) ≡ false
      → plots_hold t (p ∷ older) ≡ true
  rules_newest h r u = rw (h, rules-plot t (length older) p r, u)

-- A plot that stands in a network keeps the rules of its position.
pub stands_rules : (t i : ℕ) (p : Plot) (ps : List Plot) → plots_hold t ps ≡ true → StandsAt i p ps → PlotRules t i p
stands_rules t i p [] h s = absurd s
stands_rules t i p (q ∷ older) h (inl e) = rw (e.0, e.1) (newest_rules t q older h).1
stands_rules t i p (q ∷ older) h (inr s) = stands_rules t i p older (newest_rules t q older h).0 s

-- It is found by its id, where it stands: no other plot has that id.
pub stands_found : (t i : ℕ) (p : Plot) (ps : List Plot) → plots_hold t ps ≡ true → StandsAt i p ps → find p.id ps ≡ present i p
stands_found t i p [] h s = absurd s
stands_found t i p (q ∷ older) h (inl e) = rw (e.0, e.1, same_refl q.id) refl
stands_found t i p (q ∷ older) h (inr s) = go (same p.id q.id) refl (stands_found t i p older (newest_rules t q older h).0 s)
  where
    go : (b : Bool) → same p.id q.id ≡ b → find p.id older ≡ present i p
        → cond b (present (length older) q) (find p.id older) ≡ present i p
    go true e f =
        let stands : is_present (find q.id older) ≡ true =
        ap (λ (id : List ℕ). is_present (find id older)) (sym (same_true p.id q.id e)) ∙ ap is_present f in
        absurd (true≢false (sym stands ∙ (newest_rules t q older h).2))
    go false e f = f

-- A parent is older than its child, and the table between them stands: what makes the network a tree.
pub parents_earlier : (t i : ℕ) (p : Plot) (ps : List Plot) (q table : ℕ) → plots_hold t ps ≡ true → StandsAt i p ps
    → p.link ≡ child q table
    → (q < i) × (table < t)
parents_earlier t i p ps q table h s e = and_orders (suc q) i (suc table) t (rw e at (stands_rules t i p ps h s).has_link)

-- The same, as a test of all plots.
pub plots_ordered : (t : ℕ) (ps : List Plot) → plots_hold t ps ≡ true → ordered ps ≡ true
plots_ordered t [] h = refl
plots_ordered t (p ∷ older) h =
    let r = newest_rules t p older h in
    rw (plots_ordered t older r.0) (go p.link r.1.has_link)
  where
    go : (l : Link) → link_holds t (length older) l ≡ true → earlier (length older) l ≡ true
    go root e = refl
    go (child q table) e = and_left (ltb q (length older)) (ltb table t) e

-- No plot has more classes than a plot may have.
pub classes-few : (t : ℕ) (ps : List Plot) → plots_hold t ps ≡ true → every (λ p. leb p.classes max_classes) ps ≡ true
classes-few t [] h = refl
classes-few t (p ∷ older) h =
    let r = newest_rules t p older h in
    rw (le-leb _ _ r.1.few_classes) (classes-few t older r.0)

-- The rules of a network, one by one.
pub record NetworkRules (n : Network) : Type 0 where
  pub few_tables : length n.tables ≤ max_tables
  pub each_table : every is_table n.tables ≡ true
  pub few_plots : length n.plots ≤ max_plots
  pub each_plot : plots_hold (length n.tables) n.plots ≡ true

module _ (n : Network) where
  pub network-rules : network_holds n ≡ true → NetworkRules n
  network-rules h =
      let few = leb (length n.tables) max_tables in
      let a =
      and_three (few && every is_table n.tables) (leb (length n.plots) max_plots) (plots_hold (length n.tables) n.plots) h in
      record {
        few_tables = leb-true _ _ (and_left few (every is_table n.tables) a.0);
        each_table = and_right few (every is_table n.tables) a.0;
        few_plots = leb-true _ _ a.1;
        each_plot = a.2;
      }

  pub rules-network : NetworkRules n → network_holds n ≡ true
  rules-network r = rw (le-leb _ _ r.few_tables, r.each_table, le-leb _ _ r.few_plots) r.each_plot

link_more : (t u i : ℕ) (l : Link) → t ≤ u → link_holds t i l ≡ true → link_holds u i l ≡ true
link_more t u i root m h = h
link_more t u i (child q table) m h =
    let o = and_orders (suc q) i (suc table) t h in
    let l : table < u = omega arith in
    rw (lt-ltb _ _ o.0, lt-ltb _ _ l)

-- More tables leave the rules of the plots kept.
pub plots_more : (t u : ℕ) (ps : List Plot) → t ≤ u → plots_hold t ps ≡ true → plots_hold u ps ≡ true
plots_more t u [] m h = refl
plots_more t u (p ∷ older) m h =
    let r = newest_rules t p older h in
    rules_newest u p older (plots_more t u older m r.0) (search link_more) r.2

-- A plot that stands may be changed to one with the same id that keeps the rules of its position: the rules of all plots stay kept.
pub plots-update : (t i : ℕ) (f : Plot → Plot) (p : Plot) (ps : List Plot) → ((q : Plot) → (f q).id ≡ q.id) → StandsAt i p ps
    → PlotRules t i (f p) → plots_hold t ps ≡ true → plots_hold t (update i f ps) ≡ true
plots-update t i f p [] k s new h = h
plots-update t i f p (q ∷ older) k (inl e) new h =
    let r = newest_rules t q older h in
    rw (eq-eqb i (length older) e.0) (rules_newest t (f q) older r.0 (rw (e.0, e.1) at new) (rw (k q) r.2))
plots-update t i f p (q ∷ older) k (inr s) new h =
    let r = newest_rules t q older h in
    let l : i < length older = stands_below i p older s in
    rw (ne_eqb i (length older) (λ e. omega arith))
    (rules_newest t q (update i f older) (plots-update t i f p older k s new r.0)
    (rw (length-update i f older) r.1) (present-update i f q.id older k ∙ r.2))

-- The rules of a plot as P puts it.
pub new_rules : (t i : ℕ) (id : List ℕ) (link : Link) (k : ℕ) → is_id id ≡ true → link_holds t i link ≡ true → 1 ≤ k → k ≤ max_classes
    → PlotRules t i (new_plot id link k)
new_rules t i id link k d l low high =
    let two : 2 ^ 1 ≤ 2 ^ k = pow-le-pow_right {n = 2} (omega arith) low in
    let some : 1 ≤ 2 ^ k - 1 = omega arith in
    let own : 2 ^ k - 1 < 2 ^ k = omega arith in
    search

-- What leaves the rules of a network kept.
module _ (n : Network) (r : NetworkRules n) where
  -- one table more
  pub table_more : (rows : List ℕ) → length n.tables < max_tables → is_table rows ≡ true
      → NetworkRules (record { tables = n.tables ++ (rows ∷ []); plots = n.plots })
  table_more rows few w =
      let one : length (n.tables ++ (rows ∷ [])) ≡ length n.tables + 1 = length-append n.tables (rows ∷ []) in
      let fits : length (n.tables ++ (rows ∷ [])) ≤ max_tables = omega arith in
      let more : length n.tables ≤ length (n.tables ++ (rows ∷ [])) = omega arith in
      let each : every is_table (n.tables ++ (rows ∷ [])) ≡ true = every_append is_table n.tables (rows ∷ []) ∙ rw (r.each_table, w) in
      search plots_more

  -- one plot more
  pub plot_more : (p : Plot) → length n.plots < max_plots → PlotRules (length n.tables) (length n.plots) p
      → is_present (find p.id n.plots) ≡ false → NetworkRules (record { tables = n.tables; plots = p ∷ n.plots })
  plot_more p few w new = search rules_newest

  -- one plot changed to one with the same id that keeps the rules of its position
  pub plot-changed : (i : ℕ) (f : Plot → Plot) (p : Plot) → ((q : Plot) → (f q).id ≡ q.id) → StandsAt i p n.plots
      → PlotRules (length n.tables) i (f p) → NetworkRules (record { tables = n.tables; plots = update i f n.plots })
  plot-changed i f p k s w =
      let few : length (update i f n.plots) ≤ max_plots = rw length-update r.few_plots in
      search plots-update

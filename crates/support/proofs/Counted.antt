-- The pass up and the path down over counts by position give the supports of a plot.
use Rattle.std.proofs.Common.{◌≡◌, refl, sym, ap, ◌∙◌, Bool, true, false, cond, List, [], ◌++◌, map, ℕ, zero, suc, ◌-◌, ◌<◌, ◌≤◌}
use Rattle.std.proofs.Common.{not-suc-le-zero, arith, length, get_or, set, replicate, length-set, eqb, ltb, get_or-set_same}
use Rattle.std.proofs.Common.{get_or-set_other, eq-eqb, ne_eqb, eqb-true, ltb-false}
use mathlib.Core.Path.{fun_ext}
use native.Mathlib.Decide.{ℕ_discrete}
use lib.ListN.{length-replicate}
use Rattle.semantics.specs.Basics.{row_of}
use Rattle.semantics.specs.Limits.{max_classes, max_plots}
use Rattle.semantics.specs.Network.{Link, root, child, allows, row}
use Rattle.semantics.specs.Solutions.{support, supports}
use Rattle.semantics.specs.Rules.{link_holds, network_holds}
use Rattle.semantics.specs.Messages.{held_times, held_contribution}
use Rattle.semantics.proofs.Listing.{class_count}
use Rattle.semantics.proofs.Rows.{row_cong, row-over, folded_rows}
use Rattle.semantics.proofs.Supports.{held_above, held_total, held_shares, own_row, support_past}
use Rattle.semantics.proofs.Passes.{supports_passes}
use Rattle.network.specs.declared.Network.{Network}
use Rattle.stored.specs.Values.{table_at, link_at, classes_at}
use Rattle.network.specs.View.{plot_at, plots_of, view}
use Rattle.network.proofs.Views.{length-plots}
use Rattle.network.proofs.Standing.{few-plots, rules-at, child-below}
use Rattle.messages.specs.Rows.{filled, newest_first, own_rows}
use Rattle.messages.specs.Pass.{sent_up, sent, gathered}
use Rattle.messages.proofs.Filling.{replicate_any, fill_done, filled_upto}
use Rattle.network.proofs.Reach.{rows_seen, parents_back}
use Rattle.messages.proofs.Pass.{gathered_above, sent_long}
use Rattle.messages.proofs.Newest.{newest_folded}
use Rattle.messages.proofs.Own.{own_newest, own_long}
use Rattle.counts.specs.HeldRows.{counts_up, counts_down, products, own_counts}
use Rattle.support.specs.Paths.{folded_counts, leads_to, marked, path_to}

-- what comes from above a plot, by the rows of its table: nothing bounds a root
abbrev pub from_above : Link → List ℕ → List ℕ → List ℕ
from_above root counts rows = replicate max_classes 1
from_above (child parent table) counts rows = counts_down counts rows table

module _ (n : Network) where
  -- equations 1 and 3, and 4 away from the root: what a plot of the path makes of the counts that come down to it
  abbrev passed_down : List Bool → List (List ℕ) → ℕ → List ℕ → List ℕ
  passed_down path rows j counts =
      cond (get_or path j false)
      (products (get_or rows j []) (from_above (link_at n.parents n.through j) counts n.rows) (classes_at n.classes j)) counts

  -- the counts that come down the path, past the first j plots
  abbrev pub descended : List Bool → List (List ℕ) → ℕ → List ℕ
  descended path rows zero = replicate max_classes 0
  descended path rows (suc j) = passed_down path rows j (descended path rows j)

  -- one pass up and one path down
  abbrev pub counts_of : ℕ → List ℕ
  counts_of i =
      let path = path_to n i in
      descended path (gathered folded_counts counts_up n path n.plots (own_rows own_counts n)) n.plots

-- what is marked at a position or past it stays
module _ (n : Network) where
  abbrev onward : ℕ → List Bool → List Bool
  onward j path = marked n j (leads_to (link_at n.parents n.through j) j) (set path j true)

  marked_above : (j at : ℕ) (path : List Bool) (x : ℕ) → j ≤ x → get_or (marked n j at path) x false ≡ get_or path x false
  marked_above zero at path x h = refl
  marked_above (suc j) at path x h =
      go (eqb j at) (marked_above j (leads_to (link_at n.parents n.through j) j) (set path j true) x (omega arith))
      (marked_above j at path x (omega arith))
    where
      go : (b : Bool) → get_or (onward j path) x false ≡ get_or (set path j true) x false
          → get_or (marked n j at path) x false ≡ get_or path x false
          → get_or (cond b (onward j path) (marked n j at path)) x false ≡ get_or path x false
      go true e f = e ∙ get_or-set_other path j x true false (λ z. omega arith)
      go false e f = f

-- what a row becomes once a message is folded into it, value by value
folded_row : (counts sender rows : List ℕ) (table k : ℕ)
    → folded_counts counts (counts_up sender rows table k)
    ≡ row_of max_classes (λ c. held_times (get_or counts c 0) (held_contribution sender k (allows (get_or (table_at rows table) c 0))))
unfolding products counts_up
folded_row counts sender rows table k = general max_classes
  where
    general : (m : ℕ)
        → filled 0 m
        (λ c. held_times (get_or counts c 0) (get_or (row_of m (λ b. held_contribution sender k (allows (get_or (table_at rows table) b 0)))) c 0)) m
        ≡ row_of m (λ c. held_times (get_or counts c 0) (held_contribution sender k (allows (get_or (table_at rows table) c 0))))
    general m =
        fill_done 0 m _ m (omega arith)
        ∙ row-over m (λ c. held_times (get_or counts c 0)) (λ b. held_contribution sender k (allows (get_or (table_at rows table) b 0))) 0

-- products with a row of values from above, one by one and zero past k
products-row : (own : List ℕ) (above : ℕ → ℕ) (k : ℕ) → k ≤ max_classes
    → products own (row_of max_classes above) k
    ≡ row_of max_classes (λ c. cond (ltb c k) (held_times (get_or own c 0) (get_or (row_of max_classes above) c 0)) 0)
unfolding products
products-row own above k h = filled_upto 0 max_classes _ k h

-- the message of a parent, value by value
to-child-row : (tables : List (List ℕ)) (counts rows : List ℕ) (table : ℕ) → ((b : ℕ) → row tables table b ≡ get_or (table_at rows table) b 0)
    → counts_down counts rows table ≡ row_of max_classes (λ c. held_contribution counts max_classes (λ b. allows (row tables table b) c))
unfolding counts_down
to-child-row tables counts rows table e =
    ap (λ f. row_of max_classes (λ c. held_contribution counts max_classes (λ b. allows (f b) c))) (sym (fun_ext e))

-- nothing bounds a root
ones : ◌≡◌ {A = List ℕ} (replicate max_classes 1) (row_of max_classes (λ c. 1))
ones = refl

-- rows of counts are read as they are
abbrev rows_newest : List (List ℕ) → ℕ → List (List ℕ)
rows_newest = newest_first (λ r. r)

module _ (n : Network) (h : network_holds (view n) ≡ true) where
  abbrev link : ℕ → Link
  link = link_at n.parents n.through

  abbrev marking : ℕ → ℕ → List Bool → List Bool
  marking = marked n

  abbrev k : ℕ → ℕ
  k j = (plot_at n j).classes

  -- only the first plot is a root
  root-first : (j : ℕ) → j < n.plots → link j ≡ root → j ≡ 0
  root-first j l e = eqb-true j 0 (ap (link_holds n.tables j) (sym e) ∙ (rules-at n h j l).has_link)

  abbrev shares_to : List (List ℕ) → ℕ → ℕ → List ℕ
  shares_to rows j at = held_shares (view n).tables max_classes 1 (rows_newest rows j) (plots_of n j) at

  abbrev counts_to : List Bool → List (List ℕ) → ℕ → List ℕ
  counts_to path rows j = descended n path (gathered folded_counts counts_up n path j rows) j

  module _ (rows : List (List ℕ)) (j : ℕ) (l : j < n.plots) where
    -- the newest plot's row is left standing or sent; then come those of the others
    newest : (path : List Bool) (r : List (List ℕ)) → sent folded_counts counts_up n path j rows ≡ r
        → counts_to path rows (suc j) ≡ passed_down n path (gathered folded_counts counts_up n path j r) j (counts_to path r j)
    newest path r e = ap (λ x. passed_down n path (gathered folded_counts counts_up n path j x) j (counts_to path x j)) e

    -- on the path: the plot is left standing, and the counts that come down pass it
    on_path : (path : List Bool) → get_or path j false ≡ true
        → counts_to path rows (suc j) ≡ products (get_or rows j []) (from_above (link j) (counts_to path rows j) n.rows) (k j)
    on_path path m =
        newest path rows (rw m)
        ∙ rw m
        (ap (λ r. products r (from_above (link j) (counts_to path rows j) n.rows) (k j))
        (gathered_above folded_counts counts_up n path j (parents_back n h j (omega arith)) rows j (omega arith)))

    -- beside it: the plot sends its message up, and the counts that come down leave it out
    abbrev rows_sent : ℕ → ℕ → List (List ℕ)
    rows_sent parent table = sent_up folded_counts counts_up n (child parent table) j rows

    beside_path : (path : List Bool) (parent table : ℕ) → get_or path j false ≡ false → link j ≡ child parent table
        → counts_to path rows (suc j) ≡ counts_to path (rows_sent parent table) j
    beside_path path parent table m e = newest path (rows_sent parent table) (rw (m, e)) ∙ rw m

    after_newest : (parent table : ℕ) → link j ≡ child parent table → j ≤ length rows
        → rows_newest (rows_sent parent table) j
        ≡ folded_rows held_times 0 max_classes parent (λ b. held_contribution (get_or rows j []) (k j) (allows (row (view n).tables table b)))
        (rows_newest rows j)
    after_newest parent table e long =
        let b = child-below n h j parent table l e in
        newest_folded (λ r. r) held_times 0 max_classes parent
        (λ b. held_contribution (get_or rows j []) (k j) (allows (row (view n).tables table b))) rows
        (folded_counts (get_or rows parent []) (counts_up (get_or rows j []) n.rows table (k j)))
        (folded_row (get_or rows parent []) (get_or rows j []) n.rows table (k j)
        ∙ ap
        (λ f. row_of max_classes (λ c. held_times (get_or (get_or rows parent []) c 0) (held_contribution (get_or rows j []) (k j) (allows (f c)))))
        (sym (fun_ext (rows_seen n table b.1))))
        j b.0 long

    -- the same two cases of the law's recursion
    shares_here : shares_to rows (suc j) j
        ≡ row_of max_classes
        (λ c.
        cond (ltb c (k j))
        (held_times (get_or (get_or rows j []) c 0)
        (get_or
        (held_above (view n).tables max_classes (link j) (held_total (view n).tables max_classes 1 (rows_newest rows j) (plots_of n j))
        (shares_to rows j)) c 0))
        0)
    shares_here = rw (length-plots n j, eq-eqb j j refl)

    shares_older : (at parent table : ℕ) → (at ≡ j → ⊥) → link j ≡ child parent table → j ≤ length rows
        → shares_to rows (suc j) at ≡ shares_to (rows_sent parent table) j at
    shares_older at parent table d e long =
        rw (length-plots n j, ne_eqb at j d, e, after_newest parent table e long)

  abbrev Clear : ℕ → List Bool → Type 0
  Clear j path = (x : ℕ) → x < j → get_or path x false ≡ false

  -- The counts that come down the path to a plot are its shares, as the laws have them.
  abbrev Descends : ℕ → Type 0
  Descends j = (rows : List (List ℕ)) (at : ℕ) (path : List Bool) → j ≤ length rows → at < j → j ≤ length path → Clear j path
      → counts_to (marking j at path) rows j ≡ shares_to rows j at

  module _ (j : ℕ) (l : j < n.plots) (ih : Descends j) (rows : List (List ℕ)) (path : List Bool)
      (long : suc j ≤ length rows) (wide : suc j ≤ length path) (clear : Clear (suc j) path) where
    marked_here : (at : ℕ) → get_or (marking j at (set path j true)) j false ≡ true
    marked_here at = marked_above n j at (set path j true) j (omega arith) ∙ get_or-set_same path j true false wide

    clear_here : Clear j (set path j true)
    clear_here x m = get_or-set_other path j x true false (λ z. omega arith) ∙ clear x (omega arith)

    few : k j ≤ max_classes
    few = (rules-at n h j l).few_classes

    abbrev own : List ℕ
    own = get_or rows j []

    -- the plot's own counts times those that come from above
    abbrev met : List ℕ → List ℕ
    met above = row_of max_classes (λ c. cond (ltb c (k j)) (held_times (get_or own c 0) (get_or above c 0)) 0)

    abbrev whole : ℕ
    whole = held_total (view n).tables max_classes 1 (rows_newest rows j) (plots_of n j)

    -- no plot is older than the root
    whole_one : j ≡ 0 → whole ≡ 1
    whole_one z = rw z

    -- a plot of the path, below its parent or as the root
    through : (above : Link) → link j ≡ above
        → counts_to (marking j (leads_to above j) (set path j true)) rows (suc j) ≡ shares_to rows (suc j) j
    through root e =
        let marks = marking j j (set path j true) in
        on_path rows j l marks (marked_here j)
        ∙ ap (λ x. products own x (k j)) (ap (λ u. from_above u (counts_to marks rows j) n.rows) e ∙ ones)
        ∙ products-row own (λ c. 1) (k j) few
        ∙ sym
        (shares_here rows j l
        ∙ ap met
        (ap (λ u. held_above (view n).tables max_classes u whole (shares_to rows j)) e
        ∙ ap (λ w. row_of max_classes (λ c. w)) (whole_one (root-first j l e))))
    through (child parent table) e =
        let marks = marking j parent (set path j true) in
        let b = child-below n h j parent table l e in
        on_path rows j l marks (marked_here parent)
        ∙ ap (λ x. products own x (k j))
        (ap (λ u. from_above u (counts_to marks rows j) n.rows) e
        ∙ ap (λ x. counts_down x n.rows table)
        (ih rows parent (set path j true) (omega arith) b.0 (rw (length-set path j true) (omega arith)) clear_here)
        ∙ to-child-row (view n).tables (shares_to rows j parent) n.rows table (rows_seen n table b.1))
        ∙ products-row own (λ c. held_contribution (shares_to rows j parent) max_classes (λ d. allows (row (view n).tables table d) c))
        (k j) few
        ∙ sym (shares_here rows j l ∙ ap met (ap (λ u. held_above (view n).tables max_classes u whole (shares_to rows j)) e))

    -- a plot beside the path
    past : (at : ℕ) → at < j → (above : Link) → link j ≡ above → counts_to (marking j at path) rows (suc j) ≡ shares_to rows (suc j) at
    past at b root e = absurd (omega (arith, root-first j l e))
    past at b (child parent table) e =
        beside_path rows j l (marking j at path) parent table
        (marked_above n j at path j (omega arith) ∙ clear j (omega arith)) e
        ∙ ih (rows_sent rows j l parent table) at path (sent_long folded_counts counts_up n rows j parent table (omega arith)) b (omega arith)
        (λ x m. clear x (omega arith))
        ∙ sym (shares_older rows j l at parent table (λ z. omega arith) e (omega arith))

  descends : (j : ℕ) → j ≤ n.plots → Descends j
  descends zero l rows at path long b wide clear = absurd (not-suc-le-zero b)
  descends (suc j) l rows at path long b wide clear =
      elim (ℕ_discrete at j) [ yes e ↦ here e (descends j (omega arith)) | no d ↦ other d (descends j (omega arith)) ]
    where
      here : at ≡ j → Descends j → counts_to (marking (suc j) at path) rows (suc j) ≡ shares_to rows (suc j) at
      here e ih =
          ap (λ p. counts_to p rows (suc j)) (rw (e, eq-eqb j j refl))
          ∙ through j l ih rows path long wide clear (link j) refl
          ∙ ap (shares_to rows (suc j)) (sym e)

      other : (at ≡ j → ⊥) → Descends j → counts_to (marking (suc j) at path) rows (suc j) ≡ shares_to rows (suc j) at
      other d ih =
          ap (λ p. counts_to p rows (suc j)) (rw (ne_eqb j at (λ z. d (sym z))))
          ∙ past j l ih rows path long wide clear at (omega arith) (link j) refl

  -- the rows that the pass starts from are those of the law
  starts : rows_newest (own_rows own_counts n) n.plots ≡ map (own_row max_classes) (plots_of n n.plots)
  unfolding own_counts
  starts = own_newest own_counts n (λ r. r) (own_row max_classes) (λ i. refl)

  -- no mark at first
  unmarked : (x : ℕ) → get_or (replicate max_plots false) x false ≡ false
  unmarked x = replicate_any (λ b. b ≡ false) false false max_plots x refl refl

  -- One pass up and one path down give the first eight supports of a plot.
  counts_row : (i : ℕ) → i < n.plots → counts_of n i ≡ row_of max_classes (support (view n) i)
  unfolding path_to
  counts_row i l =
      descends n.plots (omega arith) (own_rows own_counts n) i (replicate max_plots false) (own_long own_counts n (few-plots n h)) l
      (omega (arith, few-plots n h, length-replicate max_plots false)) (λ x m. unmarked x)
      ∙ ap (λ rs. held_shares (view n).tables max_classes 1 rs (plots_of n n.plots) i) starts
      ∙ supports_passes (view n) h i (rw (length-plots n n.plots) l)

  -- a plot of the view has the classes that are stored
  classes-seen : (m i : ℕ) → i < m → class_count (plots_of n m) i ≡ k i
  classes-seen zero i l = absurd (not-suc-le-zero l)
  classes-seen (suc m) i l =
      rw (length-plots n m) (elim (ℕ_discrete i m) [ yes e ↦ here e | no d ↦ rw (ne_eqb i m d) (classes-seen m i (omega arith)) ])
    where
      here : i ≡ m → cond (eqb i m) (k m) (class_count (plots_of n m) i) ≡ k i
      here e = rw (eq-eqb i m e, e)

  -- The supports of a plot's classes, then zeros.
  pub counts_supports : (i : ℕ) → i < n.plots → counts_of n i ≡ supports (view n) i (plot_at n i) ++ replicate (max_classes - k i) 0
  counts_supports i l =
      counts_row i l
      ∙ row_cong max_classes _ _ (λ c b. upto c (ltb c (k i)) refl)
      ∙ sym (filled_upto 0 max_classes (support (view n) i) (k i) (rules-at n h i l).few_classes)
    where
      upto : (c : ℕ) (t : Bool) → ltb c (k i) ≡ t → support (view n) i c ≡ cond t (support (view n) i c) 0
      upto c true e = refl
      upto c false e =
          support_past (view n) i c (rw (length-plots n n.plots) l) (rw (classes-seen n.plots i l) (ltb-false c (k i) e))

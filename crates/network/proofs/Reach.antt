-- What a loop over the plots of a network that keeps the rules may rely on: links lead to places of the arrays, and no plot has more
-- classes than it may have.
use Rattle.std.proofs.Common.{Option, Some, ◌≡◌, refl, sym, ap, ◌∙◌, true, ◌&&◌, ℕ, ◌*◌, ◌<◌, ◌≤◌, mul-le-mul, arith, get_or, ltb}
use Rattle.std.proofs.Common.{Fits, w64, lt-ltb, ltb-true}
use Rattle.semantics.specs.Limits.{max_tables, max_plots, max_classes}
use Rattle.semantics.specs.Network.{Link, root, child, row}
use Rattle.semantics.specs.Rules.{network_holds}
use Rattle.semantics.proofs.Lists.{and_left, and_right}
use Rattle.network.specs.declared.Network.{Network}
use Rattle.stored.specs.declared.Link as code
use Rattle.stored.specs.Values.{as_link, table_at, link_at, classes_at}
use Rattle.network.specs.View.{view}
use Rattle.network.proofs.Views.{row-view}
use Rattle.network.proofs.Standing.{few-plots, few-tables, rules-at, child-below}
use Rattle.network.specs.Reach.{in_arrays}

-- where an element of a size begins in an array of few, in bytes
pub far : (few i size : ℕ) → i < few → few ≤ max_plots → size ≤ max_plots → Fits w64 (i * size)
far few i size l h k =
    let p : i * size ≤ max_plots * max_plots = mul-le-mul {n₁ = i} {m₁ = size} {n₂ = max_plots} {m₂ = max_plots} (omega arith) k in
    omega arith

-- a link that names places names those of its parent and its table
module _ (link : Option code.Link) (above : code.Link) (h : in_arrays (as_link link) ≡ true) (e : link ≡ Some above) where
  both : (ltb above.parent max_plots && ltb above.table max_tables) ≡ true
  both = ap (λ u. in_arrays (as_link u)) (sym e) ∙ h

  pub parent_within : above.parent < max_plots
  parent_within = ltb-true above.parent max_plots (and_left (ltb above.parent max_plots) (ltb above.table max_tables) both)

  pub table_within : above.table < max_tables
  table_within = ltb-true above.table max_tables (and_right (ltb above.parent max_plots) (ltb above.table max_tables) both)

-- the rows of a table that stands are those that are stored
pub rows_seen : (n : Network) (table : ℕ) → table < n.tables → (c : ℕ) → row (view n).tables table c ≡ get_or (table_at n.rows table) c 0
rows_seen n table l c = row-view n.rows n.tables table c l

module _ (n : Network) (h : network_holds (view n) ≡ true) where
  pub links_in_arrays : (i : ℕ) → i < n.plots → in_arrays (link_at n.parents n.through i) ≡ true
  links_in_arrays i l = go (link_at n.parents n.through i) refl
    where
      go : (u : Link) → link_at n.parents n.through i ≡ u → in_arrays u ≡ true
      go root q = refl
      go (child parent table) q =
          let b = child-below n h i parent table l q in
          rw (
            lt-ltb parent max_plots (omega (arith, b.0, few-plots n h)),
            lt-ltb table max_tables (omega (arith, b.1, few-tables n h)),
          )

  -- the plots that stand have at most eight classes
  pub few-classes : (i k : ℕ) → i < n.plots → k ≡ classes_at n.classes i → k ≤ max_classes
  few-classes i k l e = rw e (rules-at n h i l).few_classes

  -- a parent is older than its child
  pub parents_back : (j : ℕ) → j ≤ n.plots → (i parent table : ℕ) → i < j → link_at n.parents n.through i ≡ child parent table
      → parent < i
  parents_back j l i parent table m e = (child-below n h i parent table (omega arith) e).0

  -- the link of a plot that stands leads to places of the arrays
  module _ (i : ℕ) (l : i < n.plots) (link : Option code.Link) (e : as_link link ≡ link_at n.parents n.through i) where
    pub link_reaches : in_arrays (as_link link) ≡ true
    link_reaches = rw e (links_in_arrays i l)

    pub parent_reached : (above : code.Link) → link ≡ Some above → above.parent < max_plots
    parent_reached above q = parent_within link above link_reaches q

    pub table_reached : (above : code.Link) → link ≡ Some above → above.table < max_tables
    table_reached above q = table_within link above link_reaches q

-- What stands in a sound state is within the arrays, and what its bytes say is low.
use mathlib.Core.Path.{◌≡◌, sym}
use Prim.Native.Nat.{ℕ, ◌<◌}
use native.Mathlib.Omega.{arith}
use borrow.Author.Tests.{ltb-true}
use Rattle.semantics.specs.Limits.{max_tables, max_plots, max_classes}
use Rattle.semantics.specs.Network.{child, class}
use Rattle.stored.specs.Values.{link_at, label_at}
use Rattle.network.specs.declared.sound.Sound.{Sound}
use Rattle.network.proofs.Standing.{few-plots, few-tables, rules-at, child-below}

module _ (s : Sound) where
  -- a table's number and a plot's position
  pub table_within : (t : ℕ) → t < s.network.tables → t < max_tables
  table_within t h = omega (arith, few-tables s.network s.network_rules)

  pub plot_within : (i : ℕ) → i < s.network.plots → i < max_plots
  plot_within i h = omega (arith, few-plots s.network s.network_rules)

  module _ (i : ℕ) (h : i < s.network.plots) where
    -- the class of a label
    pub label_low : (c : ℕ) → class c ≡ label_at s.network.labels i → c < max_classes
    label_low c e =
        let rules = rules-at s.network s.network_rules i h in
        omega (arith, rules.few_classes, ltb-true c _ (rw (← e) at rules.has_label))

    -- the parent of a plot stands before it, and the table between them stands
    pub parent_before : (parent table : ℕ) → child parent table ≡ link_at s.network.parents s.network.through i → parent < i
    parent_before parent table e = (child-below s.network s.network_rules i parent table h (sym e)).0

    pub parent_within : (parent table : ℕ) → child parent table ≡ link_at s.network.parents s.network.through i → parent < max_plots
    parent_within parent table e = omega (arith, parent_before parent table e, plot_within i h)

    pub table_low : (parent table : ℕ) → child parent table ≡ link_at s.network.parents s.network.through i → table < max_tables
    table_low parent table e =
        table_within table (child-below s.network s.network_rules i parent table h (sym e)).1

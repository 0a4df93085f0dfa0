-- A drawn network keeps the rules of the book, whatever the start (02: U3).
use Rattle.std.proofs.Common.{◌≡◌, refl, sym, ap, ◌∙◌, true, false, [], ◌∷◌, ℕ, zero, suc, ◌≤◌, ◌<◌, arith}
use Rattle.std.proofs.Common.{length, length-append, leb, lt-ltb, le-leb}
use Rattle.semantics.specs.Basics.{every, same}
use Rattle.semantics.specs.Limits.{max_plots, max_mask, max_id_bytes, table_rows}
use Rattle.semantics.specs.Text.{is_id, value, value_of, number, decimal}
use Rattle.semantics.specs.Network.{find, is_present}
use Rattle.semantics.specs.Rules.{is_table, link_holds, plots_hold, network_holds}
use Rattle.semantics.specs.Drawing.{draw, after_steps, rows_drawn, link_drawn, after_link, id_drawn, plot_drawn, after_plots, plots_drawn}
use Rattle.semantics.specs.Drawing.{network_drawn}
use Rattle.semantics.proofs.Lists.{every_append, not_passed, same_true}
use Rattle.semantics.proofs.Decimals.{length-below, number-decimal}
use Rattle.semantics.proofs.ReadBack.{decimal_words}
use Rattle.semantics.proofs.Places.{present_cons}
use Rattle.semantics.proofs.Rules.{PlotRules, rules_newest, rules-network}

-- a draw is below its bound
pub draw-below : (n v : ℕ) → 0 < n → draw n v < n
draw-below n v h = omega arith

-- there are as many rows as are drawn, and each is a mask
pub length-rows : (i v : ℕ) → length (rows_drawn i v) ≡ i
length-rows zero v = refl
length-rows (suc i) v = omega (arith, length-append (rows_drawn i v) (draw 256 (after_steps i v) ∷ []), length-rows i v)

masks_drawn : (i v : ℕ) → every (λ r. leb r max_mask) (rows_drawn i v) ≡ true
masks_drawn zero v = refl
masks_drawn (suc i) v =
    let low : draw 256 (after_steps i v) ≤ max_mask = omega (arith, draw-below 256 (after_steps i v) (omega arith)) in
    every_append (λ r. leb r max_mask) (rows_drawn i v) (draw 256 (after_steps i v) ∷ [])
    ∙ rw (masks_drawn i v, le-leb (draw 256 (after_steps i v)) max_mask low)

pub table-drawn : (v : ℕ) → is_table (rows_drawn table_rows v) ≡ true
table-drawn v = masks_drawn table_rows v

-- an id is well formed, and another position has another
pub id-drawn : (i : ℕ) → i < 1000 → is_id (id_drawn i) ≡ true
id-drawn i h =
    let short : length (id_drawn i) ≤ max_id_bytes = omega (arith, length-below 2 i h) in
    rw (le-leb 1 (length (id_drawn i)) (omega arith), le-leb (length (id_drawn i)) max_id_bytes short, decimal_words i)

ids_differ : (i j : ℕ) → j < i → i < 1000 → same (id_drawn i) (id_drawn j) ≡ false
ids_differ i j l h =
    not_passed (same (id_drawn i) (id_drawn j)) λ e.
    let digits : decimal i ≡ decimal j = same_true (decimal i) (decimal j) e in
    let values : value i ≡ value j = sym (number-decimal i h) ∙ ap number digits ∙ number-decimal j (omega arith) in
    let z : i ≡ j = ap value_of values in
    omega arith

-- no earlier plot has the id of a later one
id_new : (i m v : ℕ) → m ≤ i → i < 1000 → is_present (find (id_drawn i) (plots_drawn m v)) ≡ false
id_new i zero v l h = refl
id_new i (suc m) v l h =
    present_cons (id_drawn i) (plot_drawn m (after_plots m v)) (plots_drawn m v)
    ∙ rw (ids_differ i m (omega arith) h, id_new i m v (omega arith) h)

pub length-drawn : (m v : ℕ) → length (plots_drawn m v) ≡ m
length-drawn zero v = refl
length-drawn (suc m) v = ap suc (length-drawn m v)

-- the link of a plot leads to an earlier one, through the only table
pub link_drawn_holds : (i v : ℕ) → link_holds 1 i (link_drawn i v) ≡ true
link_drawn_holds zero v = refl
link_drawn_holds (suc i) v = rw (lt-ltb (draw (suc i) v) (suc i) (draw-below (suc i) v (omega arith)))

-- each plot keeps the rules of its position: some class of eight is possible, all of them at most, and the label is one of eight
plot_rules : (i v : ℕ) → i < 1000 → PlotRules 1 i (plot_drawn i v)
plot_rules i v h =
    let w = after_link i v in
    record {
      has_id = id-drawn i h;
      has_link = link_drawn_holds i v;
      some_class = omega arith;
      few_classes = omega arith;
      some_domain = omega arith;
      own_classes = omega (arith, draw-below 255 (after_steps 1 w) (omega arith));
      has_label = lt-ltb (draw 8 w) 8 (draw-below 8 w (omega arith));
    }

plots_rules : (m v : ℕ) → m < 1000 → plots_hold 1 (plots_drawn m v) ≡ true
plots_rules zero v h = refl
plots_rules (suc m) v h =
    rules_newest 1 (plot_drawn m (after_plots m v)) (plots_drawn m v) (plots_rules m v (omega arith))
    (rw (length-drawn m v) (plot_rules m (after_plots m v) (omega arith))) (id_new m m v (omega arith) (omega arith))

-- The drawn network keeps the rules.
pub network-drawn : (start plots : ℕ) → plots ≤ max_plots → network_holds (network_drawn start plots) ≡ true
network-drawn start plots h =
    let v = after_steps table_rows start in
    rules-network (network_drawn start plots)
    (record {
      few_tables = omega arith;
      each_table = rw (table-drawn start) refl;
      few_plots = omega (arith, length-drawn plots v);
      each_plot = plots_rules plots v (omega arith);
    })

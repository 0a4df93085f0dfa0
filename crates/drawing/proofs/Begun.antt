-- A network that is being drawn, plot by plot.
use Rattle.std.proofs.Common.{◌≡◌, refl, sym, ap, ◌∙◌, [], ◌∷◌, ◌++◌, ◌+◌, ◌*◌, ◌≤◌, ℕ, List, add-one, suc, ap₂, length, arith}
use Rattle.std.proofs.lemmas.List.{length-replicate}
use Rattle.semantics.specs.Limits.{max_tables, table_rows}
use Rattle.semantics.specs.Network as book
use Rattle.semantics.specs.Network.{Plot}
use Rattle.semantics.specs.Notes.{Notes}
use Rattle.semantics.specs.Engine as model
use Rattle.semantics.specs.Drawing.{after_steps, rows_drawn, plot_drawn, after_plot, after_plots, plots_drawn, network_drawn}
use Rattle.semantics.proofs.Drawn.{length-drawn, table-drawn}
use Rattle.network.specs.declared.Network.{Network}
use Rattle.network.specs.declared.State.{State}
use Rattle.network.specs.View.{view, view_state}
use Rattle.network.specs.Unused.{ZeroRun}
use Rattle.network.proofs.Views.{length-plots, length-tables}
use Rattle.editing.specs.Edits.{table_stored}
use Rattle.editing.proofs.Edited.{table_seen}
use Rattle.drawing.specs.Drawn.{DrawsPlot, with_drawn}

-- so many plots are drawn from a start, and the generator's state is w
pub record Begun (start i : ℕ) (s : State) (w : ℕ) : Type 0 where
  pub seen : view_state s ≡ with_drawn start i
  pub at : w ≡ after_plots i (after_steps table_rows start)

-- a network by its two parts, and a state by its two
abbrev network_of : List (List ℕ) → List Plot → book.Network
network_of ts ps = record { tables = ts; plots = ps }

abbrev with_notes : book.Network → Notes → model.State
with_notes n k = record { network = n; notes = k }

-- with the table, none is drawn yet
pub table_put : (start v w : ℕ) (e : State) (rows : List ℕ) (n : Network) → v ≡ start → ZeroRun e → rows ≡ rows_drawn table_rows v
    → w ≡ after_steps table_rows v → n ≡ table_stored e.network rows → Begun start 0 (record { network = n; notes = e.notes }) w
table_put start v w e rows n p z q r t =
    let none : e.network.tables ≡ 0 = ap (λ (x : State). x.network.tables) z.whole in
    let long : length e.network.rows ≡ max_tables * table_rows =
    ap (λ (x : State). length x.network.rows) z.whole ∙ length-replicate {A = ℕ} (max_tables * table_rows) 0 in
    let drawn : rows ≡ rows_drawn table_rows start = q ∙ ap (rows_drawn table_rows) p in
    let put : view n ≡ record { tables = (view e.network).tables ++ (rows ∷ []); plots = (view e.network).plots } =
    ap view t ∙ table_seen e.network rows (omega arith) long (rw drawn (table-drawn start)) in
    let all : record { tables = (view e.network).tables ++ (rows ∷ []); plots = (view e.network).plots } ≡ network_drawn start 0 =
    ap (λ (m : model.State). record { tables = m.network.tables ++ (rows ∷ []); plots = m.network.plots }) z.seen ∙ rw drawn refl in
    record {
      seen = ap₂ with_notes (put ∙ all) (ap (λ (m : model.State). m.notes) z.seen);
      at = r ∙ ap (after_steps table_rows) p;
    }

module _ (start i w : ℕ) (s : State) (f : Begun start i s w) where
  pub plots-begun : s.network.plots ≡ i
  plots-begun =
      sym (length-plots s.network s.network.plots)
      ∙ ap (λ (m : model.State). length m.network.plots) f.seen ∙ length-drawn i (after_steps table_rows start)

  pub tables-begun : s.network.tables ≡ 1
  tables-begun =
      sym (length-tables s.network.rows s.network.tables) ∙ ap (λ (m : model.State). length m.network.tables) f.seen

  -- and then one more
  pub one_more : (n : Network) (z : ℕ) → DrawsPlot s.network w n z → Begun start (i + 1) (record { network = n; notes = s.notes }) z
  one_more n z d =
      let tables : (view s.network).tables ≡ rows_drawn table_rows start ∷ [] = ap (λ (m : model.State). m.network.tables) f.seen in
      let plots : (view s.network).plots ≡ plots_drawn i (after_steps table_rows start) = ap (λ (m : model.State). m.network.plots) f.seen in
      let newest : plot_drawn s.network.plots w ≡ plot_drawn i (after_plots i (after_steps table_rows start)) =
      ap₂ plot_drawn plots-begun f.at in
      let all : view n ≡ network_drawn start (suc i) = d.network ∙ ap₂ network_of tables (ap₂ (λ p ps. p ∷ ps) newest plots) in
      record {
        seen = rw add-one (ap₂ with_notes all (ap (λ (m : model.State). m.notes) f.seen));
        at = rw add-one (d.state ∙ ap₂ after_plot plots-begun f.at);
      }

  pub all_drawn : (plots : ℕ) → plots ≤ i → i ≤ plots → view_state s ≡ with_drawn start plots
  all_drawn plots low high = let z : i ≡ plots = omega arith in rw z at f.seen

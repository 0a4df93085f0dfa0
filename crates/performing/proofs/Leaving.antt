-- The struct that a line leaves stands for the state that the definitions say.
use Rattle.std.proofs.Common.{Option, None, ◌≡◌, refl, ap, ◌∙◌, Bool, true, false, List, ◌∷◌, ℕ, ◌<◌, length, leb-false}
use Rattle.semantics.specs.Limits.{max_tables, max_plots}
use Rattle.semantics.specs.Text.{is_id}
use Rattle.semantics.specs.Network as model
use Rattle.semantics.specs.Network.{Label, Place, absent, present, find, is_present}
use Rattle.semantics.specs.Relabelling.{Best, none, best, relabelling}
use Rattle.semantics.specs.Rules.{network_holds}
use Rattle.semantics.specs.Protocol as line
use Rattle.semantics.specs.Protocol.{Line, WellRead, nobody, named, malformed_line, add_table, add_plot, set_domain, set_label, ask_relabelling}
use Rattle.semantics.specs.Protocol.{ask_supports, from_scanner}
use Rattle.semantics.specs.Engine as engine
use Rattle.semantics.specs.Engine.{Done, refuse_if, perform, state_after, tables_full, plots_full, some_stand}
use Rattle.semantics.specs.Engine.{lacks_table, lacks_one_of, lacks, add_child, add_below, with_domain_at, with_label_at, relabel_by, supports_at}
use Rattle.semantics.proofs.Places.{found}
use Rattle.text.specs.Ids.{padded, packed}
use Rattle.text.proofs.Ids.{slot-packed, trimmed-padded}
use Rattle.notes.specs.Views.{as_notes}
use Rattle.stored.specs.declared.Link.{Link}
use Rattle.stored.specs.Values.{below, as_link, as_label, to_label, label_byte}
use Rattle.network.specs.declared.Network.{Network}
use Rattle.network.specs.declared.State.{State}
use Rattle.network.specs.View.{view, view_state, Lengths}
use Rattle.network.proofs.Views.{length-plots, length-tables}
use Rattle.network.proofs.Standing.{few-plots}
use Rattle.editing.specs.Edits.{table_stored, plot_stored, domain_stored, label_stored}
use Rattle.editing.proofs.Edited.{domain-seen, label-seen, table_seen, plot-seen}
use Rattle.performing.specs.Performed.{with_network, struct_after}

-- a refusal leaves everything, so only what is left behind it counts
unless : (s : State) (l : Line) (b : Bool) (m : ℕ) (x : Done)
    → (b ≡ false → view_state (struct_after s l x) ≡ state_after (view_state s) x)
    → view_state (struct_after s l (refuse_if b m x)) ≡ state_after (view_state s) (refuse_if b m x)
unless s l true m x h = refl
unless s l false m x h = h refl

-- a label of the definitions, as the code has it, and back
as_to : (l : Label) → as_label (to_label l) ≡ l
as_to model.unlabelled = refl
as_to (model.class c) = refl

module _ (s : State) (long : Lengths s.network) (h : network_holds (view s.network) ≡ true) where
  abbrev n : Network
  n = s.network

  abbrev v : engine.State
  v = view_state s

  -- another network leaves what is kept beside it
  beside_it : (k : Network) {m : model.Network} → view k ≡ m
      → view_state (with_network s k) ≡ record { network = m; notes = as_notes s.notes }
  beside_it k e = ap (λ (x : model.Network). record { network = x; notes = as_notes s.notes }) e

  -- P once there is room, by its link
  plot-left : (id : List ℕ) (link : Option Link) (k : ℕ) → is_id id ≡ true → n.plots < max_plots
      → view (plot_stored n (padded id) link k)
      ≡ record { tables = (view n).tables; plots = model.new_plot id (as_link link) k ∷ (view n).plots }
  plot-left id link k i room =
      let seen = plot-seen n (packed id) link k room long in
      rw (slot-packed id i, trimmed-padded id i) at seen

  -- a plot that was found stands
  stands : (id : List ℕ) (i : ℕ) (p : model.Plot) → find id (view n).plots ≡ present i p → i < n.plots
  stands id i p e = rw (length-plots n n.plots) at (found id (view n).plots i p e).0

  -- P from what it names above on
  below_left : (id : List ℕ) (k : ℕ) (parent : line.Parent) → is_id id ≡ true → n.plots < max_plots
      → view_state (struct_after s (add_plot id parent k) (add_below v id k parent)) ≡ state_after v (add_below v id k parent)
  below_left id k nobody i room =
      unless s (add_plot id nobody k) (some_stand (view n)) 14 _ λ e.
      beside_it (plot_stored n (padded id) None k) (plot-left id None k i room)
  below_left id k (named parent table) i room = at (find parent (view n).plots) refl
    where
      at : (x : Place) → find parent (view n).plots ≡ x
          → view_state (struct_after s (add_plot id (named parent table) k) (add_child v id k table x))
          ≡ state_after v (add_child v id k table x)
      at absent e = refl
      at (present j p) e =
          unless s (add_plot id (named parent table) k) (lacks_table (view n) table) 15 _ λ f.
          rw e (beside_it (plot_stored n (padded id) (below j table) k) (plot-left id (below j table) k i room))

  table_left : (rows : List ℕ) → WellRead (add_table rows)
      → view_state (struct_after s (add_table rows) (perform v (add_table rows))) ≡ state_after v (perform v (add_table rows))
  table_left rows w =
      unless s (add_table rows) (tables_full (view n)) 11 _ λ e.
      let room : n.tables < max_tables = rw (length-tables n.rows n.tables) at (leb-false max_tables (length (view n).tables) e) in
      beside_it (table_stored n rows) (table_seen n rows room long.rows w)

  pub left-seen : (l : Line) → WellRead l → view_state (struct_after s l (perform v l)) ≡ state_after v (perform v l)
  left-seen (malformed_line m) w = refl
  left-seen (add_table rows) w = table_left rows w
  left-seen (add_plot id parent k) w =
      unless s (add_plot id parent k) (plots_full (view n)) 12 _ λ e.
      let room : n.plots < max_plots = rw (length-plots n n.plots) at (leb-false max_plots (length (view n).plots) e) in
      unless s (add_plot id parent k) (is_present (find id (view n).plots)) 13 _ λ f. below_left id k parent w.0 room
  left-seen (set_domain id m) w = at (find id (view n).plots) refl
    where
      at : (x : Place) → find id (view n).plots ≡ x
          → view_state (struct_after s (set_domain id m) (with_domain_at v m x)) ≡ state_after v (with_domain_at v m x)
      at absent e = refl
      at (present i p) e = unless s (set_domain id m) (lacks_one_of p m) 17 _ λ f.
          rw e (beside_it (domain_stored n i m) (domain-seen n i m (stands id i p e) (few-plots n h) long.domains))
  left-seen (set_label id l) w = at (find id (view n).plots) refl
    where
      at : (x : Place) → find id (view n).plots ≡ x
          → view_state (struct_after s (set_label id l) (with_label_at v l x)) ≡ state_after v (with_label_at v l x)
      at absent e = refl
      at (present i p) e = unless s (set_label id l) (lacks p l) 17 _ λ f.
          rw e
          (beside_it (label_stored n i (label_byte (to_label l)))
          (label-seen n i (to_label l) (label_byte (to_label l)) refl (stands id i p e) (few-plots n h) long.labels ∙ rw (as_to l)))
  left-seen ask_relabelling w = by (relabelling (view n))
    where
      by : (b : Best (List ℕ)) → view_state (struct_after s ask_relabelling (relabel_by v b)) ≡ state_after v (relabel_by v b)
      by none = refl
      by (best m a) = refl
  left-seen (ask_supports id) w = at (find id (view n).plots)
    where
      at : (x : Place) → view_state (struct_after s (ask_supports id) (supports_at v x)) ≡ state_after v (supports_at v x)
      at absent = refl
      at (present i p) = refl
  left-seen (from_scanner j) w = refl

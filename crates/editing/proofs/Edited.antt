-- The network that each edit leaves, in the definitions' words.
use Rattle.std.proofs.Common.{Option, ◌≡◌, refl, sym, ap, ◌∙◌, true, List, [], ◌∷◌, ◌++◌, ℕ, ◌+◌, ◌-◌, ◌*◌, ◌^◌, ◌<◌, ◌≤◌, add-one, arith}
use Rattle.std.proofs.Common.{length, get_or, set, take, drop, eqb-true, get_or-set_same, get_or-set_other}
use Rattle.semantics.specs.Limits.{max_tables, max_plots, table_rows}
use Rattle.semantics.specs.Network as model
use Rattle.semantics.specs.Network.{Plot, update, new_plot, with_domain, with_label}
use Rattle.semantics.specs.Rules.{is_table}
use Rattle.semantics.specs.Buffers.{written}
use Rattle.semantics.proofs.Lists.{and_left}
use Rattle.text.specs.declared.Id.{Id}
use Rattle.text.specs.Ids.{slot_bytes, slot_of, id_bytes}
use Rattle.text.proofs.Ids.{length-slot}
use Rattle.writing.proofs.Writes.{part_written, part_before}
use Rattle.network.specs.declared.Network.{Network}
use Rattle.stored.specs.declared.Link.{Link}
use Rattle.stored.specs.Values.{as_link, as_label, parent_byte, table_byte, label_byte, table_at, slot_at}
use Rattle.stored.proofs.Back.{link_back, label_back}
use Rattle.network.specs.View.{Lengths, tables_of, plot_at, plots_of, view}
use Rattle.editing.specs.Edits.{table_stored, plot_stored, domain_stored, label_stored}
use Rattle.network.proofs.Views.{tables-same, plots-same, plots-changed}

-- the network with the plot at a position changed
abbrev with_changed : Network → ℕ → (Plot → Plot) → model.Network
with_changed n i f = record { tables = (view n).tables; plots = update i f (view n).plots }

-- another domain
module _ (n : Network) (i mask : ℕ) (l : i < n.plots) (m : n.plots ≤ max_plots) (long : length n.domains ≡ max_plots) where
  pub domain-seen : view (domain_stored n i mask) ≡ with_changed n i (with_domain mask)
  domain-seen =
      let here : get_or (set n.domains i mask) i 0 ≡ mask = get_or-set_same n.domains i mask 0 (omega arith) in
      rw (plots-changed n (domain_stored n i mask) (with_domain mask) i n.plots (rw here)
      (λ j d. rw (get_or-set_other n.domains i j mask 0 d)))

-- another label or none, by a byte that is the label's
module _ (n : Network) (i : ℕ) (label : Option ℕ) (byte : ℕ) (e : byte ≡ label_byte label) (l : i < n.plots) (m : n.plots ≤ max_plots)
    (long : length n.labels ≡ max_plots) where
  pub label-seen : view (label_stored n i byte) ≡ with_changed n i (with_label (as_label label))
  label-seen =
      let here : get_or (set n.labels i byte) i 0 ≡ byte = get_or-set_same n.labels i byte 0 (omega arith) in
      rw (plots-changed n (label_stored n i byte) (with_label (as_label label)) i n.plots (rw (here, e, label_back label))
      (λ j d. rw (get_or-set_other n.labels i j byte 0 d)))

-- a table more
module _ (n : Network) (rows : List ℕ) (room : n.tables < max_tables) (long : length n.rows ≡ max_tables * table_rows)
    (w : is_table rows ≡ true) where
  eight : length rows ≡ table_rows
  eight = eqb-true (length rows) table_rows (and_left _ _ w)

  abbrev more : model.Network
  more = record { tables = (view n).tables ++ (rows ∷ []); plots = (view n).plots }

  pub table_seen : view (table_stored n rows) ≡ more
  table_seen =
      let at = n.tables * table_rows in
      let all = written n.rows at rows in
      let new : table_at all n.tables ≡ rows =
      ap (λ k. take k (drop at all)) (sym eight) ∙ part_written n.rows rows at (omega (arith, eight)) in
      let old : tables_of all n.tables ≡ tables_of n.rows n.tables =
      tables-same n.rows all n.tables (λ t l. part_before n.rows rows at (t * table_rows) table_rows (omega arith) (omega arith)) in
      rw (plots-same n (table_stored n rows) n.plots (λ i l. refl), add-one, old, new)

-- a plot more
module _ (n : Network) (id : Id) (link : Option Link) (k : ℕ) (room : n.plots < max_plots) (long : Lengths n) where
  abbrev with_plot : Network
  with_plot = plot_stored n (slot_of id) link k

  abbrev one_more : model.Network
  one_more = record { tables = (view n).tables; plots = new_plot (id_bytes id) (as_link link) k ∷ (view n).plots }

  newest_seen : plot_at with_plot n.plots ≡ new_plot (id_bytes id) (as_link link) k
  newest_seen =
      let i = n.plots in
      let at : slot_at with_plot.ids i ≡ slot_of id =
      ap (λ w. take w (drop (i * slot_bytes) with_plot.ids)) (sym (length-slot id))
      ∙ part_written n.ids (slot_of id) (i * slot_bytes) (omega (arith, long.ids, length-slot id)) in
      rw (
        at,
        get_or-set_same n.parents i (parent_byte link) 0 (omega (arith, long.parents)),
        get_or-set_same n.through i (table_byte link) 0 (omega (arith, long.through)),
        get_or-set_same n.classes i k 0 (omega (arith, long.classes)),
        get_or-set_same n.domains i (2 ^ k - 1) 0 (omega (arith, long.domains)),
        get_or-set_same n.labels i 0 0 (omega (arith, long.labels)),
        link_back link,
      )

  older_seen : (j : ℕ) → j < n.plots → plot_at with_plot j ≡ plot_at n j
  older_seen j l =
      let i = n.plots in
      let other : j ≡ i → ⊥ = λ e. omega arith in
      let at : slot_at with_plot.ids j ≡ slot_at n.ids j =
      part_before n.ids (slot_of id) (i * slot_bytes) (j * slot_bytes) slot_bytes (omega arith) (omega (arith, long.ids)) in
      rw (
        at,
        get_or-set_other n.parents i j (parent_byte link) 0 other,
        get_or-set_other n.through i j (table_byte link) 0 other,
        get_or-set_other n.classes i j k 0 other,
        get_or-set_other n.domains i j (2 ^ k - 1) 0 other,
        get_or-set_other n.labels i j 0 0 other,
      )

  pub plot-seen : view with_plot ≡ one_more
  plot-seen =
      let all : plots_of with_plot (n.plots + 1) ≡ new_plot (id_bytes id) (as_link link) k ∷ plots_of n n.plots =
      ap (plots_of with_plot) (add-one n.plots) ∙ rw (newest_seen, plots-same n with_plot n.plots older_seen) in
      rw all

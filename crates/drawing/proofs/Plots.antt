-- A drawn plot, put behind those that stand by three edits.
use Rattle.std.proofs.Common.{Option, Some, ◌≡◌, refl, ap, ◌∙◌, [], ◌∷◌, ◌+◌, ◌<◌, ℕ, arith}
use Rattle.semantics.specs.Limits.{max_plots, max_classes}
use Rattle.semantics.specs.Network as model
use Rattle.semantics.specs.Network.{class, Plot, update, new_plot, with_domain, with_label}
use Rattle.semantics.specs.Drawing.{next_state, draw, link_drawn, after_link, id_drawn, plot_drawn}
use Rattle.semantics.proofs.Places.{update-at}
use Rattle.text.specs.declared.Id.{Id}
use Rattle.text.specs.Ids.{slot_of, id_bytes}
use Rattle.stored.specs.declared.Link.{Link}
use Rattle.stored.specs.Values.{as_link, label_byte}
use Rattle.network.specs.declared.Network.{Network}
use Rattle.network.specs.View.{Lengths, view}
use Rattle.network.proofs.Views.{length-plots}
use Rattle.editing.specs.Edits.{plot_stored, domain_stored, label_stored}
use Rattle.editing.proofs.Edited.{plot-seen, domain-seen, label-seen}
use Rattle.drawing.specs.Drawn.{DrawsPlot}

module _ (n : Network) (id : Id) (link : Option Link) (domain label byte : ℕ) (room : n.plots < max_plots) where
  abbrev added : Network
  added = plot_stored n (slot_of id) link max_classes

  abbrev narrowed : Network
  narrowed = domain_stored added n.plots domain

  abbrev pub labelled : Network
  labelled = label_stored narrowed n.plots byte

  -- the plot as it was put, and as it is afterwards
  abbrev new : Plot
  new = new_plot (id_bytes id) (as_link link) max_classes

  abbrev newest : Plot
  newest = with_label (class label) (with_domain domain new)

  -- a network with one plot changed, and the one with one more
  abbrev changed : (Plot → Plot) → model.Network → model.Network
  changed f m = record { tables = m.tables; plots = update n.plots f m.plots }

  abbrev with_newest : Plot → model.Network
  with_newest p = record { tables = (view n).tables; plots = p ∷ (view n).plots }

  newest_changed : (f : Plot → Plot) (p : Plot) → changed f (with_newest p) ≡ with_newest (f p)
  newest_changed f p = rw (update-at n.plots f [] p (view n).plots (length-plots n n.plots)) refl

  three_edits : byte ≡ label_byte (Some label) → Lengths n → Lengths added → Lengths narrowed → view labelled ≡ with_newest newest
  three_edits e a b c =
      let put : view added ≡ with_newest new = plot-seen n id link max_classes room a in
      let narrow : view narrowed ≡ with_newest (with_domain domain new) =
      domain-seen added n.plots domain (omega arith) (omega arith) b.domains ∙ ap (changed (with_domain domain)) put
      ∙ newest_changed (with_domain domain) new in
      label-seen narrowed n.plots (Some label) byte e (omega arith) (omega arith) c.labels
      ∙ ap (changed (with_label (class label))) narrow
      ∙ newest_changed (with_label (class label)) (with_domain domain new)

-- So the plot that was drawn stands there.
pub plot_put : (n : Network) (v a b z : ℕ) (id : Id) (link : Option Link) (d label byte : ℕ) (m r t : Network) → n.plots < max_plots
    → id_bytes id ≡ id_drawn n.plots → as_link link ≡ link_drawn n.plots v → a ≡ after_link n.plots v
    → label ≡ draw 8 a → b ≡ next_state a → d ≡ draw 255 b → z ≡ next_state b → byte ≡ label_byte (Some label)
    → m ≡ plot_stored n (slot_of id) link max_classes → r ≡ domain_stored m n.plots (1 + d) → t ≡ label_stored r n.plots byte
    → Lengths n → Lengths m → Lengths r
    → DrawsPlot n v t z
plot_put n v a b z id link d label byte m r t room i l p q s o f e x y w long more again =
    let first : Lengths (plot_stored n (slot_of id) link max_classes) = rw x at more in
    let then : Lengths (domain_stored (plot_stored n (slot_of id) link max_classes) n.plots (1 + d)) = rw (y, x) at again in
    let all : t ≡ labelled n id link (1 + d) label byte room = rw (w, y, x) refl in
    let plot : newest n id link (1 + d) label byte room ≡ plot_drawn n.plots v = rw (i, l, q, o, s, p) refl in
    record {
      network =
          ap view all ∙ three_edits n id link (1 + d) label byte room e long first then
          ∙ ap (with_newest n id link (1 + d) label byte room) plot;
      state = rw (f, s, p) refl;
    }

-- What a refusal and an edit come to, line by line: by what was found, as the definitions have it.
use Rattle.std.proofs.Common.{Option, Some, None, is_some, Result, Ok, Err, ◌≡◌, refl, sym, ap, ◌∙◌, Bool, true, false, cond, true≢false}
use Rattle.std.proofs.Common.{List, [], ◌∷◌, ℕ, ◌^◌, ◌<◌, ◌≤◌, arith, leb, ltb, lt-ltb, le-leb, eq-eqb, leb-false, ltb-false}
use mathlib.Core.Bool.{false≢true}
use borrow.Author.Tests.{lt-leb}
use Rattle.semantics.specs.Limits.{max_tables, max_plots, max_classes}
use Rattle.semantics.specs.Network as model
use Rattle.semantics.specs.Network.{unlabelled, class, absent, find}
use Rattle.semantics.specs.Rules.{link_holds, network_holds}
use Rattle.semantics.specs.Notes.{notes_hold}
use Rattle.semantics.specs.Protocol.{nobody, named, Line, WellRead, add_table, add_plot, set_domain, set_label, from_scanner}
use Rattle.semantics.specs.Engine.{Done, refused, done, lacks, add_below, perform, holds}
use Rattle.semantics.proofs.Kept.{network_kept, notes_kept, performed-holds}
use Rattle.text.specs.declared.Id.{Id}
use Rattle.text.specs.Ids.{slot_of, id_bytes, padded}
use Rattle.text.proofs.Ids.{length-slot, padded-trimmed}
use Rattle.writing.proofs.Writes.{written_nil}
use Rattle.stored.specs.declared.Link.{Link}
use Rattle.stored.specs.Values.{as_link, below, as_label, to_label, label_byte, classes_at}
use Rattle.notes.specs.Views.{as_notes}
use Rattle.network.specs.declared.Network.{Network}
use Rattle.network.specs.declared.State.{State}
use Rattle.network.specs.declared.sound.Sound.{Sound}
use Rattle.network.specs.Sound.{whole}
use Rattle.network.specs.View.{plot_at, view, view_state, Lengths}
use Rattle.network.specs.Found.{lookup, place_of}
use Rattle.network.proofs.Views.{length-plots, length-tables, lookup-below, found-view}
use Rattle.network.proofs.Standing.{sound_holds}
use Rattle.network.proofs.Reach.{few-classes}
use Rattle.editing.specs.Edits.{table_stored, plot_stored, domain_stored, label_stored}
use Rattle.refusals.specs.declared.Refusal.{Refusal}
use Rattle.refusals.specs.declared.Refusal.TheVariants.{TablesFull, PlotsFull, IdStands, NoParent, NoTable, NoPlot, ClassLacking}
use Rattle.refusals.specs.Refusals.{number_of}
use Rattle.protocol.specs.declared.Above.{Above}
use Rattle.protocol.specs.Lines.{as_above}
use Rattle.performing.specs.Performed.{lacks_label, link_to, with_network, scanner_stored, edited}
use Rattle.performing.specs.Performing.{Performing, Editing, link_found, link_below}
use Rattle.performing.proofs.Leaving.{left-seen}

-- an edit is made and nothing is answered
abbrev quiet : Done → Bool
quiet (refused m) = false
quiet (done t []) = true
quiet (done t (b ∷ bs)) = false

module _ (s : State) (line : Line) where
  -- a refusal leaves everything as it was
  pub declines : (q : Refusal) → perform (view_state s) line ≡ refused (number_of q) → Editing s line s (Err q)
  declines q e out = record { struct = rw e refl; answered = rw e refl; buffer = rw e refl }

  -- an edit answers nothing
  edits : (t : State) → quiet (perform (view_state s) line) ≡ true → t ≡ edited s line → Editing s line t (Ok 0)
  edits t q e out = go (perform (view_state s) line) refl q
    where
      go : (x : Done) → perform (view_state s) line ≡ x → quiet x ≡ true → Performing s line out t (Ok 0) out
      go (refused m) p h = absurd (false≢true h)
      go (done u []) p h = record { struct = rw (p, e) refl; answered = rw p refl; buffer = rw p (sym (written_nil out 0)) }
      go (done u (b ∷ bs)) p h = absurd (false≢true h)

  -- the rules are kept by what an edit leaves
  rules_kept : (t : State) → WellRead line → Lengths s.network → holds (view_state s) ≡ true → Editing s line t (Ok 0)
      → holds (view_state t) ≡ true
  rules_kept t w long h p =
      ap holds (ap view_state (p []).struct ∙ left-seen s long (network_kept (view_state s) h) line w)
      ∙ performed-holds (view_state s) line w h

-- so of a sound state: another network, or notes, as a line leaves them
module _ (s : Sound) (line : Line) (w : WellRead line) (long : Lengths s.network) where
  pub network_ruled : (n : Network) → Editing (whole s) line (with_network (whole s) n) (Ok 0) → network_holds (view n) ≡ true
  network_ruled n p =
      let t = with_network (whole s) n in
      network_kept (view_state t) (rules_kept (whole s) line t w long (sound_holds s) p)

  pub notes_ruled : (t : State) → Editing (whole s) line t (Ok 0) → notes_hold (as_notes t.notes) ≡ true
  notes_ruled t p = notes_kept (view_state t) (rules_kept (whole s) line t w long (sound_holds s) p)

-- T
module _ (s : State) (rows : List ℕ) where
  pub table_full : max_tables ≤ s.network.tables → Editing s (add_table rows) s (Err TablesFull)
  table_full h = declines s (add_table rows) TablesFull (rw (length-tables s.network.rows s.network.tables, le-leb _ _ h))

  pub table_more : (n : Network) → s.network.tables < max_tables → n ≡ table_stored s.network rows
      → Editing s (add_table rows) (with_network s n) (Ok 0)
  table_more n h e =
      edits s (add_table rows) (with_network s n) (rw (length-tables s.network.rows s.network.tables, lt-leb _ _ h) refl)
      (ap (with_network s) e)

-- a plot that was found is one of those that stand
module _ (n : Network) (id : Id) (f : Option ℕ) (e : f ≡ lookup (id_bytes id) n.ids n.plots) (i : ℕ) (q : f ≡ Some i) where
  pub found_below : i < n.plots
  found_below = lookup-below (id_bytes id) n.ids n.plots i (sym e ∙ q)

  pub found_within : n.plots ≤ max_plots → i < max_plots
  found_within h = let l = found_below in omega arith

  -- and has few classes
  pub found_few : network_holds (view n) ≡ true → (k : ℕ) → k ≡ classes_at n.classes i → k ≤ max_classes
  found_few h k c = few-classes n h i k found_below c

-- what a function names where it follows a position that was found
pub ruleset found_stands = (found_below, found_within, found_few)

-- what was found among the stored ids is the place in the network
module _ (n : Network) (id : Id) (f : Option ℕ) (e : f ≡ lookup (id_bytes id) n.ids n.plots) where
  pub place_found : place_of n f ≡ find (id_bytes id) (view n).plots
  place_found = rw e (found-view n (id_bytes id) n.plots)

-- a link that is there is no refusal
abbrev Bound : Type 0
Bound = Result (Option Link) Refusal

-- what was found of the parent that a P line names is its place in the network
parent_found : (n : Network) (a : Above)
    → place_of n (lookup (id_bytes a.parent) n.ids n.plots) ≡ find (id_bytes a.parent) (view n).plots
parent_found n a = place_found n a.parent (lookup (id_bytes a.parent) n.ids n.plots) refl

-- what the definitions say of a P line whose link is refused
unbound : (s : State) (id : List ℕ) (k : ℕ) (above : Option Above) (q : Refusal) → link_below s.network above ≡ Err q
    → add_below (view_state s) id k (as_above above) ≡ refused (number_of q)
unbound s id k None q e = go (ltb 0 s.network.plots) refl e
  where
    go : (b : Bool) → ltb 0 s.network.plots ≡ b → ◌≡◌ {A = Bound} (cond b (Err NoParent) (Ok None)) (Err q)
        → add_below (view_state s) id k nobody ≡ refused (number_of q)
    go true p z = let e : NoParent ≡ q = cc in rw (length-plots s.network s.network.plots, p, ← e) refl
    go false p z = cc
unbound s id k (Some a) q e = at (lookup (id_bytes a.parent) s.network.ids s.network.plots) refl e
  where
    at : (f : Option ℕ) → lookup (id_bytes a.parent) s.network.ids s.network.plots ≡ f → link_found s.network.tables a.table f ≡ Err q
        → add_below (view_state s) id k (named (id_bytes a.parent) a.table) ≡ refused (number_of q)
    at None p z =
        let x : NoParent ≡ q = cc in rw (← parent_found s.network a, p, ← x) refl
    at (Some i) p z = go (leb s.network.tables a.table) refl z
      where
        go : (b : Bool) → leb s.network.tables a.table ≡ b → ◌≡◌ {A = Bound} (cond b (Err NoTable) (Ok (below i a.table))) (Err q)
            → add_below (view_state s) id k (named (id_bytes a.parent) a.table) ≡ refused (number_of q)
        go true t y =
            let x : NoTable ≡ q = cc in
            rw (← parent_found s.network a, p, length-tables s.network.rows s.network.tables, t, ← x) refl
        go false t y = cc

-- and of one whose link is there: it is the one that the definitions put
bound : (s : State) (id : List ℕ) (k : ℕ) (above : Option Above) (link : Option Link) → link_below s.network above ≡ Ok link
    → (quiet (add_below (view_state s) id k (as_above above)) ≡ true) × (link ≡ link_to s.network (as_above above))
bound s id k None link e = go (ltb 0 s.network.plots) refl e
  where
    go : (b : Bool) → ltb 0 s.network.plots ≡ b → ◌≡◌ {A = Bound} (cond b (Err NoParent) (Ok None)) (Ok link)
        → (quiet (add_below (view_state s) id k nobody) ≡ true) × (link ≡ None)
    go true p z = cc
    go false p z = (rw (length-plots s.network s.network.plots, p) refl, cc)
bound s id k (Some a) link e = at (lookup (id_bytes a.parent) s.network.ids s.network.plots) refl e
  where
    at : (f : Option ℕ) → lookup (id_bytes a.parent) s.network.ids s.network.plots ≡ f → link_found s.network.tables a.table f ≡ Ok link
        → (quiet (add_below (view_state s) id k (named (id_bytes a.parent) a.table)) ≡ true)
        × (link ≡ link_to s.network (named (id_bytes a.parent) a.table))
    at None p z = cc
    at (Some i) p z = go (leb s.network.tables a.table) refl z
      where
        go : (b : Bool) → leb s.network.tables a.table ≡ b → ◌≡◌ {A = Bound} (cond b (Err NoTable) (Ok (below i a.table))) (Ok link)
            → (quiet (add_below (view_state s) id k (named (id_bytes a.parent) a.table)) ≡ true)
            × (link ≡ link_to s.network (named (id_bytes a.parent) a.table))
        go true t y = cc
        go false t y = (
          rw (← parent_found s.network a, p, length-tables s.network.rows s.network.tables, t) refl,
          rw (← parent_found s.network a, p) (cc),
        )

-- it keeps the rule of links
link_kept : (n : Network) (above : Option Above) (link : Option Link) → link_below n above ≡ Ok link
    → link_holds n.tables n.plots (as_link link) ≡ true
link_kept n None link e = go (ltb 0 n.plots) refl e
  where
    go : (b : Bool) → ltb 0 n.plots ≡ b → ◌≡◌ {A = Bound} (cond b (Err NoParent) (Ok None)) (Ok link) → link_holds n.tables n.plots (as_link link) ≡ true
    go true p z = cc
    go false p z = let (none, x) : (n.plots ≤ 0) × (None ≡ link) = (ltb-false 0 n.plots p, cc) in rw (← x) (eq-eqb n.plots 0 (omega arith))
link_kept n (Some a) link e = at (lookup (id_bytes a.parent) n.ids n.plots) refl e
  where
    at : (f : Option ℕ) → lookup (id_bytes a.parent) n.ids n.plots ≡ f → link_found n.tables a.table f ≡ Ok link
        → link_holds n.tables n.plots (as_link link) ≡ true
    at None p z = cc
    at (Some i) p z = go (leb n.tables a.table) refl z
      where
        go : (b : Bool) → leb n.tables a.table ≡ b → ◌≡◌ {A = Bound} (cond b (Err NoTable) (Ok (below i a.table))) (Ok link)
            → link_holds n.tables n.plots (as_link link) ≡ true
        go true t y = cc
        go false t y =
            let x : below i a.table ≡ link = cc in
            rw (← x)
            (rw (lt-ltb i n.plots (lookup-below (id_bytes a.parent) n.ids n.plots i p), lt-ltb a.table n.tables (leb-false n.tables a.table t)) refl)

pub plot_link : (n : Network) (above : Option Above) (l : Result (Option Link) Refusal) (link : Option Link) → l ≡ link_below n above
    → l ≡ Ok link → link_holds n.tables n.plots (as_link link) ≡ true
plot_link n above l link w h = link_kept n above link (sym w ∙ h)

-- P
module _ (s : State) (id : Id) (above : Option Above) (k : ℕ) where
  abbrev plot_line : Line
  plot_line = add_plot (id_bytes id) (as_above above) k

  pub plot_full : max_plots ≤ s.network.plots → Editing s plot_line s (Err PlotsFull)
  plot_full h = declines s plot_line PlotsFull (rw (length-plots s.network s.network.plots, le-leb _ _ h))

  module _ (room : s.network.plots < max_plots) (f : Option ℕ) (e : f ≡ lookup (id_bytes id) s.network.ids s.network.plots) where
    pub plot_stands : (b : Bool) → b ≡ is_some f → b ≡ true → Editing s plot_line s (Err IdStands)
    plot_stands b p h = go f refl (sym p ∙ h)
      where
        go : (g : Option ℕ) → f ≡ g → is_some g ≡ true → Editing s plot_line s (Err IdStands)
        go None q z = absurd (false≢true z)
        go (Some i) q z =
            declines s plot_line IdStands
            (rw (length-plots s.network s.network.plots, lt-leb _ _ room, ← place_found s.network id f e, q))

    module _ (b : Bool) (p : b ≡ is_some f) (new : b ≡ false) where
      -- the id is no plot's
      is_new : find (id_bytes id) (view s.network).plots ≡ absent
      is_new = go f refl (sym p ∙ new)
        where
          go : (g : Option ℕ) → f ≡ g → is_some g ≡ false → find (id_bytes id) (view s.network).plots ≡ absent
          go None q z = rw (← place_found s.network id f e, q) refl
          go (Some i) q z = absurd (true≢false z)

      -- so it depends on what is named above
      named_so : perform (view_state s) plot_line ≡ add_below (view_state s) (id_bytes id) k (as_above above)
      named_so = rw (length-plots s.network s.network.plots, lt-leb _ _ room, is_new) refl

      module _ (l : Result (Option Link) Refusal) (w : l ≡ link_below s.network above) where
        pub plot_unbound : (q : Refusal) → l ≡ Err q → Editing s plot_line s (Err q)
        plot_unbound q h = declines s plot_line q (named_so ∙ unbound s (id_bytes id) k above q (sym w ∙ h))

        module _ (link : Option Link) (h : l ≡ Ok link) where
          pub plot_more : (n : Network) → n ≡ plot_stored s.network (slot_of id) link k
              → Editing s plot_line (with_network s n) (Ok 0)
          plot_more n c =
              let b = bound s (id_bytes id) k above link (sym w ∙ h) in
              edits s plot_line (with_network s n) (ap quiet named_so ∙ b.0)
              (ap (with_network s)
              (c ∙ ap (λ u. plot_stored s.network u link k) (sym (padded-trimmed (slot_of id) (length-slot id)))
              ∙ ap (λ u. plot_stored s.network (padded (id_bytes id)) u k) b.1))

-- S
module _ (s : State) (id : Id) (mask : ℕ) (f : Option ℕ) (e : f ≡ lookup (id_bytes id) s.network.ids s.network.plots) where
  pub domain_nowhere : f ≡ None → Editing s (set_domain (id_bytes id) mask) s (Err NoPlot)
  domain_nowhere q = declines s _ NoPlot (rw (← place_found s.network id f e, q))

  module _ (i k : ℕ) (b : Bool) (q : f ≡ Some i) (c : k ≡ classes_at s.network.classes i) (t : b ≡ leb (2 ^ k) mask) where
    pub domain_lacks : b ≡ true → Editing s (set_domain (id_bytes id) mask) s (Err ClassLacking)
    domain_lacks h = declines s _ ClassLacking (rw (← place_found s.network id f e, q, ← c, ← t, h))

    pub domain_set : (n : Network) → b ≡ false → n ≡ domain_stored s.network i mask
        → Editing s (set_domain (id_bytes id) mask) (with_network s n) (Ok 0)
    domain_set n h p =
        edits s _ (with_network s n) (rw (← place_found s.network id f e, q, ← c, ← t, h) refl)
        (rw (← place_found s.network id f e, q) (ap (with_network s) p))

-- a label of the definitions is the code's, read back
to-label : (l : Option ℕ) → to_label (as_label l) ≡ l
to-label None = refl
to-label (Some c) = refl

-- the definitions ask the plot, the code its number of classes
lacks-same : (p : model.Plot) (l : model.Label) → lacks p l ≡ lacks_label p.classes l
lacks-same p unlabelled = refl
lacks-same p (class c) = refl

-- L
module _ (s : State) (id : Id) (label : Option ℕ) (f : Option ℕ) (e : f ≡ lookup (id_bytes id) s.network.ids s.network.plots) where
  pub label_nowhere : f ≡ None → Editing s (set_label (id_bytes id) (as_label label)) s (Err NoPlot)
  label_nowhere q = declines s _ NoPlot (rw (← place_found s.network id f e, q))

  module _ (i k : ℕ) (b : Bool) (q : f ≡ Some i) (c : k ≡ classes_at s.network.classes i) (t : b ≡ lacks_label k (as_label label)) where
    pub label_lacks : b ≡ true → Editing s (set_label (id_bytes id) (as_label label)) s (Err ClassLacking)
    label_lacks h = declines s _ ClassLacking (rw (← place_found s.network id f e, q, lacks-same (plot_at s.network i) (as_label label), ← c, ← t, h))

    -- the label's byte is within the limits
    pub label_short : network_holds (view s.network) ≡ true → b ≡ false → label_byte label ≤ max_classes
    label_short h g = go label t g
      where
        few : k ≤ max_classes
        few = found_few s.network id f e i q h k c

        go : (l : Option ℕ) → b ≡ lacks_label k (as_label l) → b ≡ false → label_byte l ≤ max_classes
        go None w v = omega arith
        go (Some d) w v = let z : d < k = leb-false k d (sym w ∙ v) in omega (arith, few)

    pub label_set : (n : Network) (byte : ℕ) → b ≡ false → byte ≡ label_byte label → n ≡ label_stored s.network i byte
        → Editing s (set_label (id_bytes id) (as_label label)) (with_network s n) (Ok 0)
    label_set n byte h w p =
        edits s _ (with_network s n)
        (rw (← place_found s.network id f e, q, lacks-same (plot_at s.network i) (as_label label), ← c, ← t, h) refl)
        (rw (← place_found s.network id f e, q, to-label label, ← w) (ap (with_network s) p))

-- H
pub scanner_set : (s : State) (scanner : ℕ) → Editing s (from_scanner scanner) (scanner_stored s scanner) (Ok 0)
scanner_set s scanner = edits s (from_scanner scanner) (scanner_stored s scanner) refl refl

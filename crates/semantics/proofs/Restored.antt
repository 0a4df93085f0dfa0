-- The lines of a network's text are all accepted from an empty network on, one after the other, and make the network again (02: U1).
use Rattle.std.proofs.Common.{◌≡◌, refl, ap, ◌∙◌, Bool, true, false, cond, List, [], ◌∷◌, ◌++◌, map, append_assoc, append-nil, inl, inr, ℕ}
use Rattle.std.proofs.Common.{suc, ◌+◌, ◌^◌, ◌≤◌, ◌<◌, arith, length, length-append, eqb, leb, ltb, eqb-true, ltb-true}
use native.Mathlib.Nat.{pow-le-pow_right}
use lib.ListN.{length-map}
use borrow.Author.Tests.{lt-leb, eqb-false}
use Rattle.semantics.specs.Basics.{every, same}
use Rattle.semantics.specs.Limits.{max_tables, max_plots, max_classes, max_mask}
use Rattle.semantics.specs.Text.{is_id}
use Rattle.semantics.specs.Network.{Link, root, child, Label, unlabelled, class, Plot, Network, empty, StandsAt, Place, absent}
use Rattle.semantics.specs.Network.{present, find, is_present, all_classes, new_plot, with_domain, with_label}
use Rattle.semantics.specs.Rules.{is_table, link_holds, label_holds, plots_hold, network_holds}
use Rattle.semantics.specs.Protocol.{nobody, named, read_line, table_text, plot_text, domain_text, label_text}
use Rattle.semantics.specs.NetworkText.{id_at, parent_named, plot_line, is_full, domain_line, line_of_label, label_line, in_order}
use Rattle.semantics.specs.NetworkText.{network_lines}
use Rattle.semantics.specs.Notes.{Notes, unused}
use Rattle.semantics.specs.Engine.{State, done, perform}
use Rattle.semantics.proofs.Lists.{and_left, and_right}
use Rattle.semantics.proofs.Places.{update-at}
use Rattle.semantics.proofs.Rules.{and_orders, PlotRules, newest_rules, NetworkRules, network-rules, stands_rules, stands_found}
use Rattle.semantics.proofs.Kept.{Untallied, Keeps, read_line_well_read, perform_keeps}
use Rattle.semantics.proofs.ReadBack.{read_table_lem, read-root, read-child, read-domain, read-label}

-- the state with a network, and with anything beside it
abbrev pub beside : Notes → Network → State
beside k n = record { network = n; notes = k }

-- a line is accepted and answers nothing: it leads from a network to another, and leaves what is kept beside it
abbrev pub Quietly : Network → List ℕ → Network → Type 0
Quietly n l m = (k : Notes) → perform (beside k n) (read_line l) ≡ done (beside k m) []

-- Lines that all do so lead from a network to another.
pub data Accepts : Network → List (List ℕ) → Network → Type 0 where
  none_left : {n : Network} → Accepts n [] n
  one_more : {n m k : Network} {l : List ℕ} {ls : List (List ℕ)} → Quietly n l m → Accepts m ls k → Accepts n (l ∷ ls) k

-- one list of them behind another
both : {n m k : Network} {ls rs : List (List ℕ)} → Accepts n ls m → Accepts m rs k → Accepts n (ls ++ rs) k
both none_left b = b
both (one_more e a) b = one_more e (both a b)

-- one line alone
alone : {n m : Network} {l : List ℕ} → Quietly n l m → Accepts n (l ∷ []) m
alone e = one_more e none_left

-- they keep the rules
accepts_rules : {n m : Network} {ls : List (List ℕ)} → Accepts n ls m → NetworkRules n → NetworkRules m
accepts_rules none_left r = r
accepts_rules {n} (one_more {m = m} {l = l} e a) r =
    let s = beside unused n in
    let k : Keeps s (perform s (read_line l)) = perform_keeps s r (omega arith) (read_line l) (read_line_well_read l) in
    let left : Untallied s (beside unused m) = rw (e unused) at k in
    accepts_rules a left.network

-- T lines: tables go behind those that stand
tables-made : (before tables : List (List ℕ)) → every is_table tables ≡ true → length before + length tables ≤ max_tables
    → Accepts (record { tables = before; plots = [] }) (map table_text tables) (record { tables = before ++ tables; plots = [] })
tables-made before [] h few = rw append-nil none_left
tables-made before (t ∷ tables) h few =
    let own = and_left (is_table t) (every is_table tables) h in
    let others = and_right (is_table t) (every is_table tables) h in
    let room : leb max_tables (length before) ≡ false = lt-leb max_tables (length before) (omega arith) in
    let more : length (before ++ (t ∷ [])) + length tables ≤ max_tables = rw length-append (omega arith) in
    let first : Quietly (record { tables = before; plots = [] }) (table_text t) (record { tables = before ++ (t ∷ []); plots = [] }) =
    λ k. rw (read_table_lem t own, room) refl in
    one_more first (rw append_assoc at (tables-made (before ++ (t ∷ [])) tables others more))

-- P lines: the plots as P puts them
abbrev fresh : Plot → Plot
fresh p = new_plot p.id p.link p.classes

-- a plot stands at each position, and its id is the one there
pub stood : (i : ℕ) (ps : List Plot) → i < length ps → (q : Plot) × StandsAt i q ps × (id_at i ps ≡ q.id)
stood i [] h = absurd (omega arith)
stood i (p ∷ older) h = go (eqb i (length older)) refl (stood i older)
  where
    go : (b : Bool) → eqb i (length older) ≡ b
        → (i < length older → (q : Plot) × StandsAt i q older × (id_at i older ≡ q.id))
        → (q : Plot) × StandsAt i q (p ∷ older) × (cond b p.id (id_at i older) ≡ q.id)
    go true e r = (p, inl (eqb-true i (length older) e, refl), refl)
    go false e r =
        let other : i ≡ length older → ⊥ = eqb-false i (length older) e in
        let l : i < length older = omega arith in
        let s = r l in
        (s.0, inr s.1, s.2)

-- a plot is found where it was, if all are put anew with their ids
abbrev fresh_place : Place → Place
fresh_place absent = absent
fresh_place (present i p) = present i (fresh p)

find_fresh : (id : List ℕ) (ps : List Plot) → find id (map fresh ps) ≡ fresh_place (find id ps)
find_fresh id [] = refl
find_fresh id (p ∷ older) = go (same id p.id) (find_fresh id older)
  where
    go : (b : Bool) → find id (map fresh older) ≡ fresh_place (find id older)
        → cond b (present (length (map fresh older)) (fresh p)) (find id (map fresh older))
        ≡ fresh_place (cond b (present (length older) p) (find id older))
    go true e = rw length-map
    go false e = e

present_fresh : (x : Place) → is_present (fresh_place x) ≡ is_present x
present_fresh absent = refl
present_fresh (present i p) = refl

-- one P line, where the plots keep the rules and there is room
module _ (tables : List (List ℕ)) (some : length tables ≤ max_tables) (p : Plot) (older : List Plot)
    (h : plots_hold (length tables) (p ∷ older) ≡ true) (few : length older < max_plots) where
  abbrev own : PlotRules (length tables) (length older) p
  own = (newest_rules (length tables) p older h).1

  abbrev put : Network
  put = record { tables = tables; plots = map fresh older }

  room : leb max_plots (length (map fresh older)) ≡ false
  room = rw length-map (lt-leb max_plots (length older) few)

  new : is_present (find p.id (map fresh older)) ≡ false
  new = ap is_present (find_fresh p.id older) ∙ present_fresh (find p.id older) ∙ (newest_rules (length tables) p older h).2

  plot-made : Accepts put (plot_line p older) (record { tables = tables; plots = fresh p ∷ map fresh older })
  plot-made = go p.link refl own.has_link
    where
      go : (l : Link) → p.link ≡ l → link_holds (length tables) (length older) l ≡ true
          → Accepts put (plot_text p.id (parent_named older l) p.classes ∷ [])
          (record { tables = tables; plots = new_plot p.id l p.classes ∷ map fresh older })
      go root e k =
          let first : ltb 0 (length (map fresh older)) ≡ false = rw (length-map, eqb-true (length older) 0 k) refl in
          let line : Quietly put (plot_text p.id nobody p.classes)
          (record { tables = tables; plots = new_plot p.id root p.classes ∷ map fresh older }) =
          λ k. rw (read-root p.id p.classes own.has_id own.some_class own.few_classes, room, new, first) refl in
          alone line
      go (child i table) e k =
          let o = and_orders (suc i) (length older) (suc table) (length tables) k in
          let s = stood i older o.0 in
          let parent : is_id (id_at i older) ≡ true =
          rw s.2 (stands_rules (length tables) i s.0 older (newest_rules (length tables) p older h).0 s.1).has_id in
          let here : find (id_at i older) older ≡ present i s.0 =
          rw s.2 (stands_found (length tables) i s.0 older (newest_rules (length tables) p older h).0 s.1) in
          let at : find (id_at i older) (map fresh older) ≡ present i (fresh s.0) =
          find_fresh (id_at i older) older ∙ ap fresh_place here in
          let stands : leb (length tables) table ≡ false = lt-leb (length tables) table o.1 in
          let low : table < max_tables = omega arith in
          let line : Quietly put (plot_text p.id (named (id_at i older) table) p.classes)
          (record { tables = tables; plots = new_plot p.id (child i table) p.classes ∷ map fresh older }) =
          λ k. rw (read-child p.id (id_at i older) table p.classes own.has_id parent low own.some_class own.few_classes)
          (rw (room, new, at, stands) refl) in
          alone line

-- all of them, in order of arrival
plots-made : (tables : List (List ℕ)) → length tables ≤ max_tables → (ps : List Plot) → plots_hold (length tables) ps ≡ true
    → length ps ≤ max_plots
    → Accepts (record { tables = tables; plots = [] }) (in_order plot_line ps) (record { tables = tables; plots = map fresh ps })
plots-made tables some [] h few = none_left
plots-made tables some (p ∷ older) h few =
    both (plots-made tables some older (newest_rules (length tables) p older h).0 (omega arith))
    (plot-made tables some p older h (omega arith))

-- S and L lines: each changes the plot that stands at its position from what it was to what it is to be, or there is none and it is that
-- already
stands_here : (front : List Plot) (q : Plot) (rest : List Plot) → StandsAt (length rest) q (front ++ (q ∷ rest))
stands_here [] q rest = inl (refl, refl)
stands_here (x ∷ front) q rest = inr (stands_here front q rest)

module _ (tables : List (List ℕ)) (before after : Plot → Plot) (line : Plot → List Plot → List (List ℕ)) where
  -- the network with some plots
  abbrev with : List Plot → Network
  with plots = record { tables = tables; plots = plots }

  -- the line of one plot does so, if the plot is found
  abbrev Sets : Type 0
  Sets = (p : Plot) (older front rest : List Plot) → PlotRules (length tables) (length older) p
      → find (before p).id (front ++ (before p ∷ rest)) ≡ present (length rest) (before p)
      → Accepts (with (front ++ (before p ∷ rest))) (line p older) (with (front ++ (after p ∷ rest)))

  all_set : Sets → (front ps : List Plot) → plots_hold (length tables) ps ≡ true → NetworkRules (with (front ++ map before ps))
      → Accepts (with (front ++ map before ps)) (in_order line ps) (with (front ++ map after ps))
  all_set one front [] h r = none_left
  all_set one front (p ∷ older) h r =
      let n = newest_rules (length tables) p older h in
      let r' : NetworkRules (with ((front ++ (before p ∷ [])) ++ map before older)) = rw append_assoc r in
      let i : Accepts (with (front ++ (before p ∷ map before older))) (in_order line older) (with (front ++ (before p ∷ map after older))) =
      rw (append_assoc front (before p ∷ []) (map before older), append_assoc front (before p ∷ []) (map after older)) at
      (all_set one (front ++ (before p ∷ [])) older n.0 r') in
      let s = stands_here front (before p) (map after older) in
      let f = stands_found (length tables) (length (map after older)) (before p) (front ++ (before p ∷ map after older))
      (accepts_rules i r).each_plot s in
      both i (one p older front (map after older) n.1 f)

-- a plot as P puts it, with its domain
abbrev narrowed : Plot → Plot
narrowed p = with_domain p.domain (fresh p)

-- masks of k classes are masks
pub mask_few : (k m : ℕ) → k ≤ max_classes → m < 2 ^ k → m ≤ max_mask
mask_few k m few h =
    let eight : 2 ^ k ≤ 2 ^ max_classes = pow-le-pow_right {n = 2} (omega arith) few in
    omega arith

module _ (tables : List (List ℕ)) where
  domain-set : Sets tables fresh narrowed domain_line
  domain-set p older front rest r at = go (is_full p) refl
    where
      go : (b : Bool) → is_full p ≡ b
          → Accepts (record { tables = tables; plots = front ++ (fresh p ∷ rest) }) (cond b [] (domain_text p.id p.domain ∷ []))
          (record { tables = tables; plots = front ++ (narrowed p ∷ rest) })
      go true e = rw (eqb-true p.domain (all_classes p.classes) e) none_left
      go false e =
          let own : leb (2 ^ p.classes) p.domain ≡ false = lt-leb (2 ^ p.classes) p.domain r.own_classes in
          let few : p.domain ≤ max_mask = mask_few p.classes p.domain r.few_classes r.own_classes in
          let line : Quietly (record { tables = tables; plots = front ++ (fresh p ∷ rest) }) (domain_text p.id p.domain)
          (record { tables = tables; plots = front ++ (narrowed p ∷ rest) }) =
          λ k. rw (read-domain p.id p.domain r.has_id r.some_domain few, at, own)
          (rw (update-at (length rest) (with_domain p.domain) front (fresh p) rest refl) refl) in
          alone line

  label-set : Sets tables narrowed (λ p. p) label_line
  label-set p older front rest r at = go p.label refl r.has_label
    where
      go : (l : Label) → p.label ≡ l → label_holds p.classes l ≡ true
          → Accepts (record { tables = tables; plots = front ++ (narrowed p ∷ rest) }) (line_of_label p.id l)
          (record { tables = tables; plots = front ++ (with_label l (narrowed p) ∷ rest) })
      go unlabelled e h = none_left
      go (class c) e h =
          let low : c < p.classes = ltb-true c p.classes h in
          let own : leb p.classes c ≡ false = lt-leb p.classes c low in
          let few : c < max_classes = omega (arith, r.few_classes) in
          let line : Quietly (record { tables = tables; plots = front ++ (narrowed p ∷ rest) }) (label_text p.id (class c))
          (record { tables = tables; plots = front ++ (with_label (class c) (narrowed p) ∷ rest) }) =
          λ k. rw (read-label p.id c r.has_id few, at, own)
          (rw (update-at (length rest) (with_label (class c)) front (narrowed p) rest refl) refl) in
          alone line

-- each plot taken for itself
map_same : (ps : List Plot) → map (λ p. p) ps ≡ ps
map_same [] = refl
map_same (p ∷ ps) = ap (λ qs. p ∷ qs) (map_same ps)

-- The lines of a network that keeps the rules make it from an empty one.
pub restored : (n : Network) → network_holds n ≡ true → Accepts empty (network_lines n) n
restored n h =
    let r = network-rules n h in
    let t = tables-made [] n.tables r.each_table (omega (arith, r.few_tables)) in
    let p = both t (plots-made n.tables r.few_tables n.plots r.each_plot r.few_plots) in
    let narrow = all_set n.tables fresh narrowed domain_line (domain-set n.tables) [] n.plots r.each_plot in
    let d = both p (narrow (accepts_rules p none-rules)) in
    let label = all_set n.tables narrowed (λ p. p) label_line (label-set n.tables) [] n.plots r.each_plot in
    rw (map_same n.plots) at (both d (label (accepts_rules d none-rules)))
  where
    none-rules : NetworkRules empty
    none-rules = network-rules empty refl

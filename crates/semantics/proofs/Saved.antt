-- The text of a network that keeps the rules: it is cut into the network's lines again, each of them is short enough for a line, and the
-- whole has no more bytes than the largest network's (02: U1, U4).
use Rattle.std.proofs.Common.{◌≡◌, refl, ap, ◌∙◌, Bool, true, false, cond, List, [], ◌∷◌, ◌++◌, map}
use Rattle.std.proofs.Common.{ℕ, zero, suc, ◌+◌, ◌-◌, ◌*◌, ◌≤◌, ◌<◌, arith, length, replicate}
use Rattle.std.proofs.Common.{leb, ltb-true, eqb-true}
use Rattle.semantics.specs.Basics.{every}
use Rattle.semantics.specs.Limits.{max_tables, max_plots, max_classes, max_mask, max_id_bytes, max_line_bytes, table_rows}
use Rattle.semantics.specs.Text.{is_id, decimal}
use Rattle.semantics.specs.Network.{Link, root, child, Label, unlabelled, class, Plot, Network}
use Rattle.semantics.specs.Rules.{is_table, link_holds, label_holds, plots_hold, network_holds}
use Rattle.semantics.specs.Protocol.{nobody, named, table_text, max_table_line, plot_text, max_root_line, max_child_line, domain_text}
use Rattle.semantics.specs.Protocol.{max_domain_line, max_label_line}
use Rattle.semantics.specs.NetworkText.{id_at, plot_line, is_full, domain_line, line_of_label, label_line, in_order}
use Rattle.semantics.specs.NetworkText.{network_lines, network_text, max_text_bytes}
use Rattle.semantics.specs.Program.{lines, passed}
use Rattle.semantics.proofs.Lists.{and_left, and_right}
use Rattle.semantics.proofs.Rules.{and_orders, PlotRules, newest_rules, stands_rules, network-rules}
use Rattle.semantics.proofs.ReadBack.{table_short, root_short, child_short, domain_short}
use Rattle.semantics.proofs.Restored.{stood, mask_few}
use Rattle.semantics.proofs.ShortLines.{Fits, none_fit, one_fits, both_fit, more_room, lines_cut, lines-passed, lines_short, parts_plain}
use Rattle.semantics.proofs.ShortLines.{id-plain, number-plain, rows_plain, label-fits}

-- T lines
tables_fit : (tables : List (List ℕ)) → every is_table tables ≡ true → Fits (map table_text tables) (max_table_line * length tables)
tables_fit [] h = none_fit 0
tables_fit (t ∷ tables) h =
    let own = and_left (is_table t) (every is_table tables) h in
    let others = tables_fit tables (and_right (is_table t) (every is_table tables) h) in
    let first = one_fits (table_text t) max_table_line (table_short t own) (omega arith) (rows_plain t) in
    more_room _ _ _ (omega arith)
    (both_fit (table_text t ∷ []) (map table_text tables) max_table_line (max_table_line * length tables) first others)

-- lines of plots, where those of one plot more have room
module _ (t : ℕ) (line : Plot → List Plot → List (List ℕ)) (total : ℕ → ℕ) where
  -- the lines of one plot, with the room that they take
  pub record OneFits (p : Plot) (older : List Plot) : Type 0 where
    pub room : ℕ
    pub fits : Fits (line p older) room
    pub grows : total (length older) + room ≤ total (suc (length older))

  all_fit : ((p : Plot) (older : List Plot) → plots_hold t (p ∷ older) ≡ true → OneFits p older) → (ps : List Plot) → plots_hold t ps ≡ true
      → Fits (in_order line ps) (total (length ps))
  all_fit one [] h = none_fit (total 0)
  all_fit one (p ∷ older) h =
      let o = one p older h in
      let others = all_fit one older (newest_rules t p older h).0 in
      more_room _ _ _ o.grows (both_fit (in_order line older) (line p older) (total (length older)) o.room others o.fits)

-- P lines: of a root, and of its children
abbrev plots_total : ℕ → ℕ
plots_total zero = 0
plots_total (suc k) = max_root_line + max_child_line * k

-- one child more
child_more : (k : ℕ) → 0 < k → plots_total k + max_child_line ≤ plots_total (suc k)
child_more zero h = absurd (omega arith)
child_more (suc k) h = omega arith

plot-fits : (t : ℕ) → t ≤ max_tables → (p : Plot) (older : List Plot) → plots_hold t (p ∷ older) ≡ true
    → OneFits t plot_line plots_total p older
plot-fits t some p older h = go p.link refl own.has_link
  where
    own : PlotRules t (length older) p
    own = (newest_rules t p older h).1

    go : (l : Link) → p.link ≡ l → link_holds t (length older) l ≡ true → OneFits t plot_line plots_total p older
    go root e k =
        let none : length older ≡ 0 = eqb-true (length older) 0 k in
        let plain = parts_plain (p.id ++ (44 ∷ 44 ∷ [])) (44 ∷ decimal p.classes)
        (parts_plain p.id (44 ∷ 44 ∷ []) (id-plain p.id own.has_id) refl) (number-plain p.classes) in
        record {
          room = max_root_line;
          fits = rw e (one_fits (plot_text p.id nobody p.classes) max_root_line
              (root_short p.id p.classes own.has_id own.few_classes) (omega arith) plain);
          grows = rw none (omega arith);
        }
    go (child i table) e k =
        let o = and_orders (suc i) (length older) (suc table) t k in
        let s = stood i older o.0 in
        let parent : is_id (id_at i older) ≡ true = rw s.2 (stands_rules t i s.0 older (newest_rules t p older h).0 s.1).has_id in
        let low : table < max_tables = omega arith in
        let plain = parts_plain (p.id ++ ((44 ∷ id_at i older) ++ (44 ∷ decimal table))) (44 ∷ decimal p.classes)
        (parts_plain p.id ((44 ∷ id_at i older) ++ (44 ∷ decimal table)) (id-plain p.id own.has_id)
        (parts_plain (id_at i older) (44 ∷ decimal table) (id-plain (id_at i older) parent) (number-plain table)))
        (number-plain p.classes) in
        record {
          room = max_child_line;
          fits = rw e (one_fits (plot_text p.id (named (id_at i older) table) p.classes) max_child_line
              (child_short p.id (id_at i older) table p.classes own.has_id parent low own.few_classes) (omega arith) plain);
          grows = child_more (length older) (omega arith);
        }

-- S lines
domain-fits : (t : ℕ) (p : Plot) (older : List Plot) → plots_hold t (p ∷ older) ≡ true
    → OneFits t domain_line (λ k. max_domain_line * k) p older
domain-fits t p older h = record { room = max_domain_line; fits = go (is_full p); grows = omega arith }
  where
    own : PlotRules t (length older) p
    own = (newest_rules t p older h).1

    go : (b : Bool) → Fits (cond b [] (domain_text p.id p.domain ∷ [])) max_domain_line
    go true = none_fit max_domain_line
    go false =
        let few = mask_few p.classes p.domain own.few_classes own.own_classes in
        let plain = parts_plain p.id (44 ∷ decimal p.domain) (id-plain p.id own.has_id) (number-plain p.domain) in
        one_fits (domain_text p.id p.domain) max_domain_line (domain_short p.id p.domain own.has_id few) (omega arith) plain

-- L lines
labels-fit : (t : ℕ) (p : Plot) (older : List Plot) → plots_hold t (p ∷ older) ≡ true
    → OneFits t label_line (λ k. max_label_line * k) p older
labels-fit t p older h = record { room = max_label_line; fits = go p.label own.has_label; grows = omega arith }
  where
    own : PlotRules t (length older) p
    own = (newest_rules t p older h).1

    go : (l : Label) → label_holds p.classes l ≡ true → Fits (line_of_label p.id l) max_label_line
    go unlabelled k = none_fit max_label_line
    go (class c) k =
        let low : c < p.classes = ltb-true c p.classes k in
        label-fits p.id c own.has_id (omega (arith, own.few_classes))

few_more : (k : ℕ) → k ≤ max_plots → plots_total k ≤ plots_total max_plots
few_more zero h = omega arith
few_more (suc k) h = omega arith

-- Each line of a network that keeps the rules has at most 40 bytes, and its text no more than the largest.
pub network-fits : (n : Network) → network_holds n ≡ true → Fits (network_lines n) max_text_bytes
network-fits n h =
    let r = network-rules n h in
    let t = length n.tables in
    let k = length n.plots in
    let ts = tables_fit n.tables r.each_table in
    let ps = all_fit t plot_line plots_total (plot-fits t r.few_tables) n.plots r.each_plot in
    let ds = all_fit t domain_line (λ k. max_domain_line * k) (domain-fits t) n.plots r.each_plot in
    let ls = all_fit t label_line (λ k. max_label_line * k) (labels-fit t) n.plots r.each_plot in
    more_room (network_lines n) _ max_text_bytes (omega (arith, r.few_tables, r.few_plots, few_more k r.few_plots))
    (both_fit _ _ _ _ (both_fit _ _ _ _ (both_fit _ _ _ _ ts ps) ds) ls)

pub text-fits : (n : Network) → network_holds n ≡ true → length (network_text n) ≤ max_text_bytes
text-fits n h = (network-fits n h).all

pub each_short : (n : Network) → network_holds n ≡ true → every (λ l. leb (length l) max_line_bytes) (network_lines n) ≡ true
each_short n h = lines_short (network_lines n) (network-fits n h).each

-- The text is cut into the network's lines, and the program hands each of them on whole.
pub text_cut : (n : Network) → network_holds n ≡ true → lines (network_text n) ≡ network_lines n
text_cut n h = lines_cut (network_lines n) (network-fits n h).each

pub text-passed : (n : Network) → network_holds n ≡ true → map passed (lines (network_text n)) ≡ network_lines n
text-passed n h = ap (map passed) (text_cut n h) ∙ lines-passed (network_lines n) (network-fits n h).each

-- A network that needs them: 16 tables of rows 255, and a chain of 128 plots through the last one, each with an id of as many bytes as one
-- may have, a domain of three digits that isn't all its classes, and a label.
abbrev pub chained : ℕ → Link
chained zero = root
chained (suc i) = child i (max_tables - 1)

abbrev pub chain : ℕ → List Plot
chain zero = []
chain (suc i) =
    record {
      id = replicate (max_id_bytes - 3) 65 ++ decimal (100 + i);
      link = chained i;
      classes = max_classes;
      domain = max_mask - 1;
      label = class 0;
    }
    ∷ chain i

abbrev pub largest : Network
largest = record { tables = replicate max_tables (replicate table_rows max_mask); plots = chain max_plots }

pub largest_text : (network_holds largest ≡ true) × (length (network_text largest) ≡ max_text_bytes)
largest_text = (refl, refl)

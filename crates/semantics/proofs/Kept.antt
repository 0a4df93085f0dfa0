-- No line leads to a state that breaks the rules, and 9 is given exactly for such a state: so never in a run from its start.
use Rattle.std.proofs.Common.{◌≡◌, refl, sym, ap, ◌∙◌, ◌↔◌, Bool, true, false, cond, not, ◌&&◌, ◌||◌, true≢false, List, [], ◌∷◌, ◌++◌, map}
use Rattle.std.proofs.Common.{ℕ, ◌+◌, ◌-◌, ◌^◌, ◌<◌, ◌≤◌, arith, length, eqb, leb, ltb, lt-ltb, le-leb, eq-eqb, eqb-true, ltb-true, leb-true}
use Rattle.std.proofs.Common.{ltb-false, leb-false}
use mathlib.Core.Bool.{false≢true}
use lib.ListN.{length-map}
use Rattle.semantics.specs.Basics.{every}
use Rattle.semantics.specs.Limits.{max_tables, max_plots, max_classes, table_rows, max_mask, max_line_bytes, max_scanners, max_lines}
use Rattle.semantics.specs.Text.{fields, field, is_blank, Number, malformed, value, number, is_number, within, value_of, is_id}
use Rattle.semantics.specs.Network.{Link, root, child, Label, unlabelled, class, Plot, Network, Place, absent, present, find}
use Rattle.semantics.specs.Network.{is_present, update, new_plot, with_domain, with_label}
use Rattle.semantics.specs.Relabelling.{Best, none, best, relabelling}
use Rattle.semantics.specs.Rules.{is_table, link_holds, label_holds, network_holds}
use Rattle.semantics.specs.Protocol.{Parent, nobody, named, Line, malformed_line, add_table, add_plot, set_domain, set_label}
use Rattle.semantics.specs.Protocol.{ask_relabelling, ask_supports, from_scanner, require, is_row, others, read_table, read_plot}
use Rattle.semantics.specs.Protocol.{read_domain, read_label, read_relabelling, read_supports, read_scanner, by_letter, by_first, read_line}
use Rattle.semantics.specs.Protocol.{is_untaken, WellRead}
use Rattle.semantics.specs.Notes.{Notes, tallied_for, all_lines, notes_hold}
use Rattle.semantics.specs.Engine.{Done, refused, done, refuse_if, quietly, tables_full, plots_full, some_stand, lacks_table, with_table}
use Rattle.semantics.specs.Engine.{add_child, add_below, with_plot, lacks_one_of, lacks, with_changed, with_domain_at, with_label_at}
use Rattle.semantics.specs.Engine.{relabel_by, supports_at, perform, State, start, Answer, refusal, answer, answer_of, state_after}
use Rattle.semantics.specs.Engine.{is_accepted, Step, line_tallied, tallied, lines_taken, run_over, untaken}
use Rattle.semantics.specs.Engine.{is_short, taken, step, Call, after, holds, checked}
use Rattle.semantics.proofs.Lists.{and_left, and_right}
use Rattle.semantics.proofs.Places.{found_stands, found}
use Rattle.semantics.proofs.Rules.{and_orders, PlotRules, stands_rules, NetworkRules, network-rules, rules-network, new_rules}
use Rattle.semantics.proofs.Rules.{table_more, plot_more, plot-changed}
use Rattle.semantics.proofs.Tallies.{length-tallied_for, all_lines-tallied_for}

require_well : (b : Bool) (n : ℕ) (l : Line) → is_untaken n ≡ false → (b ≡ true → WellRead l) → WellRead (require b n l)
require_well true n l o h = h refl
require_well false n l o h = o

cond_well : (b : Bool) (l m : Line) → WellRead l → WellRead m → WellRead (cond b l m)
cond_well true l m h k = h
cond_well false l m h k = k

-- a number in a range has a value in the range
pub within-value : (low high : ℕ) (n : Number) → within low high n ≡ true → (low ≤ value_of n) × (value_of n ≤ high)
within-value low high malformed h = absurd (false≢true h)
within-value low high (value n) h = and_orders low n n high h

masks : (fs : List (List ℕ)) → every is_row fs ≡ true → every (λ r. leb r max_mask) (map (λ f. value_of (number f)) fs) ≡ true
masks [] h = refl
masks (f ∷ fs) h =
    let first = within-value _ _ (number f) (and_left (is_row f) (every is_row fs) h) in
    rw (le-leb (value_of (number f)) max_mask (omega arith)) (masks fs (and_right (is_row f) (every is_row fs) h))

-- one field less behind the letter
rows_behind : (fs : List (List ℕ)) → length fs ≡ 1 + table_rows → length (others fs) ≡ table_rows
rows_behind [] e = absurd (omega arith)
rows_behind (f ∷ fs) e = omega arith

-- each kind of line in turn
table_well : (fs : List (List ℕ)) → WellRead (read_table fs)
table_well fs =
    require_well (eqb (length fs) (1 + table_rows)) 3 _ refl λ long.
    require_well (every (λ f. is_number (number f)) (others fs)) 5 _ refl λ numbers.
    require_well (every is_row (others fs)) 6 _ refl λ small.
    let eight : eqb (length (others fs)) table_rows ≡ true = eq-eqb _ _ (rows_behind fs (eqb-true (length fs) (1 + table_rows) long)) in
    rw (length-map, eight) (masks (others fs) small)

plot_well : (fs : List (List ℕ)) → WellRead (read_plot fs)
plot_well fs =
    let id = field fs 1 in
    let parent = field fs 2 in
    let table = field fs 3 in
    let k = field fs 4 in
    require_well (eqb (length fs) 5) 3 _ refl λ five.
    require_well (is_id id && (is_blank parent || is_id parent)) 4 _ refl λ ids.
    require_well ((is_blank table || is_number (number table)) && is_number (number k)) 5 _ refl λ numbers.
    require_well ((is_blank table || within 0 (max_tables - 1) (number table)) && within 1 max_classes (number k)) 6 _ refl λ ranges.
    require_well (cond (is_blank parent) (is_blank table) (not (is_blank table))) 7 _ refl λ pairs.
    let own = and_right (is_blank table || within 0 (max_tables - 1) (number table)) (within 1 max_classes (number k)) ranges in
    let r = within-value 1 max_classes (number k) own in
    (and_left (is_id id) (is_blank parent || is_id parent) ids, r.0, r.1)

domain_well : (fs : List (List ℕ)) → WellRead (read_domain fs)
domain_well fs =
    let mask = field fs 2 in
    require_well (eqb (length fs) 3) 3 _ refl λ three.
    require_well (is_id (field fs 1)) 4 _ refl λ ids.
    require_well (is_number (number mask)) 5 _ refl λ numbers.
    require_well (within 1 max_mask (number mask)) 6 _ refl λ ranges.
    (within-value 1 max_mask (number mask) ranges).0

label_well : (fs : List (List ℕ)) → WellRead (read_label fs)
label_well fs =
    let c = field fs 2 in
    require_well (eqb (length fs) 3) 3 _ refl λ three.
    require_well (is_id (field fs 1)) 4 _ refl λ ids.
    require_well (is_blank c || is_number (number c)) 5 _ refl λ numbers.
    require_well (is_blank c || within 0 (max_classes - 1) (number c)) 6 _ refl λ ranges. tt

relabelling_well : (fs : List (List ℕ)) → WellRead (read_relabelling fs)
relabelling_well fs = require_well (eqb (length fs) 1) 3 _ refl λ one. tt

supports_well : (fs : List (List ℕ)) → WellRead (read_supports fs)
supports_well fs =
    require_well (eqb (length fs) 2) 3 _ refl λ two.
    require_well (is_id (field fs 1)) 4 _ refl λ ids. tt

scanner_well : (fs : List (List ℕ)) → WellRead (read_scanner fs)
scanner_well fs =
    let n = number (field fs 1) in
    require_well (eqb (length fs) 2) 3 _ refl λ two.
    require_well (is_number n) 5 _ refl λ numbers.
    require_well (within 0 (max_scanners - 1) n) 6 _ refl λ ranges. omega (arith, (within-value 0 (max_scanners - 1) n ranges).1)

letter_well : (b : ℕ) (fs : List (List ℕ)) → WellRead (by_letter b fs)
letter_well b fs =
    cond_well (eqb b 84) (read_table fs) _ (table_well fs)
    (cond_well (eqb b 80) (read_plot fs) _ (plot_well fs)
    (cond_well (eqb b 83) (read_domain fs) _ (domain_well fs)
    (cond_well (eqb b 76) (read_label fs) _ (label_well fs)
    (cond_well (eqb b 82) (read_relabelling fs) _ (relabelling_well fs)
    (cond_well (eqb b 67) (read_supports fs) _ (supports_well fs)
    (cond_well (eqb b 72) (read_scanner fs) (malformed_line 2) (scanner_well fs) refl))))))

first_well : (f : List ℕ) (fs : List (List ℕ)) → WellRead (by_first f fs)
first_well [] fs = refl
first_well (b ∷ []) fs = letter_well b fs
first_well (b ∷ c ∷ bs) fs = refl

-- Of any bytes, what is read keeps the rules that need no network.
pub read_line_well_read : (line : List ℕ) → WellRead (read_line line)
read_line_well_read line =
    require_well (not (ltb max_line_bytes (length line))) 1 _ refl λ short. first_well (field (fields line) 0) (fields line)

has_label_lem : (p : Plot) (l : Label) → lacks p l ≡ false → label_holds p.classes l ≡ true
has_label_lem p unlabelled h = refl
has_label_lem p (class c) h = lt-ltb c p.classes (leb-false p.classes c h)

-- What a line leaves of a state before it is tallied: its network keeps the rules, its tallies are as they were, and lines come from one
-- of the scanners.
pub record Untallied (s t : State) : Type 0 where
  pub network : NetworkRules t.network
  pub tallies : t.notes.tallies ≡ s.notes.tallies
  pub scanner : t.notes.scanner < max_scanners

-- What comes of a line for a state is that, or a refusal with which the line is taken.
abbrev pub Keeps : State → Done → Type 0
Keeps s (refused m) = is_untaken m ≡ false
Keeps s (done t text) = Untallied s t

module _ (s : State) (r : NetworkRules s.network) (own : s.notes.scanner < max_scanners) where
  refuse_keeps : (b : Bool) (m : ℕ) (d : Done) → is_untaken m ≡ false → (b ≡ false → Keeps s d) → Keeps s (refuse_if b m d)
  refuse_keeps true m d o h = o
  refuse_keeps false m d o h = h refl

  -- a change of the network leaves the rest
  quietly_keeps : (tables : List (List ℕ)) (plots : List Plot) → NetworkRules (record { tables = tables; plots = plots })
      → Keeps s (quietly s tables plots)
  quietly_keeps tables plots k = record { network = k; tallies = refl; scanner = own }

  -- an answer changes nothing
  same-keeps : Untallied s s
  same-keeps = record { network = r; tallies = refl; scanner = own }

  abbrev n : Network
  n = s.network

  table_keeps : (rows : List ℕ) → is_table rows ≡ true → Keeps s (with_table s rows)
  table_keeps rows w =
      refuse_keeps (tables_full n) 11 _ refl λ room.
      let few : length n.tables < max_tables = omega (arith, leb-false) in
      quietly_keeps (n.tables ++ (rows ∷ [])) n.plots (table_more n r rows few w)

  -- a new plot, once there is room for it and its id is new
  module _ (id : List ℕ) (k : ℕ) (w : (is_id id ≡ true) × (1 ≤ k) × (k ≤ max_classes)) (few : length n.plots < max_plots)
      (new : is_present (find id n.plots) ≡ false) where
    link_keeps : (link : Link) → link_holds (length n.tables) (length n.plots) link ≡ true
        → Keeps s (quietly s n.tables (new_plot id link k ∷ n.plots))
    link_keeps link l =
        let t = length n.tables in
        quietly_keeps n.tables (new_plot id link k ∷ n.plots)
        (plot_more n r (new_plot id link k) few (new_rules t (length n.plots) id link k w.0 l w.1 w.2) new)

    child_keeps : (table : ℕ) (parent : List ℕ) (x : Place) → find parent n.plots ≡ x → Keeps s (add_child s id k table x)
    child_keeps table parent absent e = refl
    child_keeps table parent (present i p) e =
        refuse_keeps (lacks_table n table) 15 _ refl λ room.
        link_keeps (child i table) (rw (lt-ltb _ _ (found parent n.plots i p e).0, lt-ltb _ _ (leb-false _ _ room)))

    below_keeps : (parent : Parent) → Keeps s (add_below s id k parent)
    below_keeps nobody =
        refuse_keeps (some_stand n) 14 _ refl λ first.
        let empty : length n.plots ≤ 0 = ltb-false 0 _ first in
        link_keeps root (eq-eqb (length n.plots) 0 (omega arith))
    below_keeps (named parent table) = child_keeps table parent (find parent n.plots) refl

  plot_keeps : (id : List ℕ) (parent : Parent) (k : ℕ) → WellRead (add_plot id parent k) → Keeps s (with_plot s id parent k)
  plot_keeps id parent k w =
      refuse_keeps (plots_full n) 12 _ refl λ room.
      refuse_keeps (is_present (find id n.plots)) 13 _ refl λ new.
      let few : length n.plots < max_plots = omega (arith, leb-false) in
      below_keeps id k w few new parent

  -- the plot found, changed to one with the same id that keeps the rules of its position
  change_keeps : (id : List ℕ) (i : ℕ) (p : Plot) (f : Plot → Plot) → find id n.plots ≡ present i p → ((q : Plot) → (f q).id ≡ q.id)
      → (PlotRules (length n.tables) i p → PlotRules (length n.tables) i (f p)) → Keeps s (with_changed s i f)
  change_keeps id i p f e k new =
      let t = length n.tables in
      let here = (found_stands id n.plots i p e).0 in
      quietly_keeps n.tables (update i f n.plots) (plot-changed n r i f p k here (new (stands_rules t i p n.plots r.each_plot here)))

  domain_keeps : (id : List ℕ) (m : ℕ) → 1 ≤ m → (x : Place) → find id n.plots ≡ x → Keeps s (with_domain_at s m x)
  domain_keeps id m some absent e = refl
  domain_keeps id m some (present i p) e =
      refuse_keeps (lacks_one_of p m) 17 _ refl λ all.
      let within : m < 2 ^ p.classes = omega (arith, leb-false) in
      change_keeps id i p (with_domain m) e (λ q. refl) λ o.
      search

  label_keeps : (id : List ℕ) (l : Label) (x : Place) → find id n.plots ≡ x → Keeps s (with_label_at s l x)
  label_keeps id l absent e = refl
  label_keeps id l (present i p) e =
      refuse_keeps (lacks p l) 17 _ refl λ all.
      change_keeps id i p (with_label l) e (λ q. refl) λ o.
      search has_label_lem

  relabel_keeps : (b : Best (List ℕ)) → Keeps s (relabel_by s b)
  relabel_keeps none = refl
  relabel_keeps (best m a) = same-keeps

  supports_keeps : (x : Place) → Keeps s (supports_at s x)
  supports_keeps absent = refl
  supports_keeps (present i p) = same-keeps

  -- A line that keeps the rules by itself leaves those of the state kept.
  pub perform_keeps : (line : Line) → WellRead line → Keeps s (perform s line)
  perform_keeps (malformed_line m) w = w
  perform_keeps (add_table rows) w = table_keeps rows w
  perform_keeps (add_plot id parent k) w = plot_keeps id parent k w
  perform_keeps (set_domain id m) w = domain_keeps id m w (find id n.plots) refl
  perform_keeps (set_label id l) w = label_keeps id l (find id n.plots) refl
  perform_keeps ask_relabelling w = relabel_keeps (relabelling n)
  perform_keeps (ask_supports id) w = supports_keeps (find id n.plots)
  perform_keeps (from_scanner j) w = record { network = r; tallies = refl; scanner = w }

-- The rules of an unused run's state hold.
pub start-holds : holds start ≡ true
start-holds = refl

-- what a step may answer and leave: a state that keeps the rules, and any answer but 9
abbrev Answers : Answer → Type 0
Answers (refusal m) = eqb m 9 ≡ false
Answers (answer text) = Unit

abbrev StepKeeps : Step → Type 0
StepKeeps t = (holds t.state ≡ true) × Answers t.said

-- the rules of what is kept beside the network, as facts
pub record NotesRules (k : Notes) : Type 0 where
  pub each_tally : length k.tallies ≡ max_scanners
  pub has_scanner : k.scanner < max_scanners
  pub few_lines : all_lines k.tallies ≤ max_lines

pub notes-rules : (k : Notes) → notes_hold k ≡ true → NotesRules k
notes-rules k h =
    let long = eqb (length k.tallies) max_scanners in
    let own = ltb k.scanner max_scanners in
    let both : long && own ≡ true = and_left (long && own) (leb (all_lines k.tallies) max_lines) h in
    record {
      each_tally = eqb-true (length k.tallies) max_scanners (and_left long own both);
      has_scanner = ltb-true k.scanner max_scanners (and_right long own both);
      few_lines = leb-true (all_lines k.tallies) max_lines (and_right (long && own) (leb (all_lines k.tallies) max_lines) h);
    }

pub rules-notes : (k : Notes) → NotesRules k → notes_hold k ≡ true
rules-notes k r = rw (eq-eqb _ _ r.each_tally, lt-ltb _ _ r.has_scanner, le-leb _ _ r.few_lines) refl

-- a state that keeps the rules has a network and notes that do
pub network_kept : (s : State) → holds s ≡ true → network_holds s.network ≡ true
network_kept s h = and_left (network_holds s.network) (notes_hold s.notes) h

pub notes_kept : (s : State) → holds s ≡ true → notes_hold s.notes ≡ true
notes_kept s h = and_right (network_holds s.network) (notes_hold s.notes) h

-- one line more, where the run isn't over
pub rules-tallied : (k : Notes) (accepted : Bool) → NotesRules k → all_lines k.tallies < max_lines
    → NotesRules (record { tallies = tallied_for k.scanner accepted k.tallies; scanner = k.scanner })
rules-tallied k accepted r few =
    let long = length-tallied_for k.scanner accepted k.tallies in
    let more = all_lines-tallied_for k.scanner accepted k.tallies (omega (arith, r.each_tally, r.has_scanner)) in
    record { each_tally = long ∙ r.each_tally; has_scanner = r.has_scanner; few_lines = omega arith }

-- the rules of what is kept beside the network of a state that is left
untallied-rules : (s t : State) → NotesRules s.notes → Untallied s t → NotesRules t.notes
untallied-rules s t r k =
    record { each_tally = ap length k.tallies ∙ r.each_tally; has_scanner = k.scanner; few_lines = rw k.tallies r.few_lines }

-- what a line leaves before it is tallied, by what comes of it
pub untallied : (s : State) → NetworkRules s.network → NotesRules s.notes → (d : Done) → Keeps s d → Untallied s (state_after s d)
untallied s r o (refused m) k = record { network = r; tallies = refl; scanner = o.has_scanner }
untallied s r o (done t text) k = k

-- the rules hold of it
pub performed-holds : (s : State) (line : Line) → WellRead line → holds s ≡ true → holds (state_after s (perform s line)) ≡ true
performed-holds s line w h =
    let r = network-rules s.network (network_kept s h) in
    let o = notes-rules s.notes (notes_kept s h) in
    let t = state_after s (perform s line) in
    let u = untallied s r o (perform s line) (perform_keeps s r o.has_scanner line w) in
    rw (rules-network t.network u.network, rules-notes t.notes (untallied-rules s t o u)) refl

line_tallied-holds : (s : State) (a : Answer) → NetworkRules s.network → NotesRules s.notes → lines_taken s < max_lines
    → holds (line_tallied s a) ≡ true
line_tallied-holds s a r o few =
    rw (rules-network s.network r, rules-notes (line_tallied s a).notes (rules-tallied s.notes (is_accepted a) o few)) refl

-- none of those is 9
not_nine : (m : ℕ) → is_untaken m ≡ false → eqb m 9 ≡ false
not_nine m h = go (eqb m 9) h
  where
    go : (b : Bool) → b || (eqb m 10 || eqb m 19) ≡ false → b ≡ false
    go true e = absurd (true≢false e)
    go false e = refl

answers-keep : (s : State) (d : Done) → Keeps s d → Answers (answer_of d)
answers-keep s (refused m) k = not_nine m k
answers-keep s (done t text) k = tt

tallied_keeps : (s : State) (d : Done) → NetworkRules s.network → NotesRules s.notes → lines_taken s < max_lines → Keeps s d
    → StepKeeps (tallied s d)
tallied_keeps s d r o few k =
    let t = state_after s d in
    let u = untallied s r o d k in
    (line_tallied-holds t (answer_of d) u.network (untallied-rules s t o u) (rw u.tallies few), answers-keep s d k)

taken-sound : (s : State) (line : List ℕ) → holds s ≡ true → StepKeeps (taken s line)
taken-sound s line h = go (run_over s) refl
  where
    rules : NetworkRules s.network
    rules = network-rules s.network (network_kept s h)

    own : NotesRules s.notes
    own = notes-rules s.notes (notes_kept s h)

    go : (over : Bool) → run_over s ≡ over → StepKeeps (cond over (untaken s 19) (tallied s (perform s (read_line line))))
    go true e = (h, refl)
    go false e =
        let few : lines_taken s < max_lines = omega (arith, leb-false) in
        tallied_keeps s (perform s (read_line line)) rules own few
        (perform_keeps s rules own.has_scanner (read_line line) (read_line_well_read line))

step-sound : (s : State) (line : List ℕ) (room : ℕ) → holds s ≡ true → StepKeeps (step s line room)
step-sound s line room h = go (is_short room)
  where
    go : (short : Bool) → StepKeeps (cond short (untaken s 10) (taken s line))
    go true = (h, refl)
    go false = taken-sound s line h

-- No line leads from a state that keeps the rules to one that breaks them.
pub step-holds : (s : State) (line : List ℕ) (room : ℕ) → holds s ≡ true → holds (step s line room).state ≡ true
step-holds s line room h = (step-sound s line room h).0

-- No list of lines does.
pub after_holds : (s : State) (calls : List Call) → holds s ≡ true → holds (after s calls) ≡ true
after_holds s [] h = h
after_holds s (c ∷ cs) h = after_holds (step s c.line c.room).state cs (step-holds s c.line c.room h)

-- For a state that keeps the rules, testing them changes nothing.
pub checked-holds : (s : State) (line : List ℕ) (room : ℕ) → holds s ≡ true → checked s line room ≡ step s line room
checked-holds s line room h = rw h

-- 9 is given exactly where the buffer is long enough and the state breaks the rules.
pub nine_iff : (s : State) (line : List ℕ) (room : ℕ)
    → ((checked s line room).said ≡ refusal 9) ↔ ((is_short room ≡ false) × (holds s ≡ false))
nine_iff s line room = (λ e. given (is_short room) refl (holds s) refl e, λ k. rw (k.0, k.1))
  where
    given : (short : Bool) → is_short room ≡ short → (keeps : Bool) → holds s ≡ keeps
        → (cond short (untaken s 10) (cond keeps (taken s line) (untaken s 9))).said ≡ refusal 9 → (is_short room ≡ false) × (holds s ≡ false)
    given true a keeps b e = let z : ◌≡◌ {A = ℕ} 10 9 = cc in absurd (omega arith)
    given false a true b e = absurd (true≢false (rw e at (taken-sound s line b).1))
    given false a false b e = (a, b)

-- No list of lines from the start meets 9.
pub never_nine : (calls : List Call) (line : List ℕ) (room : ℕ) → (checked (after start calls) line room).said ≡ refusal 9 → ⊥
never_nine calls line room e =
    true≢false (sym (after_holds start calls start-holds) ∙ ((nine_iff (after start calls) line room).0 e).1)

-- How long what a line prints can be: it leaves room for the tallies.
use mathlib.Core.Path.{◌≡◌, refl}
use mathlib.Core.Bool.{Bool, true, false, cond, not}
use mathlib.Core.List.{List, [], ◌∷◌}
use Prim.Native.Nat.{ℕ, ◌≤◌, ◌<◌}
use native.Mathlib.Omega.{arith}
use lib.ListN.{length, length-append}
use lib.Dec.{ltb, lit≤}
use Rattle.semantics.specs.Limits.{max_line_bytes}
use Rattle.semantics.specs.Text.{fields, field}
use Rattle.semantics.specs.Network.{Network, Place, absent, present, find, is_present}
use Rattle.semantics.specs.Solutions.{support, supports}
use Rattle.semantics.specs.Relabelling.{Best, none, best, relabelling}
use Rattle.semantics.specs.Rules.{network_holds}
use Rattle.semantics.specs.Protocol.{Parent, nobody, named, Line, malformed_line, add_table, add_plot, set_domain, set_label, ask_relabelling}
use Rattle.semantics.specs.Protocol.{ask_supports, from_scanner, require, by_letter, by_first, read_line}
use Rattle.semantics.specs.Answers.{refusal_text}
use Rattle.semantics.specs.Engine.{Done, State, refuse_if, tables_full, plots_full, some_stand, lacks_table, lacks_one_of}
use Rattle.semantics.specs.Engine.{lacks, add_child, add_below, with_domain_at, with_label_at, relabel_by, supports_at, perform, answer_of}
use Rattle.semantics.specs.Engine.{tallied, run_over, taken, untaken, holds}
use Rattle.semantics.specs.Program.{printed}
use Rattle.semantics.specs.Network as model
use Rattle.semantics.proofs.Lists.{length_by, get_or_by}
use Rattle.semantics.proofs.Kept.{network_kept}
use Rattle.semantics.proofs.Places.{found_stands}
use Rattle.semantics.proofs.Rules.{network-rules, stands_rules}
use Rattle.semantics.proofs.Decimals.{length-below}
use Rattle.semantics.proofs.AnswerText.{relabelling-fits}
use Rattle.answers.proofs.Lengths.{supports-fits}
use Rattle.run.specs.Runs.{line_room}

-- a refusal's text is short, as its number is
refusal_short : (m : ℕ) → m < 100 → length (refusal_text m) ≤ line_room
refusal_short m h = simp length-append (omega (arith, length-below 1 m h))

-- a line that says nothing has a small number
abbrev Small : Line → Type 0
Small (malformed_line m) = m < 100
Small (add_table rows) = Unit
Small (add_plot id parent k) = Unit
Small (set_domain id m) = Unit
Small (set_label id l) = Unit
Small ask_relabelling = Unit
Small (ask_supports id) = Unit
Small (from_scanner n) = Unit

small_if : (b : Bool) (m : ℕ) (l : Line) → m < 100 → Small l → Small (require b m l)
small_if true m l h k = k
small_if false m l h k = h

small_else : (b : Bool) (l m : Line) → Small l → Small m → Small (cond b l m)
small_else true l m h k = h
small_else false l m h k = k

letter_small : (b : ℕ) (fs : List (List ℕ)) → Small (by_letter b fs)
letter_small b fs = search (small_if, small_else, lit≤, tt) depth 30

first_small : (f : List ℕ) (fs : List (List ℕ)) → Small (by_first f fs)
first_small [] fs = omega arith
first_small (b ∷ []) fs = letter_small b fs
first_small (b ∷ c ∷ bs) fs = omega arith

read_small : (line : List ℕ) → Small (read_line line)
read_small line = small_if (not (ltb max_line_bytes (length line))) 1 _ (omega arith) (first_small (field (fields line) 0) (fields line))

-- what is printed is short
abbrev Short : Done → Type 0
Short d = length (printed (answer_of d)) ≤ line_room

short_if : (b : Bool) (m : ℕ) (d : Done) → m < 100 → Short d → Short (refuse_if b m d)
short_if true m d h k = refusal_short m h
short_if false m d h k = k

-- What a line does to a state whose network keeps the rules, kind by kind.
module _ (s : State) (rules : network_holds s.network ≡ true) where
  abbrev n : Network
  n = s.network

  child_short : (id : List ℕ) (k table : ℕ) (x : Place) → Short (add_child s id k table x)
  child_short id k table absent = refusal_short 14 (omega arith)
  child_short id k table (present i p) = short_if (lacks_table n table) 15 _ (omega arith) (omega arith)

  below_short : (id : List ℕ) (k : ℕ) (above : Parent) → Short (add_below s id k above)
  below_short id k nobody = short_if (some_stand n) 14 _ (omega arith) (omega arith)
  below_short id k (named parent table) = child_short id k table (find parent n.plots)

  domain_short : (m : ℕ) (x : Place) → Short (with_domain_at s m x)
  domain_short m absent = refusal_short 16 (omega arith)
  domain_short m (present i p) = short_if (lacks_one_of p m) 17 _ (omega arith) (omega arith)

  label_short : (l : model.Label) (x : Place) → Short (with_label_at s l x)
  label_short l absent = refusal_short 16 (omega arith)
  label_short l (present i p) = short_if (lacks p l) 17 _ (omega arith) (omega arith)

  relabelling_short : (b : Best (List ℕ)) → relabelling n ≡ b → Short (relabel_by s b)
  relabelling_short none e = refusal_short 18 (omega arith)
  relabelling_short (best m a) e = relabelling-fits n rules m a e

  supports_short : (id : List ℕ) (x : Place) → find id n.plots ≡ x → Short (supports_at s x)
  supports_short id absent e = refusal_short 16 (omega arith)
  supports_short id (present i p) e =
      let own = stands_rules _ i p n.plots (network-rules n rules).each_plot (found_stands id n.plots i p e).0 in
      let all = length_by (support n i) p.classes in
      let few = supports-fits p.id (supports n i p) own.has_id (omega (arith, own.few_classes))
      (λ c l. rw (get_or_by (support n i) 0 p.classes c (omega arith)) (omega arith)) in
      omega arith

  performed_short : (line : Line) → Small line → Short (perform s line)
  performed_short (malformed_line m) h = refusal_short m h
  performed_short (add_table rows) h = short_if (tables_full n) 11 _ (omega arith) (omega arith)
  performed_short (add_plot id parent k) h =
      short_if (plots_full n) 12 _ (omega arith) (short_if (is_present (find id n.plots)) 13 _ (omega arith) (below_short id k parent))
  performed_short (set_domain id m) h = domain_short m (find id n.plots)
  performed_short (set_label id l) h = label_short l (find id n.plots)
  performed_short ask_relabelling h = relabelling_short (relabelling n) refl
  performed_short (ask_supports id) h = supports_short id (find id n.plots) refl
  performed_short (from_scanner j) h = omega arith

-- what a line prints, for a state that keeps the rules
pub prints_short : (s : State) (line : List ℕ) → holds s ≡ true → length (printed (taken s line).said) ≤ line_room
prints_short s line h = go (run_over s)
  where
    go : (over : Bool) → length (printed (cond over (untaken s 19) (tallied s (perform s (read_line line)))).said) ≤ line_room
    go true = refusal_short 19 (omega arith)
    go false = performed_short s (network_kept s h) (read_line line) (read_small line)

-- One line more of a scanner, where its tally stands.
use Rattle.std.proofs.Common.{◌≡◌, refl, ap, ◌∙◌, Bool, true, false, List, [], ◌∷◌, map, ℕ, zero, suc, ◌+◌, ◌≤◌, ◌<◌, arith, get_or, set}
use Rattle.std.proofs.lemmas.List.Sums.{sum_by-cons}
use Rattle.semantics.specs.Limits.{max_lines}
use Rattle.semantics.specs.Notes as model
use Rattle.semantics.specs.Notes.{tallied_for, lines_of, all_lines, notes_hold}
use Rattle.semantics.proofs.Tallies.{all_lines-tallied_for}
use Rattle.semantics.proofs.Kept.{NotesRules, notes-rules, rules-notes, rules-tallied}
use Rattle.notes.specs.declared.Tally.{Tally}
use Rattle.notes.specs.declared.Notes.{Notes}
use Rattle.notes.specs.Views.{as_tally, as_tallies, as_notes}
use Rattle.notes.specs.Tallied.{tally_with_line, notes_with_line}

abbrev none : Tally
none = record { accepted = 0; refusals = 0 }

-- one tally has no more lines than all
pub one-of_all : (ts : List Tally) (i : ℕ) → lines_of (as_tally (get_or ts i none)) ≤ all_lines (map as_tally ts)
one-of_all [] i = omega arith
one-of_all (t ∷ ts) zero = rw (sum_by-cons lines_of (as_tally t) (map as_tally ts)) (omega arith)
one-of_all (t ∷ ts) (suc i) = rw (sum_by-cons lines_of (as_tally t) (map as_tally ts)) (omega (arith, one-of_all ts i))

one-seen : (accepted : Bool) (t : Tally) → as_tally (tally_with_line accepted t) ≡ model.one_line_more accepted (as_tally t)
one-seen true t = refl
one-seen false t = refl

-- the tallies then stand for those of the definitions
pub tallied-seen : (ts : List Tally) (i : ℕ) (accepted : Bool)
    → map as_tally (set ts i (tally_with_line accepted (get_or ts i none))) ≡ tallied_for i accepted (map as_tally ts)
tallied-seen [] i accepted = refl
tallied-seen (t ∷ ts) zero accepted = ap (λ (h : model.Tally). h ∷ map as_tally ts) (one-seen accepted t)
tallied-seen (t ∷ ts) (suc i) accepted = ap (λ (hs : List model.Tally). as_tally t ∷ hs) (tallied-seen ts i accepted)

-- the rules stay kept where the run isn't over, and one line more is taken
module _ (k : Notes) (accepted : Bool) (h : notes_hold (as_notes k) ≡ true) (few : all_lines (as_tallies k.tallies) < max_lines) where
  own : NotesRules (as_notes k)
  own = notes-rules (as_notes k) h

  pub rules_stay : notes_hold (as_notes (notes_with_line accepted k)) ≡ true
  rules_stay =
      ap (λ (ts : List model.Tally). notes_hold (record { tallies = ts; scanner = k.scanner }))
      (tallied-seen k.tallies.each k.scanner accepted)
      ∙ rules-notes _ (rules-tallied (as_notes k) accepted own few)

  pub lines-with_line : all_lines (as_tallies (notes_with_line accepted k).tallies) ≡ all_lines (as_tallies k.tallies) + 1
  lines-with_line =
      ap all_lines (tallied-seen k.tallies.each k.scanner accepted)
      ∙ all_lines-tallied_for k.scanner accepted (as_tallies k.tallies) (omega (arith, own.each_tally, own.has_scanner))

-- What a run keeps beside the book: how many lines of each scanner it took, and which scanner lines come from (document 01: the tally;
-- 02: U5).
use Rattle.std.specs.Prelude.{Bool, true, false, ◌&&◌, List, [], ◌∷◌, ℕ, zero, suc, ◌+◌, ◌-◌, length, get_or, replicate, eqb, leb, ltb}
use Rattle.std.specs.Prelude.{sum_by}
use Rattle.semantics.specs.Limits.{max_scanners, max_lines}

-- how many lines of one scanner were accepted and how many refused
pub record Tally : Type 0 where
  pub accepted : ℕ
  pub refusals : ℕ

-- the tallies of all scanners, by their numbers, and the scanner that lines come from
pub record Notes : Type 0 where
  pub tallies : List Tally
  pub scanner : ℕ

-- no line is taken
abbrev pub no_lines : Tally
no_lines = record { accepted = 0; refusals = 0 }

-- those of an unused run: before any H lines come from scanner 0
abbrev pub unused : Notes
unused = record { tallies = replicate max_scanners no_lines; scanner = 0 }

-- those of a run once so many lines were accepted, all of them scanner 0's
abbrev pub only_accepted : ℕ → Notes
only_accepted n = record { tallies = record { accepted = n; refusals = 0 } ∷ replicate (max_scanners - 1) no_lines; scanner = 0 }

-- the tally of the scanner with a number
abbrev pub tally_of : List Tally → ℕ → Tally
tally_of ts n = get_or ts n no_lines

-- one line more, accepted or refused
abbrev pub one_line_more : Bool → Tally → Tally
one_line_more true t = record { accepted = t.accepted + 1; refusals = t.refusals }
one_line_more false t = record { accepted = t.accepted; refusals = t.refusals + 1 }

-- the tallies with one line more of the scanner with a number, and no other's moved
abbrev pub tallied_for : ℕ → Bool → List Tally → List Tally
tallied_for n accepted [] = []
tallied_for zero accepted (t ∷ ts) = one_line_more accepted t ∷ ts
tallied_for (suc n) accepted (t ∷ ts) = t ∷ tallied_for n accepted ts

-- the lines taken of one scanner, and of all together
abbrev pub lines_of : Tally → ℕ
lines_of t = t.accepted + t.refusals

abbrev pub all_lines : List Tally → ℕ
all_lines ts = sum_by lines_of ts

-- the rules of what is kept beside the book: a tally for each scanner, lines from one of them, and no more lines taken than a run has
abbrev pub notes_hold : Notes → Bool
notes_hold k = eqb (length k.tallies) max_scanners && ltb k.scanner max_scanners && leb (all_lines k.tallies) max_lines

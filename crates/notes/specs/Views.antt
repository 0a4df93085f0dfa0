-- What the structs stand for: the tallies and the notes of the definitions.
use Rattle.std.specs.Prelude.{◌≡◌, List, map, ℕ, replicate, sum_by}
use Rattle.semantics.specs.Limits.{max_scanners}
use Rattle.semantics.specs.Notes as model
use Rattle.semantics.specs.Notes.{unused}
use Rattle.notes.specs.declared.Tally.{Tally}
use Rattle.notes.specs.declared.Tallies.{Tallies}
use Rattle.notes.specs.declared.Notes.{Notes}

abbrev pub as_tally : Tally → model.Tally
as_tally t = record { accepted = t.accepted; refusals = t.refusals }

abbrev pub as_tallies : Tallies → List model.Tally
as_tallies t = map as_tally t.each

abbrev pub as_notes : Notes → model.Notes
as_notes k = record { tallies = as_tallies k.tallies; scanner = k.scanner }

-- how many lines of a scanner were refused, and of all scanners together
abbrev pub refused_of : model.Tally → ℕ
refused_of t = t.refusals

abbrev pub all_refused : List model.Tally → ℕ
all_refused ts = sum_by refused_of ts

-- the notes of an unused run, number for number
abbrev pub zeros : Notes
zeros = record { tallies = record { each = replicate max_scanners (record { accepted = 0; refusals = 0 }) }; scanner = 0 }

pub record Unused (k : Notes) : Type 0 where
  pub whole : k ≡ zeros
  pub seen : as_notes k ≡ unused

-- What one line more leaves of the structs, number for number.
use Rattle.std.specs.Prelude.{Bool, true, false, ℕ, ◌+◌, get_or, set}
use Rattle.notes.specs.declared.Tally.{Tally}
use Rattle.notes.specs.declared.Tallies.{Tallies}
use Rattle.notes.specs.declared.Notes.{Notes}

-- a tally with one line more, accepted or refused
abbrev pub tally_with_line : Bool → Tally → Tally
tally_with_line true t = record { accepted = t.accepted + 1; refusals = t.refusals }
tally_with_line false t = record { accepted = t.accepted; refusals = t.refusals + 1 }

-- the tallies with one line more of a scanner
abbrev pub tallies_with_line : ℕ → Bool → Tallies → Tallies
tallies_with_line i accepted t =
    record { each = set t.each i (tally_with_line accepted (get_or t.each i (record { accepted = 0; refusals = 0 }))) }

-- the notes with one line more of the scanner that lines come from
abbrev pub notes_with_line : Bool → Notes → Notes
notes_with_line accepted k = record { tallies = tallies_with_line k.scanner accepted k.tallies; scanner = k.scanner }

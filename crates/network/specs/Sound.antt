-- What a sound state is as a plain one, and what one line more leaves of that.
use Rattle.std.specs.Prelude.{Bool}
use Rattle.notes.specs.Tallied.{notes_with_line}
use Rattle.network.specs.declared.State.{State}
use Rattle.network.specs.declared.sound.Sound.{Sound}

-- the same network and notes
abbrev pub whole : Sound → State
whole s = record { network = s.network; notes = s.notes }

-- one line more of the scanner that lines come from
abbrev pub with_line : Bool → State → State
with_line accepted s = record { network = s.network; notes = notes_with_line accepted s.notes }

-- `answers::write_each_tally` meets its contract. The invariant: the lines of the scanners passed are written.
use Rattle.std.proofs.Common.{◌≡◌, ◌+◌, ◌*◌, ◌≤◌, length, map, take}
use Rattle.semantics.specs.Limits.{max_scanners}
use Rattle.semantics.specs.Answers.{tallies_text}
use Rattle.writing.specs.Pages.{place_of, Wrote}
use Rattle.notes.specs.Views.{as_tally}
use Rattle.answers.specs.Room.{tally_room}
use Rattle.answers.proofs.write_each_tally.Given as goal

abbrev pub invariant-loop-scanner : goal.invariant-loop-scanner
invariant-loop-scanner l =
    (length l.each ≡ max_scanners)
    × (place_of l.page ≤ place_of l.initial.page + tally_room * l.scanner)
    × Wrote l.initial.page (tallies_text 0 (map as_tally (take l.scanner l.each))) l.page

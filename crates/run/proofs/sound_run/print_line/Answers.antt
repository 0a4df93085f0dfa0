-- `run::print_line` meets its contract: `take_lines` gets the line alone, with byte 10 behind it.
use native.Mathlib.Omega.{arith}
use lib.ListN.{length-take}
use Rattle.run.proofs.Alone.{printing}
use Rattle.network.proofs.Standing.{sound_holds}
use Rattle.run.proofs.sound_run.print_line.Goals as goal

pub slice_bounds-take_lines-end : goal.slice_bounds-take_lines-end
slice_bounds-take_lines-end c = rw length-take (omega arith)

pub returns : goal.returns
returns c = search (printing, sound_holds)

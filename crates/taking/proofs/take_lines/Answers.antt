-- `taking::take_lines` meets its contract.
use Rattle.taking.proofs.Going.{start, turn, no_room, no_line_lem}
use Rattle.network.proofs.Standing.{sound_holds}
use Rattle.taking.proofs.take_lines.Goals as goal

pub loop-out-init : goal.loop-out-init
loop-out-init c = search start

pub loop-out-preserved : goal.loop-out-preserved
loop-out-preserved c = search (turn, sound_holds)

pub returns-after-loop-out : goal.returns-after-loop-out
returns-after-loop-out c = search (no_room, sound_holds)

pub returns-then-piece-stop : goal.returns-then-piece-stop
returns-then-piece-stop c = search (no_line_lem, sound_holds)

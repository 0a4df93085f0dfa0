-- `inputs::main` ends: each input moves on.
use Rattle.std.proofs.Common.{length}
use Rattle.inputs.proofs.main.Given as goal

abbrev pub decreases-loop-inputs : goal.decreases-loop-inputs
decreases-loop-inputs l = length l.inputs

-- `taking::take_line` meets its contract: 19 first, else the line does what the definitions say, and is tallied.
use mathlib.Core.Path.{refl}
use Rattle.network.specs.Sound.{whole}
use Rattle.network.proofs.Standing.{sound_holds}
use Rattle.taking.proofs.Taking.{line_taken}
use Rattle.taking.proofs.take_line.Goals as goal

pub returns-in-Ok-clause-answer : goal.returns-in-Ok-clause-answer
returns-in-Ok-clause-answer c =
    line_taken (whole c.args.s.now) c.args.line.now _ c.run_over.ensures c.if-run_over.false (whole c.obey.new.s) _ _ _
    (rw c.in-Ok.is at c.obey.ensures) _ (whole c.tally-in-Ok.new.self) (sound_holds c.args.s.now) c.lengths.ensures refl
    c.tally-in-Ok.ensures

pub returns-in-Err-clause-answer : goal.returns-in-Err-clause-answer
returns-in-Err-clause-answer c =
    line_taken (whole c.args.s.now) c.args.line.now _ c.run_over.ensures c.if-run_over.false (whole c.obey.new.s) _ _ _
    (rw c.in-Err.is at c.obey.ensures) _ (whole c.tally.new.self) (sound_holds c.args.s.now) c.lengths.ensures refl c.tally.ensures

-- `engine::step` meets its contract: 10, then 9, then the rest.
use Rattle.engine.proofs.Stepping.{short_refused, broken-refused, same-state}
use Rattle.engine.proofs.step.Goals as goal

pub returns-then-out-lt-MIN_ROOM : goal.returns-then-out-lt-MIN_ROOM
returns-then-out-lt-MIN_ROOM c = search short_refused

pub returns-in-None : goal.returns-in-None
returns-in-None c = search broken-refused

pub returns-in-Some : goal.returns-in-Some
returns-in-Some c = rw (same-state c.args.s _ c.of.ensures.kept c.in-Some.sound c.in-Some.is c.of.ensures.same) at c.step_on.ensures

-- What a run that can go on is as a plain one.
use Rattle.std.specs.Prelude.{Result, Ok, Err}
use Rattle.refusals.specs.declared.Refusal.{Refusal}
use Rattle.network.specs.Sound.{whole}
use Rattle.taking.specs.declared.Taken.{Taken}
use Rattle.run.specs.declared.Run.{Run}
use Rattle.run.specs.declared.Fed.{Fed}
use Rattle.run.specs.declared.sound_run.SoundRun.{SoundRun}
use Rattle.run.specs.Runs.{run_of, unfed}

-- the same state and line so far
abbrev pub whole_run : SoundRun → Run
whole_run s = run_of (whole s.state) s.pending

-- what a call of `feed` tells, with the run that it leaves
abbrev pub fed_of : Run → Result Taken Refusal → Fed
fed_of r (Ok t) = record { run = r; answer = Ok t.end; next = t.next }
fed_of r (Err q) = unfed r q

-- A run that can go on.
use Rattle.std.proofs.Common.{◌≡◌, true}
use Rattle.input.specs.declared.Pending.{Pending}
use Rattle.input.specs.Cutting.{no_line, is_open}
use Rattle.run.specs.declared.sound_run.SoundRun.{SoundRun}
use Rattle.run.specs.Runs.{is_sound}
use Rattle.run.specs.Sound.{whole_run}
use Rattle.run.proofs.Prints.{sound-run, none_open}

-- it keeps the rules
pub run-sound : (s : SoundRun) → is_sound (whole_run s) ≡ true
run-sound s = sound-run s.state s.pending s.line_open

-- a line of which nothing has come in
pub fresh_open : (p : Pending) → p ≡ no_line → is_open p ≡ true
fresh_open p e = rw e none_open

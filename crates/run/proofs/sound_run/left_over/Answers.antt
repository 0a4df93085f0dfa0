-- `run::left_over` meets its contract: no byte of the line that is coming in has come.
use Rattle.run.proofs.Pieces.{fresh_fits}
use Rattle.run.proofs.sound_run.left_over.Goals as goal

pub read_on-cut-requires-clause-length_le_kept_bytes : goal.read_on-cut-requires-clause-length_le_kept_bytes
read_on-cut-requires-clause-length_le_kept_bytes c = fresh_fits _ c.fresh-fresh.ensures

-- `text::id_at` meets its contract: both numbers give back their parts of the slot.
use Rattle.text.proofs.Ids.{read-slot}
use Rattle.text.proofs.id_at.Goals as goal

pub returns : goal.returns
returns c = search read-slot

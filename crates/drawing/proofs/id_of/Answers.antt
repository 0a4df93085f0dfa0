-- `drawing::id_of` meets its contract: what was written is read as an id.
use Rattle.drawing.proofs.Ids.{id_fits, id_read}
use Rattle.drawing.proofs.id_of.Goals as goal

pub write_id-end-requires : goal.write_id-end-requires
write_id-end-requires c = id_fits c.args.i c.requires

pub unwrap-requires : goal.unwrap-requires
unwrap-requires c = search id_read

-- `relay::send_text` meets its contract: the text is in the buffer, as there is room for that of any book.
use Rattle.run.specs.Sound.{whole_run}
use Rattle.run.proofs.Sound.{run-sound}
use Rattle.run.proofs.Whole.{text_goes, text-told, text-tallies}
use Rattle.relay.proofs.Sending.{text-room}
use Rattle.relay.proofs.send_text.Goals as goal

pub unwrap-length-requires : goal.unwrap-length-requires
unwrap-length-requires g c =
    let sound = run-sound c.args.r in
    text_goes (whole_run c.args.r) c.args.out.now c.finish_text-saved.result _ c.finish_text-saved.ensures sound
    (text-room (whole_run c.args.r) c.args.out.now sound c.requires)

pub returns : goal.returns
returns g c =
    let r = whole_run c.args.r in
    let sound = run-sound c.args.r in
    let room = text-room r c.args.out.now sound c.requires in
    let saved = c.finish_text-saved in
    let told = text-told r c.args.out.now saved.result saved.new.out saved.ensures sound room c.unwrap-length.result c.unwrap-length.ensures in
    let put = rw told at c.in_ok-put.ensures in
    (put.0, put.1, text-tallies r c.args.out.now saved.result saved.new.out saved.ensures sound room)

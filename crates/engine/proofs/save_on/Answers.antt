-- `engine::save_on` meets its contract: 20, or the text. Where the buffer isn't shorter than every text can be, it has room for this one.
use Rattle.std.proofs.Common.{refl, arith}
use Rattle.semantics.proofs.Saved.{text-fits}
use Rattle.network.specs.View.{view}
use Rattle.engine.proofs.OtherCalls.{text_short, text_told}
use Rattle.engine.proofs.save_on.Goals as goal

pub write_network-requires : goal.write_network-requires
write_network-requires c = grind (arith, text-fits (view c.args.s.now.network) c.args.s.now.network_rules)

pub returns-then-out-text_length : goal.returns-then-out-text_length
returns-then-out-text_length c = text_short c.args.s.now.network c.args.out.now _ c.text_length.ensures (omega arith)

pub returns : goal.returns
returns c =
    let n = c.args.s.now.network in
    text_told n c.args.out.now _ refl _ _ (grind (arith, text-fits (view n) c.args.s.now.network_rules)) c.write_network.ensures.next
    c.write_network.ensures.written

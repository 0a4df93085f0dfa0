-- `drawing::print` meets its contract: the text is there already, a refusal's is written.
use Rattle.std.proofs.Common.{◌≡◌, length, rules, arith}
use Rattle.performing.proofs.Printing.{refusal-fits}
use Rattle.drawing.proofs.Answering.{text_long, text_there, refusal_long, refusal_there}
use Rattle.drawing.proofs.print.Goals as goal

pub write_refusal-requires : goal.write_refusal-requires
write_refusal-requires c =
    let same : length c.generate.new.out ≡ length c.args.out.now = search rules in
    refusal-fits c.number_of.result c.generate.new.out (search rules) (omega arith)

pub returns-in-Ok-clause-wrote : goal.returns-in-Ok-clause-wrote
returns-in-Ok-clause-wrote c = search text_long

pub returns-in-Ok-clause-buffer : goal.returns-in-Ok-clause-buffer
returns-in-Ok-clause-buffer c = search text_there

pub returns-in-Err-clause-wrote : goal.returns-in-Err-clause-wrote
returns-in-Err-clause-wrote c = search refusal_long

pub returns-in-Err-clause-buffer : goal.returns-in-Err-clause-buffer
returns-in-Err-clause-buffer c = search refusal_there

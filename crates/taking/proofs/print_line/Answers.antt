-- `taking::print_line` meets its contract: an answer is there already, a refusal's text is written.
use Rattle.performing.proofs.Printing.{answer_bytes, answer_over, refusal_bytes, refusal_over, refusal-fits}
use borrow.Author.Rules.{rules}
use Rattle.taking.proofs.print_line.Goals as goal

pub returns-in-Ok-clause-wrote : goal.returns-in-Ok-clause-wrote
returns-in-Ok-clause-wrote c = search answer_bytes

pub returns-in-Ok-clause-buffer : goal.returns-in-Ok-clause-buffer
returns-in-Ok-clause-buffer c = search answer_over

pub write_refusal-requires : goal.write_refusal-requires
write_refusal-requires c = refusal-fits c.number_of.result c.take_line.new.out (search rules) (search rules)

pub returns-in-Err-clause-wrote : goal.returns-in-Err-clause-wrote
returns-in-Err-clause-wrote c = search refusal_bytes

pub returns-in-Err-clause-buffer : goal.returns-in-Err-clause-buffer
returns-in-Err-clause-buffer c = search refusal_over

-- `answers::write_refusal` meets its contract: three pieces, one behind the other.
use Rattle.std.proofs.Common.{rules}
use Rattle.semantics.specs.Answers.{refusal_text}
use Rattle.writing.specs.Pages.{Wrote}
use Rattle.writing.proofs.Pages.{wrote_three, told}
use Rattle.answers.proofs.write_refusal.Goals as goal

pub returns-clause-written : goal.returns-clause-written
returns-clause-written c =
    let all : Wrote c.new-page.result (refusal_text c.args.number) c.byte.new.self = search wrote_three in
    search (rules, told)

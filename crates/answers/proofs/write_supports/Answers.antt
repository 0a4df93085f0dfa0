-- `answers::write_supports` meets its contract: four pieces, one behind the other.
use Rattle.std.proofs.Common.{rules}
use Rattle.semantics.specs.Answers.{supports_text}
use Rattle.text.specs.Ids.{id_bytes}
use Rattle.writing.specs.Pages.{Wrote}
use Rattle.writing.proofs.Pages.{wrote_four, told}
use Rattle.support.specs.Beliefs.{as_belief}
use Rattle.answers.proofs.write_supports.Goals as goal

pub returns-clause-written : goal.returns-clause-written
returns-clause-written c =
    let all : Wrote c.new-page.result (supports_text (id_bytes c.args.id) c.args.counts.now (as_belief c.args.b)) c.byte.new.self =
    search wrote_four in
    search (rules, told)

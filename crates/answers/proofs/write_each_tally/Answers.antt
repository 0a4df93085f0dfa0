-- `answers::write_each_tally` meets its contract: a turn writes the line of one scanner more.
use Rattle.std.proofs.Common.{arith}
use Rattle.writing.proofs.Pages.{wrote_two}
use Rattle.answers.proofs.Tallies.{tallies_more}
use Rattle.answers.proofs.write_each_tally.Goals as goal

pub loop-scanner-preserved : goal.loop-scanner-preserved
loop-scanner-preserved c =
    let one =
    tallies_more c.args.each.now c.loop-scanner.scanner (record { accepted = 0; refusals = 0 })
    (omega (arith, c.loop-scanner.invariant.0)) in
    (c.loop-scanner.invariant.0, omega (arith, c.write_tally.ensures.short), search wrote_two)

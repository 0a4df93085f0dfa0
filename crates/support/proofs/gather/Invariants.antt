-- `support::gather` meets its contract. The invariant: what is still to be sent, sent from here, gives the whole.
use mathlib.Core.Path.{◌≡◌}
use Rattle.messages.specs.Pass.{gathered}
use Rattle.support.specs.Paths.{folded_counts, told_through, gathered_through}
use Rattle.support.proofs.gather.Given as goal

abbrev pub invariant-loop-j : goal.invariant-loop-j
invariant-loop-j l =
    let n = l.s.network in
    gathered folded_counts (told_through l.spread.tables.now) n l.path l.j l.rows ≡ gathered_through n l.path l.spread.tables.now l.initial.rows

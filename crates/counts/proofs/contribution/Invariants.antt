-- `counts::contribution` meets its contract. The invariant: the sum is that over the classes so far, and small enough for the others.
use Rattle.std.proofs.Common.{◌≡◌, ◌*◌, ◌≤◌, get_or}
use Rattle.semantics.specs.Limits.{max_count}
use Rattle.counts.specs.HeldRows.{added}
use Rattle.counts.proofs.contribution.Given as goal

abbrev pub invariant-loop-b : goal.invariant-loop-b
invariant-loop-b l = (l.sum ≡ added l.counts (λ b. get_or l.column b 0) l.b) × (l.sum ≤ l.b * max_count)

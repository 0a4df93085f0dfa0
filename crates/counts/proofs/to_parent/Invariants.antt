-- `counts::to_parent` meets its contract. The invariant: the sums are those over the first c classes, each small enough for the others.
use Rattle.std.proofs.Common.{◌≡◌, ℕ, ◌*◌, ◌≤◌, get_or}
use Rattle.semantics.specs.Limits.{max_count}
use Rattle.counts.proofs.Sums.{sums_up}
use Rattle.counts.proofs.to_parent.Given as goal

abbrev pub invariant-loop-c : goal.invariant-loop-c
invariant-loop-c l = (l.sums ≡ sums_up l.counts l.columns l.c) × ((b : ℕ) → get_or l.sums b 0 ≤ l.c * max_count)

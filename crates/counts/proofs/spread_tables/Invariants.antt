-- `counts::spread_tables` meets its contract. The invariant: the first t tables are spread.
use Rattle.std.proofs.Common.{◌≡◌}
use Rattle.counts.specs.HeldRows.{spread_tables}
use Rattle.counts.proofs.spread_tables.Given as goal

abbrev pub invariant-loop-t : goal.invariant-loop-t
invariant-loop-t l = l.spread ≡ spread_tables l.rows l.t

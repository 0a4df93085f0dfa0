-- `performing::add_table` meets its contract.
use Rattle.std.proofs.Common.{ℕ, ◌<◌, get_or, rules}
use Rattle.semantics.specs.Protocol.{add_table}
use Rattle.network.specs.Sound.{whole}
use Rattle.network.proofs.Ruled.{is_table_lem}
use Rattle.performing.proofs.Editing.{network_ruled, table_full, table_more}
use Rattle.performing.proofs.add_table.Goals as goal

pub returns-then-s-ge-MAX_TABLES : goal.returns-then-s-ge-MAX_TABLES
returns-then-s-ge-MAX_TABLES c = search table_full

pub invariant_of-s-clause-network_rules : goal.invariant_of-s-clause-network_rules
invariant_of-s-clause-network_rules c =
    let low : (i : ℕ) → get_or c.args.rows i 0 < 256 = search rules in
    network_ruled c.args.s.now (add_table c.args.rows) (is_table_lem c.args.rows (search rules) (λ i k. low i)) c.lengths.ensures
    c.add_table.new.n
    (table_more (whole c.args.s.now) c.args.rows c.add_table.new.n c.if-s-ge-MAX_TABLES.false c.add_table.ensures)

pub returns : goal.returns
returns c = search table_more

-- `network::tables_hold` meets its contract.
use Rattle.std.proofs.Common.{ℕ, ◌<◌, get_or, rules}
use Rattle.network.proofs.Ruled as ruled
use Rattle.network.proofs.tables_hold.Goals as goal

pub returns : goal.returns
returns c =
    let low : (i : ℕ) → get_or c.args.rows i 0 < 256 = search rules in
    ruled.tables_hold _ _ (search rules) low c.requires

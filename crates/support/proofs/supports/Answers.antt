-- `support::supports` meets its contract: what the passes give is what `counts_spread` says of them.
use Rattle.std.proofs.Common.{◌≡◌, ◌∙◌, rules, refl}
use Rattle.messages.specs.Rows.{own_rows}
use Rattle.messages.proofs.Own.{own_made}
use Rattle.counts.specs.HeldRows.{own_counts}
use Rattle.support.proofs.Through.{network_bits, counts_spread}
use Rattle.support.proofs.supports.Goals as goal

pub invariant_of-spread : goal.invariant_of-spread
invariant_of-spread c = search network_bits

pub returns : goal.returns
returns c =
    let own : c.own_rows.new.rows ≡ own_rows own_counts c.args.s.now.network =
    own_made own_counts c.args.s.now.network _ _ _ c.own_rows.ensures (λ d l r p. search rules) refl in
    c.descend.ensures ∙ search counts_spread

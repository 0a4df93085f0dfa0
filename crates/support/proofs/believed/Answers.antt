-- `support::believed` meets its contract: no class has a count, or one and another, or one alone.
use Rattle.std.proofs.Common.{◌∙◌, sym}
use Rattle.support.proofs.Beliefs.{unsupported, many, alone}
use Rattle.support.proofs.believed.Goals as goal

pub returns-in_err-first : goal.returns-in_err-first
returns-in_err-first c =
    rw c.from_residual.ensures (unsupported _ _ c.next_supported.ensures c.in_err-first.was)

pub returns-then-is_some : goal.returns-then-is_some
returns-then-is_some c =
    many _ _ c.next_supported.ensures _ c.in_ok-first.was _ c.next_supported-2.ensures (sym c.is_some.ensures ∙ c.if-is_some.true)

pub returns : goal.returns
returns c =
    alone _ _ c.next_supported.ensures _ c.in_ok-first.was _ c.next_supported-2.ensures (sym c.is_some.ensures ∙ c.if-is_some.false)

-- `relay::take_piece` meets its contract: call by call.
use Rattle.std.proofs.Common.{rules}
use Rattle.run.specs.Sound.{whole_run}
use Rattle.relay.proofs.Sending.{fed_more, used_up, cut_off}
use Rattle.relay.proofs.take_piece.Goals as goal

pub returns-in_err-put : goal.returns-in_err-put
returns-in_err-put g c =
    cut_off _ _ _ _ _ _ _ _ c.loop-rest.invariant.0 (whole_run c.feed.new.self) _ c.put.new.sent _ c.in_err-put.field-0.0 c.from_residual.ensures.1 c.in_err-put.ensures

pub loop-rest-preserved : goal.loop-rest-preserved
loop-rest-preserved g c = (
  fed_more _ _ _ _ _ _ _ _ c.loop-rest.invariant.0 _ _ (whole_run c.feed.new.self) c.unwrap-taken.result
      (rw c.unwrap-taken.ensures at c.feed.ensures) _ _ c.in_ok-put.ensures,
  search rules,
)

pub returns : goal.returns
returns g c = used_up _ _ _ _ _ _ _ _ c.loop-rest.invariant.0 (search rules)

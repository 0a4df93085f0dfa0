-- `relay::relay` meets its contract.
use Rattle.std.proofs.Common.{refl}
use Rattle.relay.proofs.Sending.{sent_some, relayed}
use Rattle.relay.proofs.relay.Goals as goal

pub returns-in-Err : goal.returns-in-Err
returns-in-Err g c = let all = rw c.in-Err.is at c.take_all.ensures in sent_some _ _ _ _ c.in-Err.failure _ _ _ _ all all.endless refl

pub returns-in-Ok : goal.returns-in-Ok
returns-in-Ok g c =
    relayed _ _ _ _ c.in-Ok.r _ _ _ _ (rw c.in-Ok.is at c.take_all.ensures) _ c.send_end-outcome.ensures

-- `messages::own_rows` meets its contract. The invariant: the rows of the first i plots are made.
use Rattle.std.proofs.Common.{length-set}
use Rattle.network.proofs.Standing.{few-plots}
use Rattle.messages.proofs.Own.{made_none, made_more}
use Rattle.messages.proofs.start.own_rows.Goals as goal

pub loop-i-init : goal.loop-i-init
loop-i-init g c = search made_none

-- a row stored leaves as many rows, so that a position among them stays one
pub loop-i-preserved : goal.loop-i-preserved
loop-i-preserved g c = search (made_more, few-plots, length-set)

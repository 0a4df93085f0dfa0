-- `relay::take_all` meets its contract. The invariant: what was read so far was fed, and what it prints was sent.
use Rattle.std.proofs.Common.{◌≡◌, length}
use Rattle.relay.proofs.Sending.{ReadUpTo}
use Rattle.relay.proofs.take_all.Given as goal

abbrev pub invariant-loop : goal.invariant-loop
invariant-loop g l = ReadUpTo l.initial.read l.initial.sent (g.R.Read.remaining l.initial.from) (g.W.Write.contents l.initial.to) l.counter l.r l.read l.sent
    (g.R.Read.remaining l.from) (g.W.Write.contents l.to)
    × (length l.out ≡ length l.initial.out) × (length l.input ≡ 65536)

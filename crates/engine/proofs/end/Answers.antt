-- `engine::end` meets its contract: 10, then 9, then the text.
use Rattle.engine.proofs.OtherCalls.{end_short, end-broken, end_told}
use Rattle.engine.proofs.end.Goals as goal

pub returns-then-out-lt-MIN_ROOM : goal.returns-then-out-lt-MIN_ROOM
returns-then-out-lt-MIN_ROOM c = search end_short

pub returns-then-not-holds : goal.returns-then-not-holds
returns-then-not-holds c = search end-broken

pub returns : goal.returns
returns c = search end_told

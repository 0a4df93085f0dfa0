-- `support::next_supported` meets its contract: a class is found by its count.
use Rattle.std.proofs.Common.{rules, ◌≤◌, ◌<◌, get_or}
use Rattle.std.proofs.lemmas.Iterator.{first_from_Range}
use Rattle.support.proofs.next_supported.Goals as goal

pub returns : goal.returns
returns c =
    first_from_Range _ _ _ _ (λ i. 0 < get_or c.args.counts.now i 0) (λ i. get_or c.args.counts.now i 0 ≤ 0) c.find.ensures.ran
    (λ i q call. search rules) (λ i q call. search rules)

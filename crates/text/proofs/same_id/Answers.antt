-- `text::same_id` meets its contract: by the first number, or else by the second.
use Rattle.text.proofs.Ids.{differs, by_back}
use Rattle.text.proofs.same_id.Goals as goal

pub returns-then-id-word_of : goal.returns-then-id-word_of
returns-then-id-word_of c = search differs

pub returns : goal.returns
returns c = search by_back

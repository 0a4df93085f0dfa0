-- `messages::column_of` meets its contract: the bit of each class of the parent.
use Rattle.std.proofs.Common.{◌/◌, ◌%◌, ◌^◌, get_or, rules}
use Rattle.stored.specs.Values.{table_at}
use Rattle.messages.specs.Columns.{column_of}
use Rattle.messages.proofs.Made.{row_made}
use Rattle.messages.proofs.column_of.Goals as goal

pub returns : goal.returns
unfolding column_of
returns c =
    row_made (λ b. get_or (table_at c.args.rows.now c.args.table) b 0 / 2 ^ c.args.c % 2) 0 _ _ (λ b x next l call. search rules)
    c.from_fn.ensures.items

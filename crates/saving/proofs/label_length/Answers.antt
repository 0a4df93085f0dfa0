-- `saving::label_length` meets its contract: a class is low.
use Rattle.std.proofs.Common.{arith}
use Rattle.saving.proofs.Stands.{plot_within, label_low}
use Rattle.saving.proofs.label_length.Goals as goal

pub label_at-requires : goal.label_at-requires
label_at-requires c = search plot_within

pub id_at-requires : goal.id_at-requires
id_at-requires c = search plot_within

pub overflow_cast-c : goal.overflow_cast-c
overflow_cast-c c = omega (arith, label_low c.args.s.now c.args.i c.requires c.in-Some.c c.in-Some.ensures)

-- `drawing::generate` meets its contract: 6, or the text of the network that was drawn, which keeps the rules.
use Rattle.std.proofs.Common.{◌≤◌, arith}
use Rattle.semantics.specs.Limits.{max_plots}
use Rattle.drawing.proofs.Answering.{not_drawn, drawn_saved, plots_fit}
use Rattle.drawing.proofs.generate.Goals as goal

pub returns-then-not-can_draw : goal.returns-then-not-can_draw
returns-then-not-can_draw c = search not_drawn

pub drawn-requires : goal.drawn-requires
drawn-requires c = let few : c.args.plots ≤ max_plots = search plots_fit in omega arith

pub returns : goal.returns
returns c = search drawn_saved

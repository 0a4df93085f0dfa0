-- `drawing::draw_plot` meets its contract: what was drawn is put behind the plots that stand.
use Rattle.drawing.proofs.Plots.{plot_put}
use Rattle.drawing.proofs.draw_plot.Goals as goal

pub returns : goal.returns
returns c = search plot_put

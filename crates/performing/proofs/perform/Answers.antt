-- `performing::perform` meets its contract, by the kind of line.
use Rattle.performing.proofs.perform.Goals as goal

pub returns-in-AddTable : goal.returns-in-AddTable
returns-in-AddTable c = rw c.in-AddTable.is (c.add_table.ensures c.args.out.now)

pub returns-in-AddPlot : goal.returns-in-AddPlot
returns-in-AddPlot c = rw c.in-AddPlot.is (c.add_plot.ensures c.args.out.now)

pub returns-in-SetDomain : goal.returns-in-SetDomain
returns-in-SetDomain c = rw c.in-SetDomain.is (c.set_domain.ensures c.args.out.now)

pub returns-in-SetLabel : goal.returns-in-SetLabel
returns-in-SetLabel c = rw c.in-SetLabel.is (c.set_label.ensures c.args.out.now)

pub returns-in-FromScanner : goal.returns-in-FromScanner
returns-in-FromScanner c = rw c.in-FromScanner.is (c.set_scanner.ensures c.args.out.now)

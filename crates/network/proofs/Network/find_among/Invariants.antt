-- `Network::find_among` meets its contract. The invariant: the id stands among the first i plots where it stands among all.
use mathlib.Core.Path.{◌≡◌}
use Rattle.text.specs.Ids.{id_bytes}
use Rattle.network.specs.Found.{lookup}
use Rattle.network.proofs.Network.find_among.Given as goal

abbrev pub invariant-loop-i : goal.invariant-loop-i
invariant-loop-i l = lookup (id_bytes l.id) l.self.ids l.i ≡ lookup (id_bytes l.id) l.self.ids l.plots

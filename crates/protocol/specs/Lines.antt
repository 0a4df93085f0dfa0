-- What a line stands for, or the refusal in its place.
use Rattle.std.specs.Prelude.{Option, None, Some, Result, Ok, Err}
use Rattle.semantics.specs.Protocol as model
use Rattle.semantics.specs.Protocol.{nobody, named, malformed_line, add_table, add_plot, set_domain, set_label, ask_relabelling}
use Rattle.semantics.specs.Protocol.{ask_supports, from_scanner}
use Rattle.text.specs.Ids.{id_bytes}
use Rattle.stored.specs.Values.{as_label}
use Rattle.refusals.specs.declared.Refusal.{Refusal}
use Rattle.refusals.specs.Refusals.{number_of}
use Rattle.protocol.specs.declared.Above.{Above}
use Rattle.protocol.specs.declared.Line.{Line}
use Rattle.protocol.specs.declared.Line.TheVariants.{AddTable, AddPlot, SetDomain, SetLabel, AskRelabelling, AskSupports, FromScanner}

-- what a P line names above its plot, as the definitions have it
abbrev pub as_above : Option Above → model.Parent
as_above None = nobody
as_above (Some a) = named (id_bytes a.parent) a.table

-- a line, as the definitions have it
abbrev pub as_line : Line → model.Line
as_line (AddTable rows) = add_table rows
as_line (AddPlot id above classes) = add_plot (id_bytes id) (as_above above) classes
as_line (SetDomain id mask) = set_domain (id_bytes id) mask
as_line (SetLabel id label) = set_label (id_bytes id) (as_label label)
as_line AskRelabelling = ask_relabelling
as_line (AskSupports id) = ask_supports (id_bytes id)
as_line (FromScanner n) = from_scanner n

-- what is read of any bytes: a line, or why it says nothing
abbrev pub as_read : Result Line Refusal → model.Line
as_read (Ok l) = as_line l
as_read (Err q) = malformed_line (number_of q)

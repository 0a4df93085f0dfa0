-- What a line leaves of the struct, byte for byte, by what the definitions say that it does; and the counts of a plot that is asked for.
use Rattle.std.specs.Prelude.{Option, Some, None, Result, Ok, Err, Bool, false, ◌++◌, ℕ, ◌-◌, replicate, leb}
use Rattle.refusals.specs.declared.Refusal.{Refusal}
use Rattle.semantics.specs.Limits.{max_classes}
use Rattle.semantics.specs.Network as model
use Rattle.semantics.specs.Network.{unlabelled, class, Place, absent, present, find}
use Rattle.semantics.specs.Solutions.{supports, belief}
use Rattle.semantics.specs.Protocol.{
  Parent,
  nobody,
  named,
  Line,
  malformed_line,
  add_table,
  add_plot,
  set_domain,
  set_label,
  ask_relabelling,
  ask_supports,
  from_scanner,
}
use Rattle.semantics.specs.Engine.{Done, refused, done, Returned, refused_with, wrote_bytes}
use Rattle.text.specs.Ids.{padded}
use Rattle.stored.specs.declared.Link.{Link}
use Rattle.stored.specs.Values.{below, to_label, label_byte}
use Rattle.network.specs.declared.Network.{Network}
use Rattle.network.specs.declared.State.{State}
use Rattle.network.specs.View.{view}
use Rattle.editing.specs.Edits.{table_stored, plot_stored, domain_stored, label_stored}
use Rattle.refusals.specs.Refusals.{number_of}
use Rattle.support.specs.Beliefs.{to_belief}
use Rattle.performing.specs.declared.PlotCounts.{PlotCounts}

-- the code's answer, as 01 has it
abbrev pub returned : Result ℕ Refusal → Returned
returned (Err q) = refused_with (number_of q)
returned (Ok n) = wrote_bytes n

-- the position of a plot that was found
abbrev pub position_of : Place → ℕ
position_of absent = 0
position_of (present i p) = i

-- the link below what a P line names, as the code has it
abbrev pub link_to : Network → Parent → Option Link
link_to n nobody = None
link_to n (named parent table) = below (position_of (find parent (view n).plots)) table

-- the state with another network
abbrev pub with_network : State → Network → State
with_network s n = record { network = n; notes = s.notes }

-- the state with another scanner that lines come from
abbrev pub scanner_stored : State → ℕ → State
scanner_stored s n = record { network = s.network; notes = record { tallies = s.notes.tallies; scanner = n } }

-- the struct, byte for byte, once the edit of a line is made
abbrev pub edited : State → Line → State
edited s (malformed_line m) = s
edited s (add_table rows) = with_network s (table_stored s.network rows)
edited s (add_plot id parent k) = with_network s (plot_stored s.network (padded id) (link_to s.network parent) k)
edited s (set_domain id m) = with_network s (domain_stored s.network (position_of (find id (view s.network).plots)) m)
edited s (set_label id l) = with_network s (label_stored s.network (position_of (find id (view s.network).plots)) (label_byte (to_label l)))
edited s ask_relabelling = s
edited s (ask_supports id) = s
edited s (from_scanner n) = scanner_stored s n

-- the struct that a line leaves: as it was after a refusal
abbrev pub struct_after : State → Line → Done → State
struct_after s line (refused m) = s
struct_after s line (done t text) = edited s line

-- a plot of k classes lacks the class of a label
abbrev pub lacks_label : ℕ → model.Label → Bool
lacks_label k unlabelled = false
lacks_label k (class c) = leb k c

-- the counts of a plot that was looked for, and what is believed by them: zeros past its classes
abbrev pub counts_found : model.Network → Place → Option PlotCounts
counts_found n absent = None
counts_found n (present i p) =
    Some (record {
      classes = p.classes;
      counts = supports n i p ++ replicate (max_classes - p.classes) 0;
      belief = to_belief (belief (supports n i p));
    })

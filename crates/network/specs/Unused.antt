-- The state of an unused run, byte for byte.
use Rattle.std.specs.Prelude.{◌≡◌, ◌*◌, replicate}
use Rattle.semantics.specs.Limits.{max_tables, max_plots, table_rows}
use Rattle.semantics.specs.Engine.{start}
use Rattle.text.specs.Ids.{slot_bytes}
use Rattle.notes.specs.Views.{zeros as no_notes}
use Rattle.network.specs.declared.Network.{Network}
use Rattle.network.specs.declared.State.{State}
use Rattle.network.specs.View.{view_state}

-- a struct of zeros
abbrev pub zeros : State
zeros =
    record {
      network =
          record {
            tables = 0;
            rows = replicate (max_tables * table_rows) 0;
            plots = 0;
            ids = replicate (max_plots * slot_bytes) 0;
            parents = replicate max_plots 0;
            through = replicate max_plots 0;
            classes = replicate max_plots 0;
            domains = replicate max_plots 0;
            labels = replicate max_plots 0;
          };
      notes = no_notes;
    }

-- a network in a run that took no line
abbrev pub unused_with : Network → State
unused_with n = record { network = n; notes = no_notes }

-- the state of an unused run, with every byte zero
pub record ZeroRun (r : State) : Type 0 where
  pub whole : r ≡ zeros
  pub seen : view_state r ≡ start

-- What each edit leaves: every byte of the struct.
use Rattle.std.specs.Prelude.{Option, List, ℕ, ◌+◌, ◌-◌, ◌*◌, ◌^◌, set}
use Rattle.semantics.specs.Limits.{table_rows}
use Rattle.semantics.specs.Buffers.{written}
use Rattle.text.specs.Ids.{slot_bytes}
use Rattle.network.specs.declared.Network.{Network}
use Rattle.stored.specs.declared.Link.{Link}
use Rattle.stored.specs.Values.{parent_byte, table_byte}

-- a table more: eight rows behind those that stand
abbrev pub table_stored : Network → List ℕ → Network
table_stored n rows =
    record {
      tables = n.tables + 1;
      rows = written n.rows (n.tables * table_rows) rows;
      plots = n.plots;
      ids = n.ids;
      parents = n.parents;
      through = n.through;
      classes = n.classes;
      domains = n.domains;
      labels = n.labels;
    }

-- a plot more: every field of its slot, and of no other
abbrev pub plot_stored : Network → List ℕ → Option Link → ℕ → Network
plot_stored n slot link k =
    record {
      tables = n.tables;
      rows = n.rows;
      plots = n.plots + 1;
      ids = written n.ids (n.plots * slot_bytes) slot;
      parents = set n.parents n.plots (parent_byte link);
      through = set n.through n.plots (table_byte link);
      classes = set n.classes n.plots k;
      domains = set n.domains n.plots (2 ^ k - 1);
      labels = set n.labels n.plots 0;
    }

-- another domain at a position
abbrev pub domain_stored : Network → ℕ → ℕ → Network
domain_stored n i mask =
    record {
      tables = n.tables;
      rows = n.rows;
      plots = n.plots;
      ids = n.ids;
      parents = n.parents;
      through = n.through;
      classes = n.classes;
      domains = set n.domains i mask;
      labels = n.labels;
    }

-- another label or none at a position, by its byte
abbrev pub label_stored : Network → ℕ → ℕ → Network
label_stored n i byte =
    record {
      tables = n.tables;
      rows = n.rows;
      plots = n.plots;
      ids = n.ids;
      parents = n.parents;
      through = n.through;
      classes = n.classes;
      domains = n.domains;
      labels = set n.labels i byte;
    }

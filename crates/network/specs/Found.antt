-- What a plot is tested for, part by part: what its bytes say, and where its id stands among stored ids.
use Rattle.std.specs.Prelude.{Option, Some, None, Bool, true, false, cond, ◌&&◌, List, ℕ, zero, suc}
use Rattle.semantics.specs.Basics.{same}
use Rattle.semantics.specs.Text.{is_id}
use Rattle.semantics.specs.Network.{Place, absent, present}
use Rattle.text.specs.Ids.{trimmed}
use Rattle.network.specs.declared.Network.{Network}
use Rattle.semantics.specs.Rules.{link_holds, classes_hold, domain_holds, label_holds}
use Rattle.stored.specs.Values.{slot_at, link_at, classes_at, domain_at, label_at}
use Rattle.network.specs.View.{plot_at}

-- the newest of the first n slots that has an id
abbrev pub lookup : List ℕ → List ℕ → ℕ → Option ℕ
lookup id ids zero = None
lookup id ids (suc i) = cond (same id (trimmed (slot_at ids i))) (Some i) (lookup id ids i)

-- none of them has it
abbrev pub is_new : Option ℕ → Bool
is_new None = true
is_new (Some i) = false

-- an id is well formed, and none of theirs
abbrev pub id_holds : List ℕ → List ℕ → ℕ → Bool
id_holds id ids n = is_id id && is_new (lookup id ids n)

-- what the definitions say of a place of a network
abbrev pub place_of : Network → Option ℕ → Place
place_of n None = absent
place_of n (Some i) = present i (plot_at n i)

-- the rules of the plot at a position, but for its id
abbrev pub bytes_hold : Network → ℕ → Bool
bytes_hold n i =
    link_holds n.tables i (link_at n.parents n.through i)
    && classes_hold (classes_at n.classes i)
    && domain_holds (classes_at n.classes i) (domain_at n.domains i)
    && label_holds (classes_at n.classes i) (label_at n.labels i)

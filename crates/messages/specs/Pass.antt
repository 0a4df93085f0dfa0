-- The pass up, from the newest plot to the first: each plot sends its row to its parent. A plot may be left standing, and then sends
-- nothing.
use Rattle.std.specs.Prelude.{Bool, false, cond, List, [], ℕ, zero, suc, get_or, set}
use Rattle.semantics.specs.Network.{Link, root, child}
use Rattle.network.specs.declared.Network.{Network}
use Rattle.stored.specs.Values.{link_at, classes_at}

-- what a row becomes once a message is folded into it, and the message of a row of k classes through a table
module _ {A : Type 0} (fold : List A → List A → List A) (message : List A → List ℕ → ℕ → ℕ → List A) (n : Network) where
  -- the rows once the plot at a position has sent its message up a link
  abbrev pub sent_up : Link → ℕ → List (List A) → List (List A)
  sent_up root j rows = rows
  sent_up (child parent table) j rows =
      set rows parent (fold (get_or rows parent []) (message (get_or rows j []) n.rows table (classes_at n.classes j)))

  -- the same, unless the plot is left standing
  abbrev pub sent : List Bool → ℕ → List (List A) → List (List A)
  sent standing j rows = cond (get_or standing j false) rows (sent_up (link_at n.parents n.through j) j rows)

  -- the rows once the first j plots have sent theirs, newest first
  abbrev pub gathered : List Bool → ℕ → List (List A) → List (List A)
  gathered standing zero rows = rows
  gathered standing (suc j) rows = gathered standing j (sent standing j rows)

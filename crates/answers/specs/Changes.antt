-- The text of the relabel list, by the ids, labels and new classes of the plots at their positions.
use Rattle.std.specs.Prelude.{cond, List, [], ◌∷◌, ◌++◌, ℕ, zero, suc, get_or, eqb}
use Rattle.semantics.specs.Network.{Label, unlabelled, class}
use Rattle.semantics.specs.Text.{decimal}
use Rattle.semantics.specs.Protocol.{label_text}
use Rattle.text.specs.Ids.{trimmed}
use Rattle.stored.specs.Values.{slot_at, label_at}

-- the line of a change, by the plot's id and the class that it is to have: the L line that labels it so
abbrev pub change_line : List ℕ → ℕ → List ℕ
change_line id c = label_text id (class c) ++ (10 ∷ [])

-- the text of the entry for a plot that gets a class: none where it has no label, or has that class for its label
abbrev pub entry_text : List ℕ → ℕ → Label → List ℕ
entry_text id c unlabelled = []
entry_text id c (class l) = cond (eqb l c) [] (change_line id c)

-- the lines for the first j plots, in order of arrival
abbrev pub change_lines : List ℕ → List ℕ → List ℕ → ℕ → List ℕ
change_lines ids labels classes zero = []
change_lines ids labels classes (suc j) =
    change_lines ids labels classes j ++ entry_text (trimmed (slot_at ids j)) (get_or classes j 0) (label_at labels j)

-- R,number and the lines of the list behind it
abbrev pub list_text : ℕ → List ℕ → List ℕ
list_text m lines = (82 ∷ 44 ∷ decimal m) ++ (10 ∷ lines)

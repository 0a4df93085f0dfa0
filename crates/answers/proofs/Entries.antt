-- The text of the relabel list, entry by entry.
use mathlib.Core.Path.{◌≡◌, refl, sym}
use mathlib.Core.Bool.{Bool, true, false, cond}
use mathlib.Core.List.{List, [], ◌∷◌, ◌++◌, append_assoc, append-nil}
use Prim.Native.Nat.{ℕ}
use lib.Dec.{eqb}
use Rattle.semantics.specs.Network.{Label, unlabelled, class, Plot}
use Rattle.semantics.specs.Relabelling.{Change, change}
use Rattle.semantics.specs.Answers.{change_text, changes_text}
use Rattle.answers.specs.Changes.{change_line, entry_text}

-- the lines of some entries, and then those of others
pub changes-append : (hs ks : List Change) → changes_text (hs ++ ks) ≡ changes_text hs ++ changes_text ks
changes-append [] ks = refl
changes-append (h ∷ hs) ks = rw (changes-append hs ks) (sym (append_assoc (change_text h) (changes_text hs) (changes_text ks)))

-- the entry for a plot is written by its id
pub entry_text_lem : (i : ℕ) (p : Plot) (c : ℕ) (l : Label) → changes_text (change i p c l) ≡ entry_text p.id c l
entry_text_lem i p c unlabelled = refl
entry_text_lem i p c (class l) = go (eqb l c)
  where
    go : (b : Bool) → changes_text (cond b [] (record { position = i; plot = p; new_class = c } ∷ [])) ≡ cond b [] (change_line p.id c)
    go true = refl
    go false = append-nil (change_line p.id c)

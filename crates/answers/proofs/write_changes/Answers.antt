-- `answers::write_changes` meets its contract: a turn writes the entry of one more.
use Rattle.std.proofs.Common.{◌≡◌, ℕ, Option, List, ◌+◌, get_or, add-one, arith}
use Rattle.text.specs.declared.Id.{Id}
use Rattle.text.specs.Ids.{slot_of, id_bytes}
use Rattle.writing.specs.declared.Page.{Page}
use Rattle.writing.specs.Pages.{Wrote}
use Rattle.writing.proofs.Pages.{wrote_then}
use Rattle.stored.specs.Values.{as_label, slot_at, label_at}
use Rattle.answers.specs.Changes.{change_lines, entry_text}
use Rattle.answers.proofs.write_changes.Goals as goal

-- a turn writes the entry of one more
turn : (ids labels classes : List ℕ) (i : ℕ) (p q r : Page) (id : Id) (label : Option ℕ)
    → as_label label ≡ label_at labels i → slot_of id ≡ slot_at ids i
    → Wrote p (change_lines ids labels classes i) q → Wrote q (entry_text (id_bytes id) (get_or classes i 0) (as_label label)) r
    → Wrote p (change_lines ids labels classes (i + 1)) r
turn ids labels classes i p q r id label a b v w =
    rw (add-one, ← a, ← b)
    (wrote_then p q r (change_lines ids labels classes i) (entry_text (id_bytes id) (get_or classes i 0) (as_label label)) v w)

pub loop-i-preserved : goal.loop-i-preserved
loop-i-preserved c = (omega arith, search turn)

-- What a table or a plot has in the text, by what was read of it.
use mathlib.Core.Path.{◌≡◌}
use Prim.Native.Nat.{ℕ, zero, suc, ◌<◌}
use native.Mathlib.Decide.{ℕ_discrete}
use native.Mathlib.Nat.{not-suc-le-zero}
use native.Mathlib.Omega.{arith}
use borrow.Author.Tests.{eq-eqb, ne_eqb}
use Rattle.semantics.specs.Network.{child}
use Rattle.semantics.specs.Protocol.{named, plot_text}
use Rattle.semantics.specs.NetworkText.{id_at, plot_line}
use Rattle.text.specs.declared.Id.{Id}
use Rattle.text.specs.Ids.{trimmed, slot_of, id_bytes}
use Rattle.stored.specs.Values.{slot_at, link_at, classes_at}
use Rattle.wording.specs.Lines.{ended}
use Rattle.network.specs.declared.Network.{Network}
use Rattle.network.specs.declared.sound.Sound.{Sound}
use Rattle.network.specs.View.{plots_of}
use Rattle.network.proofs.Views.{length-plots}
use Rattle.saving.specs.Texts.{plot_entry}
use Rattle.saving.proofs.Stands.{parent_before}

-- the id at a position of the view is the one that is stored there
id-view : (n : Network) (m i : ℕ) → i < m → id_at i (plots_of n m) ≡ trimmed (slot_at n.ids i)
id-view n zero i h = absurd (not-suc-le-zero h)
id-view n (suc m) i h =
    elim (ℕ_discrete i m) [
      | yes e ↦ rw (length-plots n m, eq-eqb i m e, e)
      | no d ↦ rw (length-plots n m, ne_eqb i m d) (id-view n m i (omega arith))
    ]

-- the P line of a plot below a parent, by their ids
pub child-line : (s : Sound) (i parent table : ℕ) (id above : Id) → i < s.network.plots
    → child parent table ≡ link_at s.network.parents s.network.through i
    → slot_of id ≡ slot_at s.network.ids i → slot_of above ≡ slot_at s.network.ids parent
    → plot_entry plot_line s.network i ≡ ended (plot_text (id_bytes id) (named (id_bytes above) table) (classes_at s.network.classes i))
child-line s i parent table id above h e a b =
    rw (← e, id-view s.network i parent (parent_before s i h parent table e), ← a, ← b)

-- The laws of marks: an id whose place isn't marked stands nowhere among those that are, and one more is marked.
use Rattle.std.proofs.Common.{Some, None, ◌≡◌, refl, sym, ap, ◌∙◌, Bool, true, false, not, cond, true≢false, List, ℕ, zero, suc, ◌+◌, ◌*◌}
use Rattle.std.proofs.Common.{◌<◌, ◌≤◌, arith, Fits, w64, length, get_or, set, length-take, length-drop, get_or-set_same, get_or-set_other}
use native.Mathlib.Decide.{ℕ_discrete}
use borrow.Author.Tests.{not-true}
use Rattle.semantics.specs.Basics.{same}
use Rattle.semantics.specs.Limits.{max_plots}
use Rattle.semantics.proofs.Lists.{same_true}
use Rattle.text.specs.declared.Id.{Id}
use Rattle.text.specs.Ids.{slot_bytes, trimmed, slot_of, id_bytes, packed}
use Rattle.text.proofs.Ids.{same-trimmed, length-slot, packed_slot}
use Rattle.stored.specs.Values.{slot_at}
use Rattle.network.specs.Found.{lookup}
use Rattle.network.specs.Marks.{id_place, Marked}

module _ (ids : List ℕ) (id : Id) (l : Fits w64 id.low) (h : Fits w64 id.high) where
  -- an id's place is that of its slot
  place_slot : (j : ℕ) → slot_of id ≡ slot_at ids j → id_place (packed (slot_at ids j)) ≡ id_place id
  place_slot j e = ap (λ s. id_place (packed s)) (sym e) ∙ ap id_place (packed_slot id l h)

  -- an id whose place isn't marked is none of those whose places are
  absent : (seen : List Bool) (plots : ℕ) → length ids ≡ max_plots * slot_bytes → plots ≤ max_plots → Marked ids plots seen
      → get_or seen (id_place id) false ≡ false → lookup (id_bytes id) ids plots ≡ None
  absent seen zero long few marks off = refl
  absent seen (suc i) long few marks off =
      let older = absent seen i long (omega arith) (record { each = λ j k. marks.each j (omega arith) }) off in
      go (same (id_bytes id) (trimmed (slot_at ids i))) refl older
    where
      full : length (slot_at ids i) ≡ slot_bytes
      full = simp (length-take, length-drop) (omega arith)

      go : (b : Bool) → same (id_bytes id) (trimmed (slot_at ids i)) ≡ b → lookup (id_bytes id) ids i ≡ None
          → cond b (Some i) (lookup (id_bytes id) ids i) ≡ None
      go true e older =
          let equal : slot_of id ≡ slot_at ids i =
          same_true (slot_of id) (slot_at ids i) (sym (same-trimmed (slot_of id) (slot_at ids i) (length-slot id ∙ sym full)) ∙ e) in
          absurd (true≢false (sym (marks.each i (omega arith)) ∙ ap (λ p. get_or seen p false) (place_slot i equal) ∙ off))
      go false e older = older

  pub unmarked : (seen : List Bool) (plots place : ℕ) → length ids ≡ max_plots * slot_bytes → plots ≤ max_plots → Marked ids plots seen
      → place ≡ id_place id → not (get_or seen place false) ≡ true → lookup (id_bytes id) ids plots ≡ None
  unmarked seen plots place long few marks e off = absent seen plots long few marks (rw e at (not-true (get_or seen place false) off))

  -- the next id's place is marked too
  pub mark_next : (seen : List Bool) (i place : ℕ) → slot_of id ≡ slot_at ids i → Marked ids i seen → place ≡ id_place id → place < length seen
      → Marked ids (i + 1) (set seen place true)
  mark_next seen i place e marks p within = record { each = turn }
    where
      turn : (j : ℕ) → j < i + 1 → get_or (set seen place true) (id_place (packed (slot_at ids j))) false ≡ true
      turn j k = elim (ℕ_discrete other place) [ yes q ↦ here q | no d ↦ there d ]
        where
          other : ℕ
          other = id_place (packed (slot_at ids j))

          here : other ≡ place → get_or (set seen place true) other false ≡ true
          here q = rw q (get_or-set_same seen place true false within)

          there : (other ≡ place → ⊥) → get_or (set seen place true) other false ≡ true
          there d =
              get_or-set_other seen place other true false d
              ∙ elim (ℕ_discrete j i) [ yes z ↦ absurd (d (place_slot j (rw z e) ∙ sym p)) | no n ↦ marks.each j (omega arith) ]

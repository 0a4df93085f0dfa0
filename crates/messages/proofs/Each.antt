-- What holds of each plot's own row, and is kept when a message is folded in, holds of all rows once the pass is done.
use Rattle.std.proofs.Common.{◌≡◌, refl, Bool, true, false, cond, List, [], ℕ, zero, suc, ◌<◌, arith, length, get_or, set, leb}
use Rattle.std.proofs.Common.{get_or-set_same, get_or-set_other, leb-true, leb-false}
use native.Mathlib.Decide.{ℕ_discrete}
use lib.Seq.{set_out}
use Rattle.semantics.specs.Network.{Link, root, child, Label}
use Rattle.network.specs.declared.Network.{Network}
use Rattle.stored.specs.Values.{link_at, domain_at, label_at}
use Rattle.messages.specs.Rows.{own_rows}
use Rattle.messages.specs.Pass.{sent_up, gathered}
use Rattle.messages.proofs.Own.{own_at_lem}

module _ (P : ℕ → List ℕ → Type 0) (n : Network) where
  -- it holds of the row of each plot
  abbrev Each : List (List ℕ) → Type 0
  Each rows = (i : ℕ) → i < n.plots → P i (get_or rows i [])

  -- a row that is changed keeps it where the change does
  pub each_turn : (rows : List (List ℕ)) (parent : ℕ) (row : List ℕ) → Each rows → (P parent (get_or rows parent []) → P parent row)
      → Each (set rows parent row)
  each_turn rows parent row h keeps i l =
      elim (ℕ_discrete i parent) [ yes q ↦ here q (h i l) | no d ↦ rw (get_or-set_other rows parent i row [] d) (h i l) ]
    where
      here : i ≡ parent → P i (get_or rows i []) → P i (get_or (set rows parent row) i [])
      here q old = rw q (go (leb (suc parent) (length rows)) refl (rw q at old))
        where
          go : (t : Bool) → leb (suc parent) (length rows) ≡ t → P parent (get_or rows parent [])
              → P parent (get_or (set rows parent row) parent [])
          go true s p = rw (get_or-set_same rows parent row [] (leb-true (suc parent) (length rows) s)) (keeps p)
          go false s p = rw (set_out rows parent row (omega (arith, leb-false (suc parent) (length rows) s))) p

  module _ (own : ℕ → Label → List ℕ) (fold : List ℕ → List ℕ → List ℕ) (message : List ℕ → List ℕ → ℕ → ℕ → List ℕ)
      (standing : List Bool) where
    each-sent : ((i : ℕ) (mine told : List ℕ) → P i mine → P i (fold mine told)) → (j : ℕ) (rows : List (List ℕ)) → Each rows
        → Each (gathered fold message n standing j rows)
    each-sent keeps zero rows h = h
    each-sent keeps (suc j) rows h = each-sent keeps j _ (go (get_or standing j false) (link_at n.parents n.through j))
      where
        go : (s : Bool) (l : Link) → Each (cond s rows (sent_up fold message n l j rows))
        go true l = h
        go false root = h
        go false (child parent table) = each_turn rows parent _ h (keeps parent (get_or rows parent []) _)

    pub each-gathered : ((i : ℕ) → i < n.plots → P i (own (domain_at n.domains i) (label_at n.labels i)))
        → ((i : ℕ) (mine told : List ℕ) → P i mine → P i (fold mine told))
        → Each (gathered fold message n standing n.plots (own_rows own n))
    each-gathered has keeps = each-sent keeps n.plots (own_rows own n) (λ i l. rw (own_at_lem own n i l) (has i l))

-- Where a plot stands: what `find` finds, and what `update` leaves as it was.
use Rattle.std.proofs.Common.{◌≡◌, refl, sym, ap, ◌∙◌, Bool, true, false, cond, ◌||◌, List, [], ◌∷◌, ◌++◌, inl, inr, ℕ, suc, ◌<◌, arith}
use Rattle.std.proofs.Common.{length, length-append, eqb, eq-eqb, ne_eqb}
use Rattle.semantics.specs.Basics.{same}
use Rattle.semantics.specs.Network.{Plot, present, StandsAt, find, is_present, update}
use Rattle.semantics.proofs.Lists.{same_true}

-- a plot's position is below the number of plots
pub stands_below : (i : ℕ) (p : Plot) (ps : List Plot) → StandsAt i p ps → i < length ps
stands_below i p [] h = absurd h
stands_below i p (q ∷ older) (inl e) = omega arith
stands_below i p (q ∷ older) (inr h) = let l : i < length older = stands_below i p older h in omega arith

-- what `find` finds stands where it says, and has the id
pub found_stands : (id : List ℕ) (ps : List Plot) (i : ℕ) (p : Plot) → find id ps ≡ present i p → StandsAt i p ps × (p.id ≡ id)
found_stands id [] i p e = let z : ◌≡◌ {A = ℕ} 0 1 = cc in absurd (omega arith)
found_stands id (q ∷ older) i p e = go (same id q.id) refl e (λ h. found_stands id older i p h)
  where
    go : (b : Bool) → same id q.id ≡ b → cond b (present (length older) q) (find id older) ≡ present i p
        → (find id older ≡ present i p → StandsAt i p older × (p.id ≡ id)) → StandsAt i p (q ∷ older) × (p.id ≡ id)
    go true s h ih =
        let at : i ≡ length older = cc in
        let it : p ≡ q = cc in
        (inl (at, it), ap (λ (x : Plot). x.id) it ∙ sym (same_true id q.id s))
    go false s h ih = let r = ih h in (inr r.0, r.1)

-- the position found is that of a plot, and its id is the one looked for
pub found : (id : List ℕ) (ps : List Plot) (i : ℕ) (p : Plot) → find id ps ≡ present i p → (i < length ps) × (p.id ≡ id)
found id ps i p e = let r = found_stands id ps i p e in (stands_below i p ps r.0, r.1)

-- a change at one position keeps the number of plots
pub length-update : (i : ℕ) (f : Plot → Plot) (ps : List Plot) → length (update i f ps) ≡ length ps
length-update i f [] = refl
length-update i f (q ∷ older) = go (eqb i (length older)) (length-update i f older)
  where
    go : (b : Bool) → length (update i f older) ≡ length older
        → length (cond b (f q ∷ older) (q ∷ update i f older)) ≡ suc (length older)
    go true h = refl
    go false h = ap suc h

-- an id is there if the newest plot or an older one has it
pub present_cons : (id : List ℕ) (q : Plot) (older : List Plot)
    → is_present (find id (q ∷ older)) ≡ (same id q.id || is_present (find id older))
present_cons id q older = go (same id q.id)
  where
    go : (b : Bool) → is_present (cond b (present (length older) q) (find id older)) ≡ (b || is_present (find id older))
    go true = refl
    go false = refl

-- a change that keeps the ids keeps which ids there are
pub present-update : (i : ℕ) (f : Plot → Plot) (id : List ℕ) (ps : List Plot) → ((p : Plot) → (f p).id ≡ p.id)
    → is_present (find id (update i f ps)) ≡ is_present (find id ps)
present-update i f id [] k = refl
present-update i f id (q ∷ older) k = go (eqb i (length older)) (present-update i f id older k) ∙ sym (present_cons id q older)
  where
    go : (b : Bool) → is_present (find id (update i f older)) ≡ is_present (find id older)
        → is_present (find id (cond b (f q ∷ older) (q ∷ update i f older))) ≡ (same id q.id || is_present (find id older))
    go true h = present_cons id (f q) older ∙ rw (k q)
    go false h = present_cons id q (update i f older) ∙ rw h

-- the plot at a position is the one with as many older ones
pub update-at : (i : ℕ) (f : Plot → Plot) (newer : List Plot) (p : Plot) (older : List Plot) → length older ≡ i
    → update i f (newer ++ (p ∷ older)) ≡ newer ++ (f p ∷ older)
update-at i f [] p older e = rw (eq-eqb i (length older) (sym e))
update-at i f (q ∷ newer) p older e =
    rw (ne_eqb i (length (newer ++ (p ∷ older))) (λ g. omega (arith, length-append newer (p ∷ older))), update-at i f newer p older e)

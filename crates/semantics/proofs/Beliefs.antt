-- The believed class (document 01: "Counting"): the only one whose support isn't zero.
use Rattle.std.proofs.Common.{◌≡◌, refl, sym, ap, ◌∙◌, Bool, true, false, cond, List, [], ◌∷◌, map, ◌↔◌, ℕ, zero, suc, ◌+◌, ◌<◌, zero-add}
use Rattle.std.proofs.Common.{le_of_eq, le_of_suc-le-suc, not-suc-le-zero, add-zero, add-suc, suc-add, arith, length, get_or, ltb, lt-ltb}
use Rattle.std.proofs.Common.{le-ltb, ltb-true, ltb-false}
use lib.ListN.{get_or-eq_default}
use Rattle.semantics.specs.Basics.{below}
use Rattle.semantics.specs.Network.{Plot, Network}
use Rattle.semantics.specs.Solutions.{solutions, support, supports, supported, nothing, believed, single, belief}
use Rattle.semantics.proofs.Lists.{length_by, get_or_by}

-- no place is listed where all supports are zero, and where none is listed all are
none-supported : (i : ℕ) (ss : List ℕ) → ((d : ℕ) → get_or ss d 0 ≡ 0) → supported i ss ≡ []
none-supported i [] h = refl
none-supported i (s ∷ ss) h = rw (le-ltb 0 s (le_of_eq (h 0))) (none-supported (suc i) ss (λ d. h (suc d)))

-- zero at the head where d is there, and behind it where d is there, is zero at d
zero_cons : (s : ℕ) (ss : List ℕ) (d : ℕ) → (d ≡ 0 → s ≡ 0) → ((k : ℕ) → d ≡ suc k → get_or ss k 0 ≡ 0) → get_or (s ∷ ss) d 0 ≡ 0
zero_cons s ss zero h hs = h refl
zero_cons s ss (suc d) h hs = hs d refl

all_zero : (i : ℕ) (ss : List ℕ) → supported i ss ≡ [] → (d : ℕ) → get_or ss d 0 ≡ 0
all_zero i [] e d = refl
all_zero i (s ∷ ss) e d = zero_cons s ss d (λ z. (go (ltb 0 s) refl e).0) (λ k z. all_zero (suc i) ss (go (ltb 0 s) refl e).1 k)
  where
    go : (t : Bool) → ltb 0 s ≡ t → cond t (i ∷ supported (suc i) ss) (supported (suc i) ss) ≡ [] → (s ≡ 0) × (supported (suc i) ss ≡ [])
    go true t g = absurd (omega (arith, ap length g))
    go false t g = (omega (arith, ltb-false 0 s t), g)

-- the support at c isn't zero, and all others are
abbrev Only : List ℕ → ℕ → Type 0
Only ss c = (c < length ss) × (0 < get_or ss c 0) × ((d : ℕ) → (d ≡ c → ⊥) → get_or ss d 0 ≡ 0)

-- the only one listed, counted from i, is the only one that isn't zero
only-single : (i : ℕ) (ss : List ℕ) (c : ℕ) → Only ss c → single (supported i ss) ≡ believed (i + c)
only-single i [] c h = absurd (not-suc-le-zero h.0)
only-single i (s ∷ ss) zero h = rw (lt-ltb 0 s h.1, none-supported (suc i) ss (λ d. h.2 (suc d) (λ e. omega arith)), add-zero)
only-single i (s ∷ ss) (suc c) h =
    rw (le-ltb 0 s (le_of_eq (h.2 0 (λ e. omega arith))), add-suc, ← suc-add)
    (only-single (suc i) ss c (le_of_suc-le-suc h.0, h.1, λ d ne. h.2 (suc d) (λ e. ne (omega arith))))

unbelieved : (c : ℕ) → nothing ≡ believed c → ⊥
unbelieved c e = let z : ◌≡◌ {A = ℕ} 0 1 = cc in omega arith

single-only : (i : ℕ) (ss : List ℕ) (c : ℕ) → single (supported i ss) ≡ believed c → (d : ℕ) × (c ≡ i + d) × Only ss d
single-only i [] c e = absurd (unbelieved c e)
single-only i (s ∷ ss) c e = go (ltb 0 s) refl e (single-only (suc i) ss c)
  where
    here : 0 < s → (more : List ℕ) → supported (suc i) ss ≡ more → single (i ∷ more) ≡ believed c
        → (d : ℕ) × (c ≡ i + d) × Only (s ∷ ss) d
    here l [] g b =
        let same : i ≡ c = cc in
        (0, omega arith, (omega arith, l, λ d ne. zero_cons s ss d (λ z. absurd (ne z)) (λ k z. all_zero (suc i) ss g k)))
    here l (x ∷ more) g b = absurd (unbelieved c b)

    go : (t : Bool) → ltb 0 s ≡ t → single (cond t (i ∷ supported (suc i) ss) (supported (suc i) ss)) ≡ believed c
        → (single (supported (suc i) ss) ≡ believed c → (d : ℕ) × (c ≡ suc i + d) × Only ss d) → (d : ℕ) × (c ≡ i + d) × Only (s ∷ ss) d
    go true t b ih = here (ltb-true 0 s t) (supported (suc i) ss) refl b
    go false t b ih =
        let (d, g, (l, pos, others)) = ih b in
        let zero-at : (k : ℕ) → (k ≡ suc d → ⊥) → get_or (s ∷ ss) k 0 ≡ 0 =
        λ k ne. zero_cons s ss k (λ z. omega (arith, ltb-false 0 s t)) (λ j z. others j (λ f. ne (z ∙ ap suc f))) in
        (suc d, omega arith, (omega arith, pos, zero-at))

-- A class is believed exactly when its support isn't zero and all others are.
pub believed_iff : (ss : List ℕ) (c : ℕ)
    → (belief ss ≡ believed c) ↔ ((c < length ss) × (0 < get_or ss c 0) × ((d : ℕ) → (d ≡ c → ⊥) → get_or ss d 0 ≡ 0))
believed_iff ss c =
    (λ e. let (d, g, h) = single-only 0 ss c e in rw (g ∙ zero-add d) h, λ h. only-single 0 ss c h ∙ ap believed (zero-add c))

-- past the numbers below k, and where f is zero, a list by them is zero
zero_by : (f : ℕ → ℕ) (k d : ℕ) → (d < k → f d ≡ 0) → get_or (map f (below k)) d 0 ≡ 0
zero_by f k d h = go (ltb d k) refl
  where
    go : (t : Bool) → ltb d k ≡ t → get_or (map f (below k)) d 0 ≡ 0
    go true t = let l : d < k = ltb-true d k t in get_or_by f 0 k d l ∙ h l
    go false t = get_or-eq_default (map f (below k)) 0 (rw (length_by f k) (ltb-false d k t))

-- Of a plot: a class is believed exactly when its support isn't zero and those of all other classes of that plot are.
pub believed-supports : (n : Network) (i : ℕ) (p : Plot) (c : ℕ)
    → (belief (supports n i p) ≡ believed c)
    ↔ ((c < p.classes) × (0 < support n i c) × ((d : ℕ) → d < p.classes → (d ≡ c → ⊥) → support n i d ≡ 0))
believed-supports n i p c = (only, believes)
  where
    Alone : Type 0
    Alone = (c < p.classes) × (0 < support n i c) × ((d : ℕ) → d < p.classes → (d ≡ c → ⊥) → support n i d ≡ 0)

    size : length (supports n i p) ≡ p.classes
    size = length_by (support n i) p.classes

    each : (d : ℕ) → d < p.classes → get_or (supports n i p) d 0 ≡ support n i d
    each = get_or_by (support n i) 0 p.classes

    only : belief (supports n i p) ≡ believed c → Alone
    only e =
        let (l, pos, others) = (believed_iff (supports n i p) c).0 e in
        let h : c < p.classes = rw size at l in
        (h, rw (each c h) at pos, λ d k ne. sym (each d k) ∙ others d ne)

    believes : Alone → belief (supports n i p) ≡ believed c
    believes (l, pos, others) =
        (believed_iff (supports n i p) c).1 (rw size l, rw (each c l) pos, λ d ne. zero_by (support n i) p.classes d (λ k. others d k ne))

-- Nothing is believed where there is no solution.
pub nothing-believed : (n : Network) (i : ℕ) (p : Plot) → solutions n ≡ [] → belief (supports n i p) ≡ nothing
nothing-believed n i p e = ap single (none-supported 0 (supports n i p) (λ d. zero_by (support n i) p.classes d (λ l. rw e)))

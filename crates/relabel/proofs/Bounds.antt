-- Costs that stay below the number that says "never": then the numbers stand for the costs, and their sums for the sums.
use Rattle.std.proofs.Common.{◌≡◌, refl, ap, ◌∙◌, Bool, true, false, cond, List, [], ◌∷◌, ℕ, zero, suc, ◌+◌, ◌<◌, ◌≤◌, min, not-suc-le-zero}
use Rattle.std.proofs.Common.{arith, get_or, eqb, ltb, lt-ltb, le-ltb, ltb-false, eq-eqb, ne_eqb}
use mathlib.Core.List.{Memᴰ}
use native.Mathlib.Decide.{ℕ_discrete}
use Rattle.semantics.specs.Basics.{below, sum}
use Rattle.semantics.specs.Limits.{max_classes}
use Rattle.semantics.specs.Relabelling.{Best, none, best}
use Rattle.semantics.specs.Messages.{Cost, never, some, plus, least, worth}
use Rattle.semantics.proofs.Lists.{in_below}
use Rattle.semantics.proofs.Sums.{sum-append, sum_add, sum-only}
use Rattle.semantics.proofs.Weights.{gate}
use Rattle.semantics.proofs.Least.{costs, OfBest, of_least}
use Rattle.relabel.specs.Costs.{never_number, as_cost, cost_number, together, best_in}

-- a cost is at most w, where it can be paid at all
abbrev pub AtMost : ℕ → Cost → Type 0
AtMost w never = Prim.Unit
AtMost w (some v) = v ≤ w

pub within-plus : (w v : ℕ) (x y : Cost) → AtMost w x → AtMost v y → AtMost (w + v) (plus x y)
within-plus w v never y h l = tt
within-plus w v (some a) never h l = tt
within-plus w v (some a) (some b) h l = omega arith

pub within_more : (w v : ℕ) (x : Cost) → w ≤ v → AtMost w x → AtMost v x
within_more w v never m h = tt
within_more w v (some a) m h = omega arith

-- the least of costs that are at most w is at most w
within-found : (w : ℕ) (b : Best ℕ) → OfBest (λ m c. m ≤ w) b → AtMost w (worth b)
within-found w none h = tt
within-found w (best m c) h = h

pub within-least : (w : ℕ) (f : ℕ → Cost) (cs : List ℕ) → ((c : ℕ) → Memᴰ c cs → AtMost w (f c)) → AtMost w (worth (least f cs))
within-least w f cs h = within-found w (least f cs) (of_least (λ m c. m ≤ w) f cs (λ c i m e. rw e at (h c i)))

-- the number of a cost stands for it
pub number-cost : (w : ℕ) (x : Cost) → AtMost w x → w < never_number → as_cost (cost_number x) ≡ x
number-cost w never h l = refl
number-cost w (some v) h l = rw (lt-ltb v never_number (omega arith))

-- and a number that isn't past it is that of the cost that it stands for
pub cost-number : (v : ℕ) → v ≤ never_number → v ≡ cost_number (as_cost v)
cost-number v h = go (ltb v never_number) refl
  where
    go : (t : Bool) → ltb v never_number ≡ t → v ≡ cost_number (cond t (some v) never)
    go true e = refl
    go false e = let l : never_number ≤ v = ltb-false v never_number e in omega arith

-- two numbers together stand for the sum of their costs
pub together-cost : (w v a b : ℕ) → AtMost w (as_cost a) → AtMost v (as_cost b) → w + v < never_number
    → as_cost (together a b) ≡ plus (as_cost a) (as_cost b)
together-cost w v a b h l m = go (ltb a never_number) refl (ltb b never_number) refl h l
  where
    go : (s : Bool) → ltb a never_number ≡ s → (t : Bool) → ltb b never_number ≡ t
        → AtMost w (cond s (some a) never) → AtMost v (cond t (some b) never)
        → as_cost (together a b) ≡ plus (cond s (some a) never) (cond t (some b) never)
    go false e t f p q = rw (le-ltb (min (a + b) never_number) never_number (omega (arith, ltb-false a never_number e)))
    go true e false f p q = rw (le-ltb (min (a + b) never_number) never_number (omega (arith, ltb-false b never_number f)))
    go true e true f p q =
        let s : min (a + b) never_number ≡ a + b = omega arith in
        rw (s, lt-ltb (a + b) never_number (omega arith))

-- every number of a row stands for a cost of at most w
abbrev pub Small : ℕ → List ℕ → Type 0
Small w r = (c : ℕ) → c < max_classes → AtMost w (as_cost (get_or r c 0))

-- the best of a row's classes costs no more than they do
pub best-within : (w : ℕ) (r : List ℕ) (beside : ℕ → Bool) (k : ℕ) → k ≤ max_classes → Small w r → AtMost w (worth (best_in r beside k))
best-within w r beside k few small = within-least w _ (below k) (λ c i. gated c (in_below k i) (beside c))
  where
    gated : (c : ℕ) → c < k → (b : Bool) → AtMost w (plus (as_cost (get_or r c 0)) (gate costs b))
    gated c l true =
        within_more (w + 0) w (plus (as_cost (get_or r c 0)) (some 0)) (omega arith)
        (within-plus w 0 (as_cost (get_or r c 0)) (some 0) (small c (omega arith)) (omega arith))
    gated c l false =
        within_more (w + 0) w (plus (as_cost (get_or r c 0)) never) (omega arith)
        (within-plus w 0 (as_cost (get_or r c 0)) never (small c (omega arith)) tt)

-- the bounds of the rows, once a position's grows by that of the newest
abbrev pub raised : (ℕ → ℕ) → ℕ → ℕ → ℕ → ℕ
raised w parent more i = w i + cond (eqb i parent) more 0

pub sum_raised : (w : ℕ → ℕ) (parent more j : ℕ) → parent < j → sum (raised w parent more) (below j) ≡ sum w (below j) + more
sum_raised w parent more j l =
    sum_add w (λ i. cond (eqb i parent) more 0) (below j)
    ∙ ap (λ x. sum w (below j) + x)
    (sum-only (λ i. eqb i parent) (λ i. more) parent (λ d ne. ne_eqb d parent ne) j l (eq-eqb parent parent refl))

pub sum_newest : (w : ℕ → ℕ) (j : ℕ) → sum w (below (suc j)) ≡ sum w (below j) + w j
sum_newest w j = sum-append w (below j) (j ∷ []) ∙ omega arith

-- one of the bounds is at most their sum
pub sum_part : (w : ℕ → ℕ) (i j : ℕ) → i < j → w i ≤ sum w (below j)
sum_part w i zero l = absurd (not-suc-le-zero l)
sum_part w i (suc j) l =
    rw (sum_newest w j)
    (elim (ℕ_discrete i j) [ yes e ↦ rw e (omega arith) | no d ↦ older (sum_part w i j (omega arith)) ])
  where
    older : w i ≤ sum w (below j) → w i ≤ sum w (below j) + w j
    older h = omega arith

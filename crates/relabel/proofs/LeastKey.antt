-- The law of keys. A key is a class with its cost in one number: the cost first, then the class's rank. The least key is that of the first
-- of least cost in the order of ranks, whatever the ranks are and in whatever order the keys are looked at.
use Rattle.std.proofs.Common.{◌≡◌, refl, sym, ap, ◌∙◌, Bool, true, false, cond, not, List, [], ◌∷◌, ◌++◌, ⊎_elim, ℕ, suc, ◌+◌, ◌*◌, ◌/◌}
use Rattle.std.proofs.Common.{◌%◌, ◌<◌, ◌≤◌, min, le_refl, le_antisymm, arith, eqb, leb, ltb, ne_eqb, eqb-true, lt-ltb, le-ltb, ltb-true}
use Rattle.std.proofs.Common.{leb-true, leb-false}
use mathlib.Core.List.Memᴰ
use mathlib.Core.List.{Memᴰ}
use Rattle.semantics.specs.Basics.{those, foremost, below}
use Rattle.semantics.specs.Limits.{max_classes}
use Rattle.semantics.specs.Network.{root, Label, unlabelled, class, new_plot, with_label}
use Rattle.semantics.specs.Relabelling.{Best, none, best, better, is_label, rank_by}
use Rattle.semantics.specs.Messages.{Cost, never, some, at_cost, least, worth}
use Rattle.semantics.proofs.Lists.{every_in, those_append, in_foremost, foremost_in, in_below}
use Rattle.semantics.proofs.Rising.{rising, rising_head, rising_tail}
use Rattle.semantics.proofs.Least.{least-append, OfBest, of_at-cost, of_least}
use Rattle.semantics.proofs.Preference.{by_preference}
use Rattle.messages.proofs.Past.{steady}
use Rattle.relabel.specs.Keys.{ranks, least_of, unrank}

-- the least number of a list is the largest that none is below; so it depends on which there are, not on their order
least-below : (z : ℕ) (g : ℕ → ℕ) (cs : List ℕ) → (least_of z g cs ≤ z) × ((c : ℕ) → Memᴰ c cs → least_of z g cs ≤ g c)
least-below z g [] = (le_refl z, λ c m. absurd (Memᴰ.not-nil m))
least-below z g (d ∷ cs) =
    let (h, hs) = least-below z g cs in (
      omega arith,
      λ c m.
          ⊎_elim (λ e. let q : g c ≡ g d = ap g e in omega arith) (λ k. let i : least_of z g cs ≤ g c = hs c k in omega arith)
          (Memᴰ.cases_cons m),
    )

least_above : (z : ℕ) (g : ℕ → ℕ) (cs : List ℕ) (m : ℕ) → m ≤ z → ((c : ℕ) → Memᴰ c cs → m ≤ g c) → m ≤ least_of z g cs
least_above z g [] m h hs = h
least_above z g (d ∷ cs) m h hs =
    let i : m ≤ least_of z g cs = least_above z g cs m h (λ c k. hs c (Memᴰ.tail k)) in
    let j : m ≤ g d = hs d (Memᴰ.head refl) in
    omega arith

least_any_order : (z : ℕ) (g : ℕ → ℕ) (cs ds : List ℕ) → ((c : ℕ) → Memᴰ c cs → Memᴰ c ds)
    → ((c : ℕ) → Memᴰ c ds → Memᴰ c cs) → least_of z g cs ≡ least_of z g ds
least_any_order z g cs ds i j =
    let (a, below-cs) = least-below z g cs in
    let (b, below-ds) = least-below z g ds in
    le_antisymm (least_above z g ds (least_of z g cs) a (λ c m. below-cs c (j c m)))
    (least_above z g cs (least_of z g ds) b (λ c m. below-ds c (i c m)))

pub least-same : (z : ℕ) (g h : ℕ → ℕ) (cs : List ℕ) → ((c : ℕ) → Memᴰ c cs → g c ≡ h c) → least_of z g cs ≡ least_of z h cs
least-same z g h [] e = refl
least-same z g h (c ∷ cs) e = rw (e c (Memᴰ.head refl), least-same z g h cs (λ d i. e d (Memᴰ.tail i)))

-- it is never past what it starts from
pub least_start : (z : ℕ) (g : ℕ → ℕ) (cs : List ℕ) → least_of z g cs ≤ z
least_start z g cs = (least-below z g cs).0

-- a loop that looks at one element more
pub least_more : (z : ℕ) (g : ℕ → ℕ) (cs : List ℕ) (c : ℕ) → least_of z g (cs ++ (c ∷ [])) ≡ min (least_of z g cs) (g c)
least_more z g [] c = omega arith
least_more z g (d ∷ cs) c = let e = least_more z g cs c in omega arith

-- the rank of what was found leaves the cost of its key alone
abbrev pub Low : (ℕ → ℕ) → Best ℕ → Type 0
Low rank = OfBest (λ m c. rank c < ranks)

module _ (rank : ℕ → ℕ) (bar : ℕ) where
  -- A number stands for what was found: for a class that can be paid, its key; for nothing, any number whose cost can't be paid.
  abbrev pub KeyOf : ℕ → Best ℕ → Type 0
  KeyOf v none = bar * ranks ≤ v
  KeyOf v (best m c) = (m < bar) × (v ≡ m * ranks + rank c)

  -- the first comes before the second, where both are something
  abbrev Sooner : Best ℕ → Best ℕ → Type 0
  Sooner none b = Prim.Unit
  Sooner (best m c) b = OfBest (λ n d. rank c < rank d) b

  -- The lesser of two keys stands for the better of the two.
  lesser_better : (u v : ℕ) (a b : Best ℕ) → KeyOf u a → KeyOf v b → Low rank a → Low rank b → Sooner a b → KeyOf (min u v) (better a b)
  lesser_better u v none none p q k l s = omega arith
  lesser_better u v none (best n d) p q k l s = (q.0, omega arith)
  lesser_better u v (best m c) none p q k l s = (p.0, omega arith)
  lesser_better u v (best m c) (best n d) p q k l s = go (leb m n) refl
    where
      go : (t : Bool) → leb m n ≡ t → KeyOf (min u v) (cond t (best m c) (best n d))
      go true e = let h : m ≤ n = leb-true m n e in (p.0, omega arith)
      go false e = let h : n < m = leb-false m n e in (q.0, omega arith)

  abbrev before : ℕ → ℕ → Bool
  before c d = ltb (rank c) (rank d)

  module _ (f : ℕ → Cost) (g : ℕ → ℕ) (z : ℕ) (past : bar * ranks ≤ z) where
    -- the least key of classes in the order of their ranks
    in_order : (cs : List ℕ) → ((c : ℕ) → Memᴰ c cs → KeyOf (g c) (at_cost (f c) c)) → ((c : ℕ) → Memᴰ c cs → rank c < ranks)
        → rising before cs ≡ true → KeyOf (least_of z g cs) (least f cs)
    in_order [] h l r = past
    in_order (c ∷ cs) h l r =
        lesser_better (g c) (least_of z g cs) (at_cost (f c) c) (least f cs) (h c (Memᴰ.head refl))
        (in_order cs (λ d i. h d (Memᴰ.tail i)) (λ d i. l d (Memᴰ.tail i)) (rising_tail before c cs r))
        (of_at-cost (λ m d. rank d < ranks) (f c) c (λ m e. l c (Memᴰ.head refl)))
        (of_least (λ m d. rank d < ranks) f cs (λ d i m e. l d (Memᴰ.tail i)))
        (sooner (f c))
      where
        sooner : (v : Cost) → Sooner (at_cost v c) (least f cs)
        sooner never = tt
        sooner (some m) =
            of_least (λ n d. rank c < rank d) f cs
            (λ d i n e. ltb-true (rank c) (rank d) (every_in (before c) cs (rising_head before c cs r) i))

    -- The law of keys: the least key stands for the first of least cost. cs are the classes by rank, ds the same in any order.
    pub least_key_lem : (cs ds : List ℕ) → ((c : ℕ) → Memᴰ c cs → Memᴰ c ds) → ((c : ℕ) → Memᴰ c ds → Memᴰ c cs)
        → ((c : ℕ) → Memᴰ c ds → KeyOf (g c) (at_cost (f c) c)) → ((c : ℕ) → Memᴰ c ds → rank c < ranks)
        → rising before cs ≡ true → KeyOf (least_of z g ds) (least f cs)
    least_key_lem cs ds i j h l r = rw (least_any_order z g ds cs j i) (in_order cs (λ c m. h c (i c m)) (λ c m. l c (i c m)) r)

  -- What a key says: what was found costs its sixteenth part, or can't be paid, and has for its rank what is left.
  pub key_cost : (v : ℕ) (b : Best ℕ) → KeyOf v b → Low rank b → cond (ltb (v / ranks) bar) (some (v / ranks)) never ≡ worth b
  key_cost v none h l = rw (le-ltb (v / ranks) bar (omega arith))
  key_cost v (best m c) h l = let e : v / ranks ≡ m = omega (arith, h.0, h.1) in rw (e, lt-ltb m bar h.0)

  pub key_rank : (v m c : ℕ) → KeyOf v (best m c) → rank c < ranks → v % ranks ≡ rank c
  key_rank v m c h l = omega (arith, h.1)

-- the class of a rank is the one that has it
pub unrank-rank : (l : Label) (c : ℕ) → unrank l (rank_by l c) ≡ c
unrank-rank unlabelled c = omega arith
unrank-rank (class l) c = go (eqb l c) refl
  where
    go : (t : Bool) → eqb l c ≡ t → unrank (class l) (cond t 0 (suc c)) ≡ c
    go true e = eqb-true l c e
    go false e = rw (ne_eqb (suc c) 0 (λ q. omega arith)) (omega arith)

pub rank-low : (l : Label) (c : ℕ) → rank_by l c ≤ suc c
rank-low l c = go (is_label l c)
  where
    go : (t : Bool) → cond t 0 (suc c) ≤ suc c
    go true = omega arith
    go false = omega arith

-- a class that can't be had changes nothing: so all eight may be looked at, where those past k can't
module _ (f : ℕ → Cost) (t : ℕ → Bool) where
  better_none : (b : Best ℕ) → better b none ≡ b
  better_none none = refl
  better_none (best m c) = refl

  without : (u : ℕ → Bool) (c : ℕ) (cs : List ℕ) → f c ≡ never → least f (those u (cs ++ (c ∷ []))) ≡ least f (those u cs)
  without u c cs e =
      ap (least f) (those_append u cs (c ∷ []))
      ∙ least-append f (those u cs) (those u (c ∷ []))
      ∙ ap (better (least f (those u cs))) (gone (u c))
      ∙ better_none (least f (those u cs))
    where
      gone : (b : Bool) → least f (cond b (c ∷ []) []) ≡ none
      gone true = rw e
      gone false = refl

  one_more : (c : ℕ) → f c ≡ never → least f (foremost t (below (suc c))) ≡ least f (foremost t (below c))
  one_more c e =
      least-append f (those t (below (suc c))) (those (λ x. not (t x)) (below (suc c)))
      ∙ rw (without t c (below c) e, without (λ x. not (t x)) c (below c) e)
      (sym (least-append f (those t (below c)) (those (λ x. not (t x)) (below c))))

  least_past : (k : ℕ) → k ≤ max_classes → ((c : ℕ) → k ≤ c → c < max_classes → f c ≡ never)
      → least f (foremost t (below max_classes)) ≡ least f (foremost t (below k))
  least_past k few h = steady (λ m. least f (foremost t (below m))) k (λ m a b. one_more m (h m a b)) few

-- The least key of all eight classes stands for the first of least cost among the k of a plot, in the order of preference with a label.
module _ (l : Label) (k : ℕ) (few : k ≤ max_classes) (f : ℕ → Cost) where
  abbrev first : Best ℕ
  first = least f (foremost (is_label l) (below k))

  pub preference_key : (g : ℕ → ℕ) (bar z : ℕ) → bar * ranks ≤ z → ((c : ℕ) → k ≤ c → c < max_classes → f c ≡ never)
      → ((c : ℕ) → c < max_classes → KeyOf (rank_by l) bar (g c) (at_cost (f c) c))
      → KeyOf (rank_by l) bar (least_of z g (below max_classes)) first
  preference_key g bar z past none-there h =
      rw (← least_past f (is_label l) k few none-there)
      (least_key_lem (rank_by l) bar f g z past (foremost (is_label l) (below max_classes)) (below max_classes)
      (λ c m. in_foremost (is_label l) (below max_classes) m)
      (λ c m. foremost_in (is_label l) (below max_classes) m)
      (λ c m. h c (in_below max_classes m))
      (λ c m. let i : c < max_classes = in_below max_classes m in let j : rank_by l c ≤ suc c = rank-low l c in omega arith)
      (by_preference.rises (with_label l (new_plot [] root max_classes))))

  pub preference-low : Low (rank_by l) first
  preference-low =
      of_least (λ m c. rank_by l c < ranks) f (foremost (is_label l) (below k))
      (λ c m n e. let i : c < k = in_below k
      (in_foremost (is_label l) (below k) m) in let j : rank_by l c ≤ suc c = rank-low l c in omega arith)

-- The supports of a plot by one pass up and one path down, over rows of held numbers, each sum and product held as it is made: what it
-- gives is the held numbers of solutions (document 01: "Counting").
use Rattle.std.proofs.Common.{◌≡◌, refl, sym, ap, ap₂, ◌∙◌, Bool, true, false, cond, ◌&&◌, List, [], ◌∷◌, map, ⊎_elim, ℕ, ◌<◌, ◌≤◌}
use Rattle.std.proofs.Common.{add-zero, eq-or-lt_of_le, lt_of_lt_of_le, le_refl, arith, length, get_or, eqb, leb, ltb, eq-eqb, ne_eqb}
use Rattle.std.proofs.Common.{ltb-true, ltb-false}
use mathlib.Core.List.{Memᴰ}
use native.Mathlib.Nat.{suc_inj}
use lib.ListN.{length-map}
use Rattle.semantics.specs.Basics.{every, below, row_of, sum}
use Rattle.semantics.specs.Network.{Link, root, child, Plot, Network, allows, row}
use Rattle.semantics.specs.Solutions.{class_at, is_assignment, assignments, fits, agrees, agrees_all, fitting, solutions, held, support}
use Rattle.semantics.specs.Messages.{held_plus, held_times, held_sum, held_contribution}
use Rattle.semantics.proofs.Lists.{those_all, those_none, in_those, in_below, get_or_by}
use Rattle.semantics.proofs.Listing.{class_count, class-below, listed, newest_few, older_few}
use Rattle.semantics.proofs.Held.{held_add, held_mul, held_mul_left}
use Rattle.semantics.proofs.Weights.{earlier, ordered, newest_earlier, older_ordered, gate, weight, length_absorbed}
use Rattle.semantics.proofs.Rows.{row_cong, RowsLeft, absorbed_rows, absorbed_rows_lem}
use Rattle.semantics.proofs.Counting.{numbers, contribution, counts_left, total, eliminate, share, share_older, above, share_newest}
use Rattle.semantics.proofs.Counting.{newest_past, factor, solutions_weigh}

-- the sum of held numbers, held at each addition, is the held sum
pub held-sum {ℓ} : {A : Type ℓ} (f g : A → ℕ) (xs : List A) → ((x : A) → Memᴰ x xs → f x ≡ held (g x)) → held_sum f xs ≡ held (sum g xs)
held-sum f g [] h = refl
held-sum f g (x ∷ xs) h =
    ap₂ held_plus (h x (Memᴰ.head refl)) (held-sum f g xs (λ y m. h y (Memᴰ.tail m))) ∙ sym (held_add (g x) (sum g xs))

-- the row of held values of a function
abbrev pub held_row : ℕ → (ℕ → ℕ) → List ℕ
held_row m f = row_of m (λ c. held (f c))

-- over the row of held factors it is the held contribution
pub contribution_held : (m : ℕ) (f : ℕ → ℕ) (k : ℕ) (beside : ℕ → Bool) → k ≤ m
    → held_contribution (held_row m f) k beside ≡ held (contribution f k beside)
contribution_held m f k beside l =
    held-sum _ _ (below k)
    (λ y i.
    ap (λ x. held_times x (gate numbers (beside y))) (get_or_by (λ c. held (f c)) 0 m y (lt_of_lt_of_le (in_below k i) l))
    ∙ sym (held_mul_left (f y) (gate numbers (beside y))))

module _ (tables : List (List ℕ)) (m : ℕ) where
  -- equation 4 over rows
  abbrev pub held_left : Plot → List ℕ → ℕ → List (List ℕ) → RowsLeft ℕ
  held_left p r s rs = absorbed_rows held_times 0 m tables p.link (held_contribution r p.classes) s rs

  -- one pass up: the held number of all solutions
  abbrev pub held_total : ℕ → List (List ℕ) → List Plot → ℕ
  held_total s rs [] = s
  held_total s [] (p ∷ older) = 0
  held_total s (r ∷ rs) (p ∷ older) = held_total (held_left p r s rs).scalar (held_left p r s rs).rows older

  -- what comes from above, a row of it: over a child from its parent's row, which is asked for once
  abbrev pub held_above : Link → ℕ → (ℕ → List ℕ) → List ℕ
  held_above root whole shares = row_of m (λ c. whole)
  held_above (child q t) whole shares = let parent = shares q in row_of m (λ c. held_contribution parent m (λ b. allows (row tables t b) c))

  -- One pass up and one path down, for the plot at position i: a newer plot is taken away; the plot itself is left standing, and the rest
  -- goes on for its parent, whose row then comes down to it (equations 1 and 3 over rows).
  abbrev pub held_shares : ℕ → List (List ℕ) → List Plot → ℕ → List ℕ
  held_shares s rs [] i = row_of m (λ c. 0)
  held_shares s [] (p ∷ older) i = row_of m (λ c. 0)
  held_shares s (r ∷ rs) (p ∷ older) i =
      let down = held_above p.link (held_total s rs older) (held_shares s rs older) in
      cond (eqb i (length older))
      (row_of m (λ c. cond (ltb c p.classes) (held_times (get_or r c 0) (get_or down c 0)) 0))
      (held_shares (held_left p r s rs).scalar (held_left p r s rs).rows older i)

  -- what is left of the held rows stands for what is left of the factors
  left-held : (p : Plot) (f : ℕ → ℕ) (s : ℕ) (fs : List (ℕ → ℕ)) → p.classes ≤ m
      → ((held_left p (held_row m f) (held s) (map (held_row m) fs)).scalar ≡ held (counts_left tables p f s fs).scalar)
      × ((held_left p (held_row m f) (held s) (map (held_row m) fs)).rows ≡ map (held_row m) (counts_left tables p f s fs).factors)
  left-held p f s fs l =
      absorbed_rows_lem numbers held_times 0 m held (λ a b. sym (held_mul a b)) tables p.link (contribution f p.classes)
      (held_contribution (held_row m f) p.classes) s fs (λ beside. contribution_held m f p.classes beside l)

  left_long : (p : Plot) (f : ℕ → ℕ) (s : ℕ) (fs : List (ℕ → ℕ)) (older : List Plot) → length (f ∷ fs) ≡ length (p ∷ older)
      → length (counts_left tables p f s fs).factors ≡ length older
  left_long p f s fs older e = length_absorbed numbers tables p.link (contribution f p.classes) s fs ∙ suc_inj e

  -- The pass up over held rows gives the held sum of all weights, for any factors.
  pub total-held : (s : ℕ) (fs : List (ℕ → ℕ)) (ps : List Plot)
      → length fs ≡ length ps → ordered ps ≡ true → every (λ p. leb p.classes m) ps ≡ true
      → held_total (held s) (map (held_row m) fs) ps ≡ held (total tables s fs ps)
  total-held s fs [] e o b = ap held (sym (add-zero s))
  total-held s [] (p ∷ older) e o b = absurd (omega arith)
  total-held s (f ∷ fs) (p ∷ older) e o b =
      let l = left-held p f s fs (newest_few m p older b) in
      ap₂ (λ x y. held_total x y older) l.0 l.1
      ∙ total-held (counts_left tables p f s fs).scalar (counts_left tables p f s fs).factors older (left_long p f s fs older e)
      (older_ordered p older o) (older_few m p older b)
      ∙ ap held (sym (eliminate tables p f s fs older (suc_inj e) (newest_earlier p older o)))

  -- The pass up and the path down over held rows give the held shares of a plot, for any factors.
  pub shares_held : (s : ℕ) (fs : List (ℕ → ℕ)) (ps : List Plot) (i : ℕ)
      → length fs ≡ length ps → ordered ps ≡ true → every (λ p. leb p.classes m) ps ≡ true → i < length ps
      → held_shares (held s) (map (held_row m) fs) ps i ≡ held_row m (share tables s fs ps i)
  shares_held s fs [] i e o b l = absurd (omega arith)
  shares_held s [] (p ∷ older) i e o b l = absurd (omega arith)
  shares_held s (f ∷ fs) (p ∷ older) i e o b l =
      ⊎_elim
      (λ (q : i ≡ length older).
      rw (eq-eqb i (length older) q, q)
      (row_cong m _ _
      (λ c k.
      newest c k (ltb c p.classes) refl (total-held s fs older (suc_inj e) before small)
      (λ j h. shares_held s fs older j (suc_inj e) before small h))))
      (λ (q : i < length older).
      rw (ne_eqb i (length older) (λ r. omega arith))
      (let h = left-held p f s fs (newest_few m p older b) in
      ap₂ (λ x y. held_shares x y older i) h.0 h.1
      ∙ shares_held (counts_left tables p f s fs).scalar (counts_left tables p f s fs).factors older i
      (left_long p f s fs older e) before small q
      ∙ row_cong m _ _ (λ c k. ap held (sym (share_older tables p f s fs older i c (suc_inj e) back q)))))
      (eq-or-lt_of_le {n = i} {m = length older} (omega arith))
    where
      back : earlier (length older) p.link ≡ true
      back = newest_earlier p older o

      before : ordered older ≡ true
      before = older_ordered p older o

      small : every (λ r. leb r.classes m) older ≡ true
      small = older_few m p older b

      coming : (k : Link) → earlier (length older) k ≡ true → held_total (held s) (map (held_row m) fs) older ≡ held (total tables s fs older)
          → ((j : ℕ) → j < length older → held_shares (held s) (map (held_row m) fs) older j ≡ held_row m (share tables s fs older j))
          → held_above k (held_total (held s) (map (held_row m) fs) older) (held_shares (held s) (map (held_row m) fs) older)
          ≡ held_row m (above tables m k (total tables s fs older) (share tables s fs older))
      coming root h w r = ap (λ x. row_of m (λ c. x)) w
      coming (child q t) h w r =
          ap (λ x. row_of m (λ c. held_contribution x m (λ d. allows (row tables t d) c))) (r q (ltb-true q (length older) h))
          ∙ row_cong m _ _ (λ c k. contribution_held m (share tables s fs older q) m (λ d. allows (row tables t d) c) (le_refl m))

      newest : (c : ℕ) → c < m → (t : Bool) → ltb c p.classes ≡ t
          → held_total (held s) (map (held_row m) fs) older ≡ held (total tables s fs older)
          → ((j : ℕ) → j < length older → held_shares (held s) (map (held_row m) fs) older j ≡ held_row m (share tables s fs older j))
          → cond t
          (held_times (get_or (held_row m f) c 0)
          (get_or (held_above p.link (held_total (held s) (map (held_row m) fs) older) (held_shares (held s) (map (held_row m) fs) older)) c 0))
          0
          ≡ held (share tables s (f ∷ fs) (p ∷ older) (length older) c)
      newest c k true t w r =
          ap₂ held_times (get_or_by (λ d. held (f d)) 0 m c k)
          (ap (λ x. get_or x c 0) (coming p.link back w r)
          ∙ get_or_by (λ d. held (above tables m p.link (total tables s fs older) (share tables s fs older) d)) 0 m c k)
          ∙ sym (held_mul (f c) (above tables m p.link (total tables s fs older) (share tables s fs older) c))
          ∙ ap held (sym (share_newest tables m p f s fs older c back small (ltb-true c p.classes t)))
      newest c k false t w r = ap held (sym (newest_past tables p f s fs older c (ltb-false c p.classes t)))

-- the row of a plot's own factors, with which the pass starts
abbrev pub own_row : ℕ → Plot → List ℕ
own_row m p = row_of m (factor p)

own_held : (m : ℕ) (ps : List Plot) → map (own_row m) ps ≡ map (held_row m) (map factor ps)
own_held m [] = refl
own_held m (p ∷ older) = ap₂ ◌∷◌ (row_cong m _ _ (λ c k. go (allows p.domain c && agrees p.label c))) (own_held m older)
  where
    go : (t : Bool) → cond t 1 0 ≡ held (cond t 1 0)
    go true = refl
    go false = refl

module _ (n : Network) (m : ℕ) (o : ordered n.plots ≡ true) (b : every (λ p. leb p.classes m) n.plots ≡ true) where
  -- The first m supports of a plot, by one pass up and one path down.
  pub supports_by : (i : ℕ) → i < length n.plots
      → held_shares n.tables m 1 (map (own_row m) n.plots) n.plots i ≡ row_of m (support n i)
  supports_by i l =
      ap (λ rs. held_shares n.tables m 1 rs n.plots i) (own_held m n.plots)
      ∙ shares_held n.tables m 1 (map factor n.plots) n.plots i (length-map n.plots factor) o b l
      ∙ row_cong m _ _ (λ c k. ap held (sym (solutions_weigh n (λ a. eqb (class_at a i) c))))

  -- The held number of all solutions, by one pass up.
  pub solutions_by : held_total n.tables m 1 (map (own_row m) n.plots) n.plots ≡ held (length (solutions n))
  solutions_by =
      ap (λ rs. held_total n.tables m 1 rs n.plots) (own_held m n.plots)
      ∙ total-held n.tables m 1 (map factor n.plots) n.plots (length-map n.plots factor) o b
      ∙ ap held
      (sym
      (ap length (sym (those_all (λ a. true) (solutions n) (λ a k. refl)))
      ∙ solutions_weigh n (λ a. true)
      ∙ ap (sum (weight numbers n.tables 1 (map factor n.plots) n.plots))
      (those_all (λ a. true) (assignments n.plots) (λ a k. refl))))

-- A plot's support is zero past its classes.
pub support_past : (n : Network) (i c : ℕ) → i < length n.plots → class_count n.plots i ≤ c → support n i c ≡ 0
support_past n i c l h =
    ap (λ xs. held (length xs))
    (those_none (λ a. eqb (class_at a i) c) (solutions n) (λ a m. ne_eqb (class_at a i) c (λ e. past a (assigned a m) e)))
  where
    assigned : (a : List ℕ) → Memᴰ a (solutions n) → is_assignment n.plots a ≡ true
    assigned a m =
        listed n.plots a
        (in_those (fits n.tables n.plots) (assignments n.plots) (in_those (agrees_all n.plots) (fitting n) m).0).0

    past : (a : List ℕ) → is_assignment n.plots a ≡ true → class_at a i ≡ c → ⊥
    past a s e = omega (arith, class-below n.plots a i s l)

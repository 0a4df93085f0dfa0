-- The least key of a row of costs says what the best class costs, and which it is.
use Rattle.std.proofs.Common.{◌≡◌, refl, ap, ◌∙◌, Bool, true, false, cond, List, ℕ, ◌/◌, ◌<◌, ◌≤◌, arith, bit_or, get_or, ltb, lt-ltb}
use Rattle.std.proofs.Common.{le-ltb, ltb-true, ltb-false}
use Rattle.semantics.specs.Basics.{below}
use Rattle.semantics.specs.Limits.{max_classes}
use Rattle.semantics.specs.Network.{Link, Label, allows}
use Rattle.semantics.specs.Relabelling.{Best, none, best, is_label, rank_by}
use Rattle.semantics.specs.Messages.{Cost, never, some, plus, at_cost, worth, chosen}
use Rattle.semantics.proofs.Lists.{get_or_by, in_below}
use Rattle.semantics.proofs.Weights.{gate}
use Rattle.semantics.proofs.Least.{plus-zero, costs}
use Rattle.semantics.proofs.Preference.{worth_foremost}
use Rattle.relabel.specs.Costs.{row_above, never_number, as_cost, cost_number, cost_in, best_in, preferred_in}
use Rattle.relabel.specs.Keys.{ranks, bar_number, key_in, AreCosts, key_row, all_bars, bars_below, least_of, least_key, offered, key_class}
use Rattle.relabel.proofs.Bounds.{cost-number}
use Rattle.relabel.proofs.LeastKey.{least-same, least_start, KeyOf, Low, key_cost, key_rank, unrank-rank, rank-low, preference_key}
use Rattle.relabel.proofs.LeastKey.{preference-low}
use Rattle.relabel.proofs.Bars.{bar_or, Through, below_bar}

-- a class that isn't allowed costs what can't be paid
plus-never : (a : Cost) → plus a never ≡ never
plus-never never = refl
plus-never (some m) = refl

module _ (l : Label) where
  -- a key, or the bar, stands for a class at its cost, where a test lets it
  gated_key : (v c : ℕ) (b : Bool)
      → KeyOf (rank_by l) never_number (cond b (key_in l v c) bar_number) (at_cost (plus (as_cost v) (gate costs b)) c)
  gated_key v c false = rw (plus-never (as_cost v)) (omega arith)
  gated_key v c true = rw (plus-zero (as_cost v)) (go (ltb v never_number) refl)
    where
      go : (t : Bool) → ltb v never_number ≡ t → KeyOf (rank_by l) never_number (key_in l v c) (at_cost (cond t (some v) never) c)
      go true e = let h : v < never_number = ltb-true v never_number e in (h, omega arith)
      go false e = let h : never_number ≤ v = ltb-false v never_number e in omega arith

  row_key : (row : List ℕ) (c : ℕ) → c < max_classes → get_or (key_row row l) c 0 ≡ key_in l (get_or row c 0) c
  unfolding key_row
  row_key row c h = get_or_by (λ d. key_in l (get_or row d 0) d) 0 max_classes c h

  -- no key has more than 16 bits
  key_bits : (row : List ℕ) → AreCosts row → (c : ℕ) → c < max_classes → get_or (key_row row l) c 0 < 65536
  key_bits row a c h = rw (row_key row c h) (omega (arith, a.paid c, rank-low l c))

  -- the class that a key says is what was found
  says-class : (v : ℕ) (b : Best ℕ) → KeyOf (rank_by l) never_number v b → Low (rank_by l) b → key_class l v ≡ chosen b
  says-class v none h k = rw (le-ltb (v / ranks) never_number (omega arith))
  says-class v (best m c) h k =
      let e : v / ranks ≡ m = omega (arith, h.0, h.1) in
      rw (e, lt-ltb m never_number h.0, key_rank (rank_by l) never_number v m c h k) (unrank-rank l c)

  -- the least of a row's keys among those of the eight classes that pass a test
  abbrev pub least_allowed : List ℕ → (ℕ → Bool) → ℕ
  least_allowed row beside = least_of bar_number (λ c. cond (beside c) (get_or (key_row row l) c 0) bar_number) (below max_classes)

  -- what an offer has beside a class of the parent: the bars leave the keys of those that the row above allows
  pub offered-at : (row rows : List ℕ) (tables : ℕ) (link : Link) → AreCosts row → Through tables link → (b : ℕ) → b < max_classes
      → get_or (offered (key_row row l) (bars_below link (all_bars rows tables))) b 0 ≡ least_allowed row (allows (row_above link rows (λ q. b)))
  unfolding offered
  offered-at row rows tables link a t b i =
      get_or_by (λ d. least_key (key_row row l) (bars_below link (all_bars rows tables)) d max_classes) 0 max_classes b i
      ∙ least-same bar_number _ _ (below max_classes)
      (λ c m.
      let j : c < max_classes = in_below max_classes m in
      ap (bit_or (get_or (key_row row l) c 0)) (below_bar rows tables link t b c i j)
      ∙ bar_or (get_or (key_row row l) c 0) (key_bits row a c j) (allows (row_above link rows (λ q. b)) c))

  -- a row of costs in which the classes past k can't be had
  module _ (row : List ℕ) (k : ℕ) (few : k ≤ max_classes) (past : (c : ℕ) → k ≤ c → c < max_classes → get_or row c 0 ≡ never_number)
      (beside : ℕ → Bool) where
    none_past : (c : ℕ) → k ≤ c → c < max_classes → cost_in row beside c ≡ never
    none_past c i j = rw (past c i j)

    best_key : KeyOf (rank_by l) never_number (least_allowed row beside) (preferred_in l row beside k)
    best_key =
        preference_key l k few (cost_in row beside) (λ c. cond (beside c) (get_or (key_row row l) c 0) bar_number) never_number bar_number
        (omega arith) none_past
        (λ c i. rw (row_key row c i) (gated_key (get_or row c 0) c (beside c)))

    -- The sixteenth part of the least key is what the best of the k classes costs,
    pub key_number : least_allowed row beside / ranks ≡ cost_number (worth (best_in row beside k))
    key_number =
        cost-number (least_allowed row beside / ranks)
        (omega (arith, least_start bar_number (λ c. cond (beside c) (get_or (key_row row l) c 0) bar_number) (below max_classes)))
        ∙ ap cost_number
        (key_cost (rank_by l) never_number (least_allowed row beside) (preferred_in l row beside k) best_key
        (preference-low l k few (cost_in row beside))
        ∙ worth_foremost (cost_in row beside) (is_label l) (below k))

    -- and the rest says which class it is, the label's among equally cheap ones.
    pub key_chosen : key_class l (least_allowed row beside) ≡ chosen (preferred_in l row beside k)
    key_chosen = says-class (least_allowed row beside) (preferred_in l row beside k) best_key (preference-low l k few (cost_in row beside))

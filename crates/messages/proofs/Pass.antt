-- The pass up, plot by plot: what it leaves as it was.
use Rattle.std.proofs.Common.{◌≡◌, refl, ◌∙◌, Bool, true, false, cond, List, [], ℕ, zero, suc, ◌<◌, ◌≤◌, arith, length, get_or, length-set}
use Rattle.std.proofs.Common.{get_or-set_other}
use Rattle.semantics.specs.Network.{Link, root, child}
use Rattle.network.specs.declared.Network.{Network}
use Rattle.stored.specs.Values.{link_at, classes_at}
use Rattle.messages.specs.Pass.{sent_up, sent, gathered}

module _ {A : Type 0} (fold : List A → List A → List A) (message : List A → List ℕ → ℕ → ℕ → List A) (n : Network)
    (standing : List Bool) where
  abbrev rest : ℕ → List (List A) → List (List A)
  rest = gathered fold message n standing

  abbrev link : ℕ → Link
  link = link_at n.parents n.through

  -- a parent is older than its child, for the first j plots
  abbrev Back : ℕ → Type 0
  Back j = (i parent table : ℕ) → i < j → link i ≡ child parent table → parent < i

  -- what a plot sends changes no row but those of older plots
  sent_other : (j : ℕ) → Back (suc j) → (rows : List (List A)) (x : ℕ) → j ≤ x
      → get_or (sent fold message n standing j rows) x [] ≡ get_or rows x []
  sent_other j back rows x h = go (get_or standing j false) (link j) refl
    where
      go : (s : Bool) (l : Link) → link j ≡ l → get_or (cond s rows (sent_up fold message n l j rows)) x [] ≡ get_or rows x []
      go true l e = refl
      go false root e = refl
      go false (child q t) e = let k : q < j = back j q t (omega arith) e in get_or-set_other rows q x _ [] (λ z. omega arith)

  -- A plot's row stays as it is once all newer plots have sent: the pass then changes only rows of older ones.
  pub gathered_above : (j : ℕ) → Back j → (rows : List (List A)) (x : ℕ) → j ≤ x → get_or (rest j rows) x [] ≡ get_or rows x []
  gathered_above zero back rows x h = refl
  gathered_above (suc j) back rows x h =
      gathered_above j (λ i q t l e. back i q t (omega arith) e) (sent fold message n standing j rows) x (omega arith)
      ∙ sent_other j back rows x (omega arith)

  -- So the newest that is left sends the row that it will have at the end.
  pub settled : (j : ℕ) → Back (suc j) → (rows : List (List A)) → get_or (rest (suc j) rows) j [] ≡ get_or rows j []
  settled j back rows =
      gathered_above j (λ i q t l p. back i q t (omega arith) p) (sent fold message n standing j rows) j (omega arith)
      ∙ sent_other j back rows j (omega arith)

-- A child's message leaves as many rows as there were.
pub sent_long : {A : Type 0} (fold : List A → List A → List A) (message : List A → List ℕ → ℕ → ℕ → List A) (n : Network)
    (rows : List (List A)) (j parent table : ℕ)
    → j ≤ length rows → j ≤ length (sent_up fold message n (child parent table) j rows)
sent_long fold message n rows j parent table h =
    rw (length-set rows parent (fold (get_or rows parent []) (message (get_or rows j []) n.rows table (classes_at n.classes j)))) h

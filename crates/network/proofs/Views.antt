-- What stands in the view of a network: its tables and its plots by position, and how the view of another struct differs.
use Rattle.std.proofs.Common.{Some, ◌≡◌, refl, sym, ap, ◌∙◌, Bool, true, false, cond, List, [], ◌∷◌, ◌++◌, inl}
use Rattle.std.proofs.Common.{inr, ℕ, zero, suc, ◌<◌, not-suc-le-zero, arith, length, get_or, length-append, eq-eqb, ne_eqb}
use native.Mathlib.Decide.{ℕ_discrete}
use lib.ListN.{get_or-append}
use lib.Seq.{get_or_at}
use Rattle.semantics.specs.Basics.{same}
use Rattle.semantics.specs.Network.{Plot, find, present, row, update, StandsAt}
use Rattle.text.specs.Ids.{trimmed}
use Rattle.network.specs.declared.Network.{Network}
use Rattle.stored.specs.Values.{table_at, slot_at}
use Rattle.network.specs.View.{tables_of, plot_at, plots_of, view}
use Rattle.network.specs.Found.{lookup, place_of}

-- there are as many plots and tables as the counts say
pub length-plots : (n : Network) (m : ℕ) → length (plots_of n m) ≡ m
length-plots n zero = refl
length-plots n (suc m) = ap suc (length-plots n m)

pub length-tables : (rows : List ℕ) (m : ℕ) → length (tables_of rows m) ≡ m
length-tables rows zero = refl
length-tables rows (suc m) = omega (arith, length-append (tables_of rows m) (table_at rows m ∷ []), length-tables rows m)

-- a table that stands is the one at its place
pub table_view : (rows : List ℕ) (m t : ℕ) → t < m → get_or (tables_of rows m) t [] ≡ table_at rows t
table_view rows zero t h = absurd (not-suc-le-zero h)
table_view rows (suc m) t h = elim (ℕ_discrete t m) [ yes e ↦ last e | no ne ↦ earlier ne (table_view rows m t) ]
  where
    last : t ≡ m → get_or (tables_of rows m ++ (table_at rows m ∷ [])) t [] ≡ table_at rows t
    last e = rw e (get_or_at (tables_of rows m) (table_at rows m) [] [] m (length-tables rows m))

    earlier : (t ≡ m → ⊥) → (t < m → get_or (tables_of rows m) t [] ≡ table_at rows t)
        → get_or (tables_of rows m ++ (table_at rows m ∷ [])) t [] ≡ table_at rows t
    earlier ne ih = get_or-append (tables_of rows m) (table_at rows m ∷ []) [] t (omega (arith, length-tables rows m)) ∙ ih (omega arith)

-- a row of a table that stands is the one at its place
pub row-view : (rows : List ℕ) (m t c : ℕ) → t < m → row (tables_of rows m) t c ≡ get_or (table_at rows t) c 0
row-view rows m t c h = rw (table_view rows m t h)

-- the plot at a position below the count stands there
pub plot_stands : (n : Network) (m i : ℕ) → i < m → StandsAt i (plot_at n i) (plots_of n m)
plot_stands n zero i h = absurd (not-suc-le-zero h)
plot_stands n (suc m) i h =
    elim (ℕ_discrete i m) [ yes e ↦ inl (e ∙ sym (length-plots n m), ap (plot_at n) e) | no ne ↦ inr (plot_stands n m i (omega arith)) ]

-- an id that is found is that of one of the plots
pub lookup-below : (id ids : List ℕ) (m i : ℕ) → lookup id ids m ≡ Some i → i < m
lookup-below id ids zero i e = cc
lookup-below id ids (suc m) i e = go (same id (trimmed (slot_at ids m))) e (lookup-below id ids m i)
  where
    go : (b : Bool) → cond b (Some m) (lookup id ids m) ≡ Some i → (lookup id ids m ≡ Some i → i < m) → i < suc m
    go true q ih = let z : m ≡ i = cc in omega arith
    go false q ih = let l : i < m = ih q in omega arith

-- where an id stands among the stored ones is where it stands in the view
pub found-view : (n : Network) (id : List ℕ) (m : ℕ) → place_of n (lookup id n.ids m) ≡ find id (plots_of n m)
found-view n id zero = refl
found-view n id (suc m) = go (same id (trimmed (slot_at n.ids m))) (found-view n id m)
  where
    go : (b : Bool) → place_of n (lookup id n.ids m) ≡ find id (plots_of n m)
        → place_of n (cond b (Some m) (lookup id n.ids m)) ≡ cond b (present (length (plots_of n m)) (plot_at n m)) (find id (plots_of n m))
    go true h = rw (length-plots n m)
    go false h = h

-- two structs whose plots are the same below a count have the same plots
pub plots-same : (n r : Network) (m : ℕ) → ((i : ℕ) → i < m → plot_at r i ≡ plot_at n i) → plots_of r m ≡ plots_of n m
plots-same n r zero h = refl
plots-same n r (suc m) h = rw (h m (omega arith), plots-same n r m (λ i l. h i (omega arith)))

-- the same of tables
pub tables-same : (rows other : List ℕ) (m : ℕ) → ((t : ℕ) → t < m → table_at other t ≡ table_at rows t) → tables_of other m ≡ tables_of rows m
tables-same rows other zero h = refl
tables-same rows other (suc m) h = rw (h m (omega arith), tables-same rows other m (λ t l. h t (omega arith)))

-- where the plot at one position is changed and no other, the view is changed there
pub plots-changed : (n r : Network) (f : Plot → Plot) (i m : ℕ) → plot_at r i ≡ f (plot_at n i)
    → ((j : ℕ) → (j ≡ i → ⊥) → plot_at r j ≡ plot_at n j) → plots_of r m ≡ update i f (plots_of n m)
plots-changed n r f i zero e o = refl
plots-changed n r f i (suc m) e o = elim (ℕ_discrete i m) [ yes p ↦ here p | no d ↦ other d (plots-changed n r f i m e o) ]
  where
    here : i ≡ m → plots_of r (suc m) ≡ update i f (plots_of n (suc m))
    here p =
        let q : plot_at r m ≡ f (plot_at n m) = rw (← p) e in
        rw (length-plots n m, eq-eqb i m p, q, plots-same n r m (λ j l. o j (λ z. omega arith)))

    other : (i ≡ m → ⊥) → plots_of r m ≡ update i f (plots_of n m) → plots_of r (suc m) ≡ update i f (plots_of n (suc m))
    other d ih = rw (length-plots n m, ne_eqb i m d, o m (λ z. d (sym z)), ih)

-- What lies past the counts isn't seen: two structs that agree on the counts, and on the tables and plots below them, have the same view.
pub spare_unseen : (n r : Network) → r.tables ≡ n.tables → r.plots ≡ n.plots
    → ((t : ℕ) → t < n.tables → table_at r.rows t ≡ table_at n.rows t) → ((i : ℕ) → i < n.plots → plot_at r i ≡ plot_at n i)
    → view r ≡ view n
spare_unseen n r t p tables plots =
    let a : tables_of r.rows r.tables ≡ tables_of n.rows n.tables =
    ap (tables_of r.rows) t ∙ tables-same n.rows r.rows n.tables tables in
    let b : plots_of r r.plots ≡ plots_of n n.plots = ap (plots_of r) p ∙ plots-same n r n.plots plots in
    rw (a, b)

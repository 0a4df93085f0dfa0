-- The rules of what stands in a struct: its tables always keep theirs, and its plots go one by one, from the newest on.
use Rattle.std.proofs.Common.{Option, Some, None, ◌≡◌, refl, ◌∙◌, Bool, true, false, not, ◌&&◌, List, [], ◌∷◌, ℕ, zero, suc, ◌+◌, ◌*◌, ◌<◌}
use Rattle.std.proofs.Common.{◌≤◌, arith, leb, length, get_or, take, drop, length-drop, get_or-take, get_or-drop, length-take-le, le-leb}
use mathlib.Core.Bool.{and-false}
use native.Mathlib.Decide.{ℕ_discrete}
use Rattle.semantics.specs.Basics.{every}
use Rattle.semantics.specs.Limits.{max_tables, table_rows, max_mask}
use Rattle.semantics.specs.Text.{is_id}
use Rattle.semantics.specs.Network.{is_present}
use Rattle.semantics.specs.Rules.{is_table, link_holds, classes_hold, domain_holds, label_holds, plots_hold}
use Rattle.semantics.proofs.Lists.{every_append}
use Rattle.network.specs.declared.Network.{Network}
use Rattle.stored.specs.Values.{table_at}
use Rattle.network.specs.View.{tables_of, plot_at, plots_of}
use Rattle.network.specs.Found.{lookup, is_new, id_holds, bytes_hold, place_of}
use Rattle.network.proofs.Views.{length-plots, found-view}

-- a place in the view says whether an id is new
new_place : (n : Network) (f : Option ℕ) → not (is_present (place_of n f)) ≡ is_new f
new_place n None = refl
new_place n (Some i) = refl

-- the tests of a plot, those of its bytes first
regroup : (older id link classes domain label new : Bool)
    → (older && (id && link && classes && domain && label) && new) ≡ (older && ((link && classes && domain && label) && (id && new)))
regroup true true link classes domain label new = refl
regroup true false link classes domain label new = rw and-false
regroup false true link classes domain label new = refl
regroup false false link classes domain label new = refl

module _ (n : Network) (m : ℕ) where
  -- the plots keep the rules where the older ones and the newest do
  pub newest_holds : plots_hold n.tables (plots_of n (suc m))
      ≡ (plots_hold n.tables (plots_of n m) && (bytes_hold n m && id_holds (plot_at n m).id n.ids m))
  newest_holds =
      let p = plot_at n m in
      rw (length-plots n m, ← found-view n p.id m, new_place n (lookup p.id n.ids m))
      (regroup
      (plots_hold n.tables (plots_of n m))
      (is_id p.id)
      (link_holds n.tables m p.link)
      (classes_hold p.classes)
      (domain_holds p.classes p.domain)
      (label_holds p.classes p.label)
      (is_new (lookup p.id n.ids m)))

-- where the rules break for the oldest plots they break for all
pub broken_before : (n : Network) (i m : ℕ) → i ≤ m → plots_hold n.tables (plots_of n i) ≡ false
    → plots_hold n.tables (plots_of n m) ≡ false
broken_before n i zero h e = let z : i ≡ 0 = omega arith in rw z at e
broken_before n i (suc m) h e =
    elim (ℕ_discrete i (suc m)) [ yes q ↦ rw q at e | no d ↦ rw (broken_before n i m (omega arith) e) ]

-- bytes are masks
masks : (l : List ℕ) → ((i : ℕ) → i < length l → get_or l i 0 < 256) → every (λ r. leb r max_mask) l ≡ true
masks [] h = refl
masks (r ∷ l) h =
    let first : r < 256 = h 0 (omega arith) in
    let low : r ≤ max_mask = omega arith in
    rw (le-leb r max_mask low) (masks l (λ i k. h (suc i) (omega arith)))

-- eight bytes are a table
pub is_table_lem : (rows : List ℕ) → length rows ≡ table_rows → ((i : ℕ) → i < length rows → get_or rows i 0 < 256) → is_table rows ≡ true
is_table_lem rows eight low = rw (eight, masks rows low)

table_holds : (rows : List ℕ) (t : ℕ) → length rows ≡ max_tables * table_rows → ((i : ℕ) → get_or rows i 0 < 256) → t < max_tables
    → is_table (table_at rows t) ≡ true
table_holds rows t long low few =
    let part = drop (t * table_rows) rows in
    let rest : table_rows ≤ length part = rw length-drop (omega arith) in
    let eight : length (take table_rows part) ≡ table_rows = length-take-le table_rows part rest in
    is_table_lem (take table_rows part) eight (λ i k. rw (get_or-take table_rows part i 0 (rw eight at k), get_or-drop) (low (t * table_rows + i)))

-- tables that stand in an array of bytes keep their rules
pub tables_hold : (rows : List ℕ) (m : ℕ) → length rows ≡ max_tables * table_rows → ((i : ℕ) → get_or rows i 0 < 256) → m ≤ max_tables
    → every is_table (tables_of rows m) ≡ true
tables_hold rows zero long low few = refl
tables_hold rows (suc m) long low few =
    every_append is_table (tables_of rows m) (table_at rows m ∷ [])
    ∙ rw (tables_hold rows m long low (omega arith), table_holds rows m long low (omega arith))

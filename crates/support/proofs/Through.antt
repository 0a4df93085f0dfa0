-- What goes up and down through the spread tables of a network is what its rows say.
use Rattle.std.proofs.Common.{◌≡◌, refl, sym, ap, ◌∙◌, Bool, true, false, cond, List, [], ℕ, zero, suc, ◌<◌, ◌≤◌, arith, get_or, set}
use Rattle.semantics.specs.Limits.{max_classes}
use Rattle.semantics.specs.Network.{Link, root, child}
use Rattle.semantics.specs.Rules.{network_holds}
use Rattle.network.specs.declared.Network.{Network}
use Rattle.network.specs.View.{view}
use Rattle.network.proofs.Standing.{few-tables, child-below}
use Rattle.stored.specs.Values.{link_at, classes_at}
use Rattle.messages.specs.Rows.{own_rows, Past}
use Rattle.messages.specs.Pass.{sent_up, sent, gathered}
use Rattle.network.proofs.Reach.{few-classes, parents_back}
use Rattle.messages.proofs.Pass.{settled}
use Rattle.counts.specs.HeldRows.{counts_up, spread_tables, BitTables, up_through, down_through, own_counts}
use Rattle.counts.proofs.Spread.{spread_there, all_bits}
use Rattle.counts.proofs.Sums.{through_up, through_down}
use Rattle.support.specs.Paths.{folded_counts, above_through, path_to}
use Rattle.support.specs.Paths.{descended_through, told_through, gathered_through, supports_then_zeros}
use Rattle.support.proofs.Zeros.{to_parent_past, products_past, zeros_past}
use Rattle.support.proofs.Counted.{from_above, descended, counts_supports}

module _ (n : Network) (h : network_holds (view n) ≡ true) (spread : List (List (List ℕ)))
    (e : spread ≡ spread_tables n.rows n.tables) where
  -- they hold nothing but bits
  pub network_bits : BitTables spread
  network_bits = rw e (all_bits n.rows n.tables (few-tables n h))

  -- up a link goes the message of the plot's own classes, past which its row is zero
  told_up : (row : List ℕ) (j parent table : ℕ) → ((c : ℕ) → classes_at n.classes j ≤ c → c < max_classes → get_or row c 0 ≡ 0)
      → j < n.plots → link_at n.parents n.through j ≡ child parent table
      → up_through row (get_or spread table []) ≡ counts_up row n.rows table (classes_at n.classes j)
  told_up row j parent table z l q =
      ap (up_through row) (ap (λ s. get_or s table []) e ∙ spread_there n.rows n.tables table (child-below n h j parent table l q).1)
      ∙ through_up row n.rows table
      ∙ to_parent_past row (classes_at n.classes j) z n.rows table (few-classes n h j (classes_at n.classes j) l refl)

  -- down a link comes what comes from above
  told_down : (counts : List ℕ) (j : ℕ) → j < n.plots
      → above_through (link_at n.parents n.through j) counts spread ≡ from_above (link_at n.parents n.through j) counts n.rows
  told_down counts j l = go (link_at n.parents n.through j) refl
    where
      go : (u : Link) → link_at n.parents n.through j ≡ u → above_through u counts spread ≡ from_above u counts n.rows
      go root p = refl
      go (child parent table) p =
          ap (down_through counts)
          (ap (λ s. get_or s table []) e ∙ spread_there n.rows n.tables table (child-below n h j parent table l p).1)
          ∙ through_down counts n.rows table

  -- So the pass up through them is the one by rows and classes, where at its end there are zeros past each plot's classes:
  gathered_spread : (path : List Bool) (j : ℕ) → j ≤ n.plots → (rows : List (List ℕ))
      → Past 0 n (gathered folded_counts counts_up n path j rows)
      → gathered folded_counts (told_through spread) n path j rows
      ≡ gathered folded_counts counts_up n path j rows
  gathered_spread path zero l rows z = refl
  gathered_spread path (suc j) l rows z =
      ap (gathered folded_counts (told_through spread) n path j) (go (get_or path j false) (link_at n.parents n.through j) refl)
      ∙ gathered_spread path j (omega arith) (sent folded_counts counts_up n path j rows) z
    where
      zeros : (c : ℕ) → classes_at n.classes j ≤ c → c < max_classes → get_or (get_or rows j []) c 0 ≡ 0
      zeros c p k =
          ap (λ r. get_or r c 0) (sym (settled folded_counts counts_up n path j (parents_back n h (suc j) l) rows)) ∙ z.at j l c p k

      go : (s : Bool) (u : Link) → link_at n.parents n.through j ≡ u
          → cond s rows (sent_up folded_counts (told_through spread) n u j rows) ≡ cond s rows (sent_up folded_counts counts_up n u j rows)
      go true u q = refl
      go false root q = refl
      go false (child parent table) q =
          ap (λ told. set rows parent (folded_counts (get_or rows parent []) told)) (told_up (get_or rows j []) j parent table zeros l q)

  -- and so is the path down.
  descended_spread : (path : List Bool) (rows : List (List ℕ)) → Past 0 n rows → (j : ℕ) → j ≤ n.plots
      → descended_through n path spread rows j ≡ descended n path rows j
  descended_spread path rows z zero l = refl
  descended_spread path rows z (suc j) l =
      let above = from_above (link_at n.parents n.through j) (descended n path rows j) n.rows in
      rw (
        descended_spread path rows z j (omega arith),
        told_down (descended n path rows j) j l,
        products_past (get_or rows j []) above (classes_at n.classes j) (z.at j l) (few-classes n h j (classes_at n.classes j) l refl),
      )

  -- The pass up and the path down through spread tables give the supports.
  pub counts_spread : (i : ℕ) (path : List Bool) (own rows : List (List ℕ)) → i < n.plots
      → path ≡ path_to n i → own ≡ own_rows own_counts n
      → rows ≡ gathered_through n path spread own
      → descended_through n path spread rows n.plots ≡ supports_then_zeros n i
  counts_spread i path own rows l p o g =
      let z = zeros_past n h path in
      let r : rows ≡ gathered folded_counts counts_up n path n.plots (own_rows own_counts n) =
      rw (g, o) (gathered_spread path n.plots (omega arith) (own_rows own_counts n) z) in
      rw r (descended_spread path _ z n.plots (omega arith) ∙ rw p (counts_supports n h i l))

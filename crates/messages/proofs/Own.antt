-- The own rows of a network's plots, whatever makes a row of a domain and a label: what stands in them, and the loop that makes them.
use Rattle.std.proofs.Common.{Option, ◌≡◌, refl, ap, ap₂, ◌∙◌, List, [], ◌++◌, map, ℕ, ◌+◌, ◌≤◌, ◌<◌, arith, length, get_or, set, drop, replicate}
use Rattle.std.proofs.lemmas.List.{drop-replicate}
use Rattle.semantics.specs.Basics.{below}
use Rattle.semantics.specs.Limits.{max_classes, max_plots}
use Rattle.semantics.specs.Network.{Label, Plot}
use Rattle.network.specs.declared.Network.{Network}
use Rattle.network.specs.View.{plot_at, plots_of}
use Rattle.stored.specs.Values.{as_label, domain_at, label_at}
use Rattle.messages.specs.Rows.{newest_first, own_rows, MadeBy}
use Rattle.messages.proofs.Filling.{laid_turn, filled_long, get_or-filled}
use Rattle.messages.proofs.Newest.{newest_filled}

module _ (own : ℕ → Label → List ℕ) (n : Network) where
  -- the row of the plot at a position
  abbrev each : ℕ → List ℕ
  each i = own (domain_at n.domains i) (label_at n.labels i)

  pub own_at_lem : (i : ℕ) → i < n.plots → get_or (own_rows own n) i [] ≡ own (domain_at n.domains i) (label_at n.labels i)
  unfolding own_rows
  own_at_lem i l = get_or-filled (replicate max_classes 0) max_plots each [] n.plots i l

  pub own_long : n.plots ≤ max_plots → n.plots ≤ length (own_rows own n)
  unfolding own_rows
  own_long h = filled_long (replicate max_classes 0) max_plots each n.plots h

  -- Newest first they are the rows that a model gives the plots, where each row is read as the plot's.
  pub own_newest : {B : Type 0} (read : List ℕ → List B) (model : Plot → List B)
      → ((i : ℕ) → read (own (plot_at n i).domain (plot_at n i).label) ≡ model (plot_at n i))
      → newest_first read (own_rows own n) n.plots ≡ map model (plots_of n n.plots)
  unfolding own_rows
  own_newest read model e =
      newest_filled read n (replicate max_classes 0) max_plots each model e n.plots n.plots (omega arith)

  -- Calls that give the rows of the plots make them, where all rows are zeros before.
  pub own_made : (gives : ℕ → Option ℕ → List ℕ → Type 0) (before rows : List (List ℕ)) → MadeBy gives n n.plots before rows
      → ((domain : ℕ) (label : Option ℕ) (r : List ℕ) → gives domain label r → r ≡ own domain (as_label label))
      → before ≡ replicate max_plots (replicate max_classes 0) → rows ≡ own_rows own n
  unfolding own_rows
  own_made gives before rows m g e =
      m.made own g ∙ ap (λ b. map each (below n.plots) ++ b) (ap (drop n.plots) e ∙ drop-replicate n.plots max_plots (replicate max_classes 0))

module _ {A : Type 0} (gives : ℕ → Option ℕ → List A → Type 0) (n : Network) where
  -- A loop makes them: none at first, then one plot more.
  pub made_none : (rows : List (List A)) → MadeBy gives n 0 rows rows
  made_none rows = record { made = λ row g. refl }

  pub made_more : (i domain : ℕ) (label : Option ℕ) (r : List A) (before rows : List (List A)) → i < n.plots → n.plots ≤ max_plots
      → length before ≡ max_plots → MadeBy gives n i before rows → domain ≡ domain_at n.domains i → as_label label ≡ label_at n.labels i
      → gives domain label r → MadeBy gives n (i + 1) before (set rows i r)
  made_more i domain label r before rows l few long m d b c =
      record {
        made = λ row g.
            laid_turn (λ j. row (domain_at n.domains j) (label_at n.labels j)) i r before rows (omega arith) (m.made row g)
            (g domain label r c ∙ ap₂ row d b);
      }

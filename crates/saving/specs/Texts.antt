-- The text of a network by position: what each table and each plot has in it, in order of arrival.
use Rattle.std.specs.Prelude.{◌≡◌, List, [], ◌++◌, ℕ, zero, suc, ◌<◌, length}
use denote.Ref.{MutBor}
use Rattle.writing.specs.declared.Page.{Page}
use Rattle.writing.specs.Pages.{HasRoom, Wrote}
use Rattle.semantics.specs.Network.{Plot}
use Rattle.semantics.specs.Protocol.{table_text}
use Rattle.semantics.specs.NetworkText.{lines_text}
use Rattle.stored.specs.Values.{table_at}
use Rattle.wording.specs.Lines.{ended}
use Rattle.network.specs.declared.Network.{Network}
use Rattle.network.specs.View.{plot_at, plots_of}

-- the first j of some texts, one behind the other
abbrev pub up_to : (ℕ → List ℕ) → ℕ → List ℕ
up_to f zero = []
up_to f (suc j) = up_to f j ++ f j

-- what writes each of the first n texts: asked for one on a page where it has room, it writes it there
pub record WritesEach
    (pre : MutBor Page → ℕ → Type 0)
    (post : MutBor Page → ℕ → Unit {0} → MutBor Page → Type 0)
    (n : ℕ)
    (text : ℕ → List ℕ)
    : Type 0 where
  pub can : (p : MutBor Page) (i : ℕ) → i < n → HasRoom p.now (length (text i)) → pre p i
  pub leaves : (p : MutBor Page) (i : ℕ) (u : Unit {0}) (q : MutBor Page) → post p i u q → Wrote p.now (text i) q.now

-- what measures each of the first n texts: asked for one, it says how long that is
pub record MeasuresEach
    (pre : ℕ → Type 0)
    (post : ℕ → ℕ → Type 0)
    (n : ℕ)
    (text : ℕ → List ℕ)
    : Type 0 where
  pub can : (i : ℕ) → i < n → pre i
  pub tells : (i r : ℕ) → post i r → r ≡ length (text i)

-- what the table with a number has in the text
abbrev pub table_entry : Network → ℕ → List ℕ
table_entry n t = ended (table_text (table_at n.rows t))

-- what the plot at a position has among the lines of one kind: its P line, its S line if any, or its L line if any
abbrev pub plot_entry : (Plot → List Plot → List (List ℕ)) → Network → ℕ → List ℕ
plot_entry line n i = lines_text (line (plot_at n i) (plots_of n i))

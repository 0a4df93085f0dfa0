-- The lines by position are those of the relabel list of the assignment that gives the plots those classes.
use mathlib.Core.Path.{◌≡◌, refl, sym, ap₂, ◌∙◌}
use mathlib.Core.List.{List, [], ◌∷◌, ◌++◌}
use Prim.Native.Nat.{ℕ, zero, suc, ◌<◌}
use native.Mathlib.Omega.{arith}
use lib.ListN.{length, get_or}
use borrow.Author.Tests.{eq-eqb, ne_eqb}
use Rattle.semantics.specs.Solutions.{class_at}
use Rattle.semantics.specs.Relabelling.{change, changes}
use Rattle.semantics.specs.Answers.{changes_text}
use Rattle.network.specs.declared.Network.{Network}
use Rattle.network.specs.View.{plot_at, plots_of}
use Rattle.answers.specs.Changes.{change_lines}
use Rattle.answers.proofs.Entries.{changes-append, entry_text_lem}

-- of the first j plots, where the classes by position are those of an assignment of them
pub listed : (n : Network) (classes a : List ℕ) (j : ℕ) → length a ≡ j → ((q : ℕ) → q < j → get_or classes q 0 ≡ class_at a q)
    → change_lines n.ids n.labels classes j ≡ changes_text (changes (plots_of n j) a)
listed n classes [] zero l h = refl
listed n classes (c ∷ a) zero l h = absurd (omega arith)
listed n classes [] (suc j) l h = absurd (omega arith)
listed n classes (c ∷ a) (suc j) l h =
    let m : j ≡ length a = omega arith in
    let own : get_or classes j 0 ≡ c = h j (omega arith) ∙ rw (eq-eqb j (length a) m) in
    let older : (q : ℕ) → q < j → get_or classes q 0 ≡ class_at a q =
    λ q k. h q (omega arith) ∙ rw (ne_eqb q (length a) (λ e. omega arith)) in
    let p = plot_at n j in
    let i = length (plots_of n j) in
    ap₂ ◌++◌ (listed n classes a j (sym m) older) (rw own (sym (entry_text_lem i p c p.label)))
    ∙ sym (changes-append (changes (plots_of n j) a) (change i p c p.label))

-- `counts::add_class` meets its contract: each sum with the count times its bit more.
use Rattle.std.proofs.Common.{◌≡◌, ℕ, List, ◌+◌, ◌*◌, ◌∙◌, sym, get_or, length, arith, rules}
use Rattle.std.proofs.Common.{◌≡◌, ℕ, List, ◌+◌, ◌*◌, ◌∙◌, sym, get_or, length, arith, rules, ext_get_or}
use Rattle.semantics.specs.Basics.{row_of}
use Rattle.semantics.specs.Limits.{max_classes}
use Rattle.semantics.proofs.Lists.{length_by, get_or_by}
use Rattle.messages.proofs.Made.{row_made}
use Rattle.counts.specs.HeldRows.{with_class}
use Rattle.counts.proofs.add_class.Goals as goal

abbrev each : List ℕ → ℕ → List ℕ → ℕ → ℕ
each sums count column b = get_or sums b 0 + count * get_or column b 0

-- a count of 0 changes nothing
same : (sums column : List ℕ) (count m : ℕ) → length sums ≡ m → count ≡ 0 → sums ≡ row_of m (each sums count column)
same sums column count m e z =
    ext_get_or 0 sums (row_of m (each sums count column)) (e ∙ sym (length_by (each sums count column) m))
    (λ b l. let q : get_or sums b 0 ≡ each sums count column b = rw z (omega arith) in q ∙ sym (get_or_by (each sums count column) 0 m b (rw e at l)))

pub returns-then-count-eq0-clause-value : goal.returns-then-count-eq0-clause-value
unfolding with_class
returns-then-count-eq0-clause-value c = same c.args.sums c.args.column c.args.count max_classes (search rules) c.if-count-eq0.true

pub returns-clause-value : goal.returns-clause-value
unfolding with_class
returns-clause-value c =
    row_made (each c.args.sums c.args.count c.args.column) 0 _ _ (λ b x next l call. search rules) c.from_fn.ensures.items

-- `stored::link_of` meets its contract: what isn't 0 is stored plus one.
use Rattle.std.proofs.Common.{ℕ, zero, suc, ◌-◌, ◌≡◌, refl, sub-one}
use Rattle.semantics.specs.Limits.{max_tables, max_plots}
use Rattle.semantics.specs.Network.{child}
use Rattle.stored.specs.Values.{link_of}
use Rattle.stored.proofs.link_of.Goals as goal

no_parent : (p t : ℕ) → p ≡ 0 → (t ≡ 0 → ⊥) → child max_plots (t - 1) ≡ link_of p t
no_parent p zero e h = absurd (h refl)
no_parent p (suc t) e h = rw (e, sub-one (suc t))

no_table : (p t : ℕ) → (p ≡ 0 → ⊥) → t ≡ 0 → child (p - 1) max_tables ≡ link_of p t
no_table zero t h e = absurd (h refl)
no_table (suc p) t h e = rw (e, sub-one (suc p))

both : (p t : ℕ) → (p ≡ 0 → ⊥) → (t ≡ 0 → ⊥) → child (p - 1) (t - 1) ≡ link_of p t
both zero t h l = absurd (h refl)
both (suc p) zero h l = absurd (l refl)
both (suc p) (suc t) h l = rw (sub-one (suc p), sub-one (suc t))

pub returns-then-parent-eq0 : goal.returns-then-parent-eq0
returns-then-parent-eq0 c = search no_parent

pub returns-then-table-eq0-2 : goal.returns-then-table-eq0-2
returns-then-table-eq0-2 c = search no_table

pub returns : goal.returns
returns c = search both

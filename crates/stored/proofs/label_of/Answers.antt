-- `stored::label_of` meets its contract: what isn't 0 is stored plus one.
use Rattle.std.proofs.Common.{ℕ, zero, suc, ◌-◌, ◌≡◌, refl, sub-one}
use Rattle.semantics.specs.Network.{class}
use Rattle.stored.specs.Values.{label_of}
use Rattle.stored.proofs.label_of.Goals as goal

plus_one : (b : ℕ) → (b ≡ 0 → ⊥) → class (b - 1) ≡ label_of b
plus_one zero h = absurd (h refl)
plus_one (suc b) h = rw (sub-one (suc b))

pub returns : goal.returns
returns c = search plus_one

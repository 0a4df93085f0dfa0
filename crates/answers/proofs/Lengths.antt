-- How long C's answer can be.
use mathlib.Core.Path.{◌≡◌}
use mathlib.Core.Bool.{true}
use mathlib.Core.List.{List}
use Prim.Native.Nat.{ℕ, ◌+◌, ◌*◌, ◌≤◌, ◌<◌}
use native.Mathlib.Omega.{arith}
use lib.ListN.{length, get_or, length-append}
use borrow.Author.Tests.{ltb-true}
use Rattle.semantics.specs.Limits.{max_classes, max_id_bytes, max_count}
use Rattle.semantics.specs.Text.{is_id}
use Rattle.semantics.specs.Solutions.{Belief, nothing, believed, belief}
use Rattle.semantics.specs.Answers.{belief_text, supports_text}
use Rattle.semantics.proofs.Decimals.{length_one}
use Rattle.semantics.proofs.ReadBack.{id_short}
use Rattle.support.specs.Beliefs.{believed_below}
use Rattle.support.proofs.Answers.{belief-below}
use Rattle.wording.specs.Room.{field_room}
use Rattle.wording.proofs.Lengths.{fields_fit}

-- the most bytes of it: a letter and an id, eight counts, the believed class behind a comma, and the line's end
abbrev pub max_supports : ℕ
max_supports = 2 + max_id_bytes + field_room * max_classes + 3

-- the believed class is one digit
belief-fits : (b : Belief) → believed_below max_classes b ≡ true → length (belief_text b) ≤ 1
belief-fits nothing h = omega arith
belief-fits (believed c) h =
    let l : c < max_classes = ltb-true c max_classes h in
    omega (arith, length_one c (omega arith))

-- C's answer, of counts that are held, is no longer
pub supports-fits : (id ss : List ℕ) → is_id id ≡ true → length ss ≤ max_classes → ((c : ℕ) → c < length ss → get_or ss c 0 ≤ max_count)
    → length (supports_text id ss (belief ss)) ≤ max_supports
supports-fits id ss i few h =
    simp length-append (omega (arith, id_short id i, fields_fit ss (λ c l. omega (arith, h c l)), belief-fits (belief ss) (belief-below ss max_classes few)))

-- `text::id_length` meets its contract.
use Rattle.text.proofs.Ids.{length-trimmed, length-eight, short_length, long_length}
use mathlib.Core.Path.{◌≡◌, sym, ◌∙◌}
use Prim.Native.Nat.{ℕ, ◌+◌}
use native.Mathlib.Omega.{arith}
use lib.ListN.{length}
use Rattle.text.specs.declared.Id.{Id}
use Rattle.text.specs.Ids.{word_bytes, trimmed, eight_of, id_bytes}
use mir.Val.{Fits}
use mir.Syntax.{w64}
use Rattle.text.proofs.id_length.Goals as goal

short : (id : Id) (n : ℕ) → id.high ≡ 0 → n ≡ length (trimmed (eight_of id.low)) → n ≡ length (id_bytes id)
short id n e q = q ∙ sym (short_length id e)

long : (id : Id) (n : ℕ) → Fits w64 id.high → (id.high ≡ 0 → ⊥) → n ≡ length (trimmed (eight_of id.high))
    → word_bytes + n ≡ length (id_bytes id)
long id n f e q = rw q (sym (long_length id f e))

room : (w n : ℕ) → n ≡ length (trimmed (eight_of w)) → Fits w64 (word_bytes + n)
room w n q = omega (arith, length-trimmed (eight_of w), length-eight w)

pub returns-then-id-eq0 : goal.returns-then-id-eq0
returns-then-id-eq0 c = search short

pub overflow_add-result : goal.overflow_add-result
overflow_add-result c = search room

pub returns : goal.returns
returns c = search long

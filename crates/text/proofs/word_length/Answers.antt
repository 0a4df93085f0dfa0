-- `text::word_length` meets its contract.
use mathlib.Core.Path.{◌≡◌}
use Prim.Native.Nat.{ℕ, ◌-◌, ◌/◌}
use mir.Syntax.{w64}
use mir.Val.{Fits}
use native.Mathlib.Omega.{arith}
use lib.Count.{count_leading_zeros}
use lib.ListN.{length}
use Rattle.std.proofs.lemmas.Nat.{leading_length}
use Rattle.text.specs.Ids.{word_bytes, trimmed, eight_of}
use Rattle.text.proofs.Words.{length-trimmed-bytes}
use Rattle.text.proofs.word_length.Goals as goal

bytes : (w : ℕ) → Fits w64 w → word_bytes - count_leading_zeros 64 w / 8 ≡ length (trimmed (eight_of w))
unfolding eight_of
bytes w f =
    let b = leading_length 64 w (omega arith) in
    omega (arith, length-trimmed-bytes word_bytes b.0 w (omega arith) b.2 b.3, b.1)

pub returns : goal.returns
returns c = search bytes

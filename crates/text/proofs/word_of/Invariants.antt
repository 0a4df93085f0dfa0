-- `text::word_of` meets its contract. The invariant: the bytes behind those that are left are in the number.
use mathlib.Core.Path.{◌≡◌}
use mathlib.Core.List.{List, ◌++◌}
use Prim.Native.Nat.{ℕ, ◌^◌, ◌<◌}
use lib.ListN.{length}
use Rattle.text.specs.Ids.{word_of, bytes_of}
use Rattle.text.proofs.word_of.Given as goal

pub record Joined (s rest : List ℕ) (word : ℕ) : Type 0 where
  pub back : List ℕ
  pub parts : s ≡ rest ++ back
  pub small : word < 256 ^ length back
  pub number : word ≡ word_of back
  pub bytes : bytes_of (length back) word ≡ back

abbrev pub invariant-loop-b : goal.invariant-loop-b
invariant-loop-b l = Joined l.s l.b-iterator.iter.rest.now l.word

-- `writing::write_number` meets its contract: a digit alone, or the last one behind those of the number's tenth.
use Rattle.std.proofs.Common.{◌≡◌, ◌+◌, ◌/◌, ◌%◌, ◌≤◌, ◌<◌, ℕ, List, [], ◌∷◌, length, set, length-set, sym, ◌∙◌, arith}
use Rattle.semantics.specs.Text.{decimal}
use Rattle.semantics.specs.Buffers.{written}
use Rattle.semantics.proofs.Decimals.{decimal_one, decimal_more, length_one, length_more}
use Rattle.writing.proofs.Writes.{written_nil, written_then, store_first}
use Rattle.writing.proofs.+write_number.Goals as goal

-- a byte stored is a byte written
store_one : (s : List ℕ) (at d : ℕ) → at < length s → set s at d ≡ written s at (d ∷ [])
store_one s at d l = sym (written_nil (set s at d) (at + 1)) ∙ store_first s [] at d l

alone : (s : List ℕ) (at n : ℕ) → n < 10 → at + length (decimal n) ≤ length s → set s at (48 + n) ≡ written s at (decimal n)
alone s at n h room = rw (decimal_one n h) (store_one s at (48 + n) (omega (arith, length_one n h)))

last : (s t : List ℕ) (at n place : ℕ) → 10 ≤ n → at + length (decimal n) ≤ length s → place < length t
    → place ≡ at + length (decimal (n / 10)) → t ≡ written s at (decimal (n / 10)) → set t place (48 + n % 10) ≡ written s at (decimal n)
last s t at n place h room l p w =
    rw (store_one t place (48 + n % 10) l, w, p, decimal_more n h)
    (written_then s (decimal (n / 10)) ((48 + n % 10) ∷ []) at (omega (arith, length_more n h)))

-- a number of two digits: its tenth alone, and the last one behind it
two : (s : List ℕ) (at n : ℕ) → 10 ≤ n → n < 100 → at + length (decimal n) ≤ length s
    → set (set s at (48 + n / 10)) (at + 1) (48 + n % 10) ≡ written s at (decimal n)
two s at n h m room =
    let one : n / 10 < 10 = omega arith in
    let tenth = length_one (n / 10) one in
    let more = length_more n h in
    last s (set s at (48 + n / 10)) at n (at + 1) h room (simp length-set (omega arith)) (omega arith)
    (alone s at (n / 10) one (omega arith))

pub bounds-out-at-then-n-lt100-2 : goal.bounds-out-at-then-n-lt100-2
bounds-out-at-then-n-lt100-2 t c = simp length-set (omega (arith, length_more c.args.n c.if-n-lt10.false, length_one (c.args.n / 10) (omega arith)))

pub returns-then-n-lt100-clause-written : goal.returns-then-n-lt100-clause-written
returns-then-n-lt100-clause-written t c = two c.args.out.now c.args.at c.args.n (omega arith) (omega arith) c.requires

pub returns-then-n-lt10-clause-written : goal.returns-then-n-lt10-clause-written
returns-then-n-lt10-clause-written t c = search alone

pub returns-clause-written : goal.returns-clause-written
returns-clause-written t c =
    let l : c.write_number-last.result < length c.write_number-last.new.out = omega (arith, length_more c.args.n c.if-n-lt10.false) in
    search last

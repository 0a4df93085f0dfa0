-- `stored::all_classes` meets its contract: 2 ^ k is at most 256, so nothing is lost by the shift or by the cast.
use Rattle.std.proofs.Common.{◌≡◌, ℕ, ◌*◌, ◌%◌, ◌^◌, ◌<◌, ◌≤◌, one-mul, mod-eq_of_lt, arith, pow_pos}
use native.Mathlib.Nat.{pow-le-pow_right}
use Rattle.semantics.specs.Limits.{max_classes}
use Rattle.stored.proofs.all_classes.Goals as goal

-- 2 ^ k by a shift in 16 bits
shifted : (k : ℕ) → k ≤ max_classes → (1 * 2 ^ k % 65536 ≡ 2 ^ k) × (2 ^ k ≤ 256)
shifted k h =
    let few : 2 ^ k ≤ 2 ^ max_classes = pow-le-pow_right {n = 2} (omega arith) h in
    let fits : 2 ^ k < 65536 = omega arith in
    (rw (one-mul (2 ^ k), mod-eq_of_lt fits), few)

pub overflow_sub-result : goal.overflow_sub-result
overflow_sub-result c = rw (shifted c.args.k c.requires).0 (pow_pos c.args.k)

pub overflow_cast-result-2 : goal.overflow_cast-result-2
overflow_cast-result-2 c = let s = shifted c.args.k c.requires in rw s.0 (omega arith)

pub returns : goal.returns
returns c = rw (shifted c.args.k c.requires).0

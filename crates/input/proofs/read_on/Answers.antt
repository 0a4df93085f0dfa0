-- `input::read_on` meets its contract: the bytes before byte 10, those of them that there is room for, and the place behind what was read.
use Rattle.std.proofs.Common.{◌≡◌, ◌-◌, ◌≤◌, ℕ, Bool, true, false, cond, eqb, ltb, List, [], ◌∷◌, length, take, drop, refl, ap, arith, length-drop}
use Rattle.std.proofs.lemmas.Bool.Decides.{nat_tests}
use Rattle.input.specs.Cutting.{kept_bytes, until_end, has_end, line_end}
use Rattle.input.proofs.Cutting.{until_le}
use Rattle.input.proofs.Ended.{take_fewer}
use Rattle.input.proofs.read_on.Goals as goal

-- the bytes before byte 10 are those up to its place
until_front : (bs : List ℕ) → take (length (until_end bs)) bs ≡ until_end bs
until_front [] = refl
until_front (b ∷ bs) = go (eqb b 10) (until_front bs)
  where
    go : (t : Bool) → take (length (until_end bs)) bs ≡ until_end bs → take (length (cond t [] (b ∷ until_end bs))) (b ∷ bs) ≡ cond t [] (b ∷ until_end bs)
    go true h = refl
    go false h = ap (λ l. b ∷ l) h

-- byte 10 ends the line where its place is before the end of the piece
ends : (piece : List ℕ) (from stop : ℕ) → from ≤ length piece → stop ≡ line_end piece from → ltb stop (length piece) ≡ has_end (drop from piece)
ends piece from stop h e =
    let n = length-drop from piece in
    grind (arith, nat_tests)

pub slice_bounds-line-end : goal.slice_bounds-line-end
slice_bounds-line-end c = omega (arith, until_le (drop c.args.from c.args.piece.now), length-drop c.args.from c.args.piece.now)

pub returns : goal.returns
returns c =
    let p = c.args.p in
    let from = c.args.from in
    let rest = drop from c.args.piece.now in
    let before : c.line_end-stop.result - from ≡ length (until_end rest) = omega arith in
    let line : take (c.line_end-stop.result - from) rest ≡ until_end rest = rw before (until_front rest) in
    let kept : take c.min-kept.result (until_end rest) ≡ take (kept_bytes - p.length) (until_end rest) =
    take_fewer _ _ (until_end rest) (rw line at c.min-kept.ensures) in
    rw (c.write_bytes-length.ensures.written, c.write_bytes-length.ensures.next, line, kept, c.then_some-next.ensures, ends c.args.piece.now from _ c.requires.from_in_bounds c.line_end-stop.ensures, c.line_end-stop.ensures)

-- `generate::send` meets its contract: what was printed is the front of the buffer.
use Rattle.std.proofs.Common.{◌≡◌, sym, ap, ◌∙◌, ◌≤◌, ℕ, List, length, take, length-take-le, rules, arith}
use Rattle.semantics.specs.Buffers.{written}
use Rattle.semantics.specs.Drawing.{drawn_output}
use Rattle.writing.proofs.Parts.{front_fits, front_told}
use Rattle.generate.proofs.send.Goals as goal

module _ (lent text last : List ℕ) (n : ℕ) (long : length last ≡ length lent) (e : n ≡ length text) (w : last ≡ written lent 0 text) where
  fits : n ≤ length last
  fits = omega (arith, front_fits lent text (sym (ap length w) ∙ long))

  whole : n ≡ length (take n last)
  whole = sym (length-take-le n last fits)

pub slice_bounds-out-end : goal.slice_bounds-out-end
slice_bounds-out-end g c =
    fits _ _ c.print-n.new.out c.print-n.result (search rules) c.print-n.ensures.wrote c.print-n.ensures.buffer

pub slice_bounds-put-end : goal.slice_bounds-put-end
slice_bounds-put-end g c =
    whole _ _ c.print-n.new.out c.print-n.result (search rules) c.print-n.ensures.wrote c.print-n.ensures.buffer

pub returns : goal.returns
returns g c =
    let text = drawn_output c.args.start c.args.plots in
    rw (front_told _ text c.print-n.new.out c.print-n.result c.print-n.ensures.wrote c.print-n.ensures.buffer) at c.put.ensures

-- `input::is_open` meets its contract: none of the bytes is byte 10 if they don't contain it.
use Rattle.std.proofs.Common.{◌≡◌, ◌∙◌, ℕ, Bool, true, false, not, ◌&&◌, ◌||◌, eqb, List, [], ◌∷◌, refl, ap, le-leb}
use Rattle.std.specs.List.{list_any}
use Rattle.input.specs.Cutting.{so_far, no_end}
use Rattle.input.proofs.is_open.Goals as goal

none : (bytes : List ℕ) → not (list_any (λ b. eqb b 10) bytes) ≡ no_end bytes
none [] = refl
none (b ∷ bytes) = go (eqb b 10) (none bytes)
  where
    go : (t : Bool) → not (list_any (λ b. eqb b 10) bytes) ≡ no_end bytes
        → not (t || list_any (λ b. eqb b 10) bytes) ≡ (not t && no_end bytes)
    go true h = refl
    go false h = h

pub returns-then-p-le-KEPT_BYTES : goal.returns-then-p-le-KEPT_BYTES
returns-then-p-le-KEPT_BYTES c =
    rw (le-leb _ _ c.if-p-le-KEPT_BYTES.true) (ap not c.contains.ensures.value ∙ none (so_far c.args.p))

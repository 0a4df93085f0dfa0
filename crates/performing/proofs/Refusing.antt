-- What `?` hands on is the refusal that it met; and where `ok_or` named it, nothing was there.
use Rattle.std.specs.Prelude.{Option, Some, None, Result, Ok, Err, IsErrAnd, ok_or}
use mathlib.Core.Path.{◌≡◌, refl, sym, ap, ◌∙◌}
use Rattle.refusals.specs.declared.Refusal.{Refusal}

pub handed_on : {T : Type 0} (q : Refusal) (a : Result T Refusal) → IsErrAnd a (λ e. e ≡ q) → a ≡ Err q
handed_on q (Ok x) h = absurd h
handed_on q (Err e) h = ap Err h

module _ {T : Type 0} (asked : Option T) (q : Refusal) (r : Result T Refusal) (k : r ≡ ok_or asked q) where
  pub missed : {U : Type 0} (e : Refusal) → r ≡ Err e → (a : Result U Refusal) → IsErrAnd a (λ d. d ≡ e) → (asked ≡ None) × (a ≡ Err q)
  missed {U = U} e h a d = go asked (sym k ∙ h)
    where
      go : (o : Option T) → ok_or o q ≡ Err e → (o ≡ None) × (a ≡ Err q)
      go None p = let same : q ≡ e = cc in (refl, handed_on e a d ∙ ap Err (sym same))
      go (Some x) p = cc

  pub got : (x : T) → r ≡ Ok x → asked ≡ Some x
  got x h = go asked (sym k ∙ h)
    where
      go : (o : Option T) → ok_or o q ≡ Ok x → o ≡ Some x
      go None p = cc
      go (Some y) p = cc

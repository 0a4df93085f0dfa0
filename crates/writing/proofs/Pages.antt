-- Texts written on a page one behind the other are one, and it stands in the buffer that the page was made of.
use mathlib.Core.Path.{◌≡◌, refl, ◌∙◌}
use mathlib.Core.List.{List, ◌++◌}
use Prim.Native.Nat.{ℕ}
use native.Mathlib.Omega.{arith}
use denote.Ref.{MutBor}
use lib.ListN.{length-append}
use Rattle.semantics.specs.Buffers.{written}
use Rattle.writing.specs.declared.Page.{Page}
use Rattle.writing.specs.Pages.{IsPageOf, Wrote}
use Rattle.writing.proofs.Writes.{written_then}

-- two texts
pub wrote_then : (p q r : Page) (a b : List ℕ) → Wrote p a q → Wrote q b r → Wrote p (a ++ b) r
wrote_then p q r a b v w =
    record {
      same_reference = w.same_reference ∙ v.same_reference;
      same_size = w.same_size ∙ v.same_size;
      within = w.within;
      next = rw length-append (omega (arith, v.next, w.next));
      written =
          rw (w.written, v.written, v.next)
          (written_then p.out.now a b p.at (omega (arith, v.next, w.next, w.within, w.same_size, v.same_size)));
    }

-- so a text is written by its pieces: two of them, three, four
pub wrote_two : (p q r : Page) (text a b : List ℕ) → Wrote p a q → Wrote q b r → text ≡ a ++ b → Wrote p text r
wrote_two p q r text a b v w e = rw e (wrote_then p q r a b v w)

pub wrote_three : (p q r s : Page) (text a b c : List ℕ) → Wrote p a q → Wrote q b r → Wrote r c s → text ≡ a ++ b ++ c → Wrote p text s
wrote_three p q r s text a b c v w x e = wrote_two p r s text (a ++ b) c (wrote_then p q r a b v w) x e

pub wrote_four : (p q r s t : Page) (text a b c d : List ℕ) → Wrote p a q → Wrote q b r → Wrote r c s → Wrote s d t
    → text ≡ a ++ b ++ c ++ d → Wrote p text t
wrote_four p q r s t text a b c d v w x y e =
    wrote_three p r s t text (a ++ b) c d (wrote_then p q r a b v w) x y e

-- what was written on a page stands in the buffer that it was made of
pub told : (out : MutBor (List ℕ)) (at : ℕ) (p q : Page) (text last : List ℕ) → IsPageOf out at p → Wrote p text q → last ≡ q.out.now
    → last ≡ written out.now at text
told out at p q text last o w e = rw (e, w.written, o.place, o.same_bytes) refl

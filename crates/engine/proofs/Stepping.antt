-- One line for any state handed in: 10, then 9, then the rest.
use Rattle.std.proofs.Common.{Option, Some, None, is_some, IfSome, Result, ◌≡◌, refl, sym, ap, ◌∙◌, Bool, true, false, not, List, ℕ, ◌<◌}
use Rattle.std.proofs.Common.{◌≤◌, length, lt-ltb, le-ltb}
use Rattle.refusals.specs.declared.Refusal.{Refusal}
use borrow.Author.Tests.{not-false}
use Rattle.semantics.specs.Limits.{min_room}
use Rattle.semantics.specs.Engine.{is_short, taken, holds, buffer_after}
use Rattle.network.specs.declared.State.{State}
use Rattle.network.specs.declared.sound.Sound.{Sound}
use Rattle.network.specs.View.{view_state}
use Rattle.network.specs.Sound.{whole}
use Rattle.refusals.specs.declared.Refusal.TheVariants.{BrokenState, ShortBuffer}
use Rattle.taking.specs.Lines.{struct_taken, LineTaken}
use Rattle.engine.specs.declared.Stepped.{Stepped}
use Rattle.engine.specs.Calls.{untaken_by, Stepping}

pub valid_holds : (s : State) (valid : Bool) → valid ≡ holds (view_state s) → not valid ≡ false → holds (view_state s) ≡ true
valid_holds s valid e h = sym e ∙ not-false valid h

-- a state that was handed in: tested, and known to keep the rules
module _ (s : State) (tested : Option Sound) (kept : is_some tested ≡ holds (view_state s)) where
  pub refused-state : tested ≡ None → holds (view_state s) ≡ false
  refused-state e = sym kept ∙ ap is_some e

  pub kept-state : (k : Sound) → tested ≡ Some k → holds (view_state s) ≡ true
  kept-state k e = sym kept ∙ ap is_some e

  pub same-state : (k : Sound) → tested ≡ Some k → IfSome tested (λ u. whole u ≡ s) → whole k ≡ s
  same-state k e p = rw e at p

-- 10, then 9, then the rest
module _ (s : State) (line out : List ℕ) where
  pub short_refused : (r : Stepped) → length out < min_room → r ≡ untaken_by s ShortBuffer → Stepping s line out r out
  short_refused r h p =
      let short : is_short (length out) ≡ true = lt-ltb _ _ h in
      rw p (record { struct = rw short refl; seen = rw short refl; answered = rw short refl; buffer = rw short refl })

  pub broken-refused : (r : Stepped) → min_room ≤ length out → (tested : Option Sound) → is_some tested ≡ holds (view_state s)
      → tested ≡ None → r ≡ untaken_by s BrokenState → Stepping s line out r out
  broken-refused r h tested e f p =
      let short : is_short (length out) ≡ false = le-ltb _ _ h in
      let broken = refused-state s tested e f in
      rw p
      (record {
        struct = rw (short, broken) refl;
        seen = rw (short, broken) refl;
        answered = rw (short, broken) refl;
        buffer = rw (short, broken) refl;
      })

  pub stepped : (t : State) (answer : Result ℕ Refusal) (last : List ℕ) → min_room ≤ length out → holds (view_state s) ≡ true
      → LineTaken (struct_taken s line) (taken (view_state s) line) t answer → last ≡ buffer_after out (taken (view_state s) line).said
      → Stepping s line out (record { state = t; answer = answer }) last
  stepped t answer last h sound g q =
      let short : is_short (length out) ≡ false = le-ltb _ _ h in
      record {
        struct = rw (short, sound) g.struct;
        seen = rw (short, sound) g.seen;
        answered = rw (short, sound) g.answered;
        buffer = rw (short, sound) q;
      }

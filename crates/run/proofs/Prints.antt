-- What a run still prints: an unused run, and what counts of the line that is coming in.
use mathlib.Core.Path.{◌≡◌, refl, sym, ap, ◌∙◌}
use mathlib.Core.Bool.{Bool, true}
use mathlib.Core.List.{List, [], ◌∷◌, ◌++◌, map}
use Prim.Native.Nat.{ℕ, ◌≤◌}
use native.Mathlib.Omega.{arith}
use lib.ListN.{take}
use lib.Seq.{take-take}
use lib.Dec.{leb}
use borrow.Author.Tests.{le-leb, leb-true}
use Rattle.semantics.specs.Limits.{min_room}
use Rattle.semantics.specs.Engine as model
use Rattle.semantics.specs.Engine.{step, holds}
use Rattle.semantics.specs.Program.{lines, passed, run_to}
use Rattle.semantics.proofs.Lists.{and_left, and_right, and_both}
use Rattle.semantics.proofs.Kept.{start-holds}
use Rattle.network.specs.declared.State.{State}
use Rattle.network.specs.declared.sound.Sound.{Sound}
use Rattle.network.specs.View.{view_state}
use Rattle.network.specs.Sound.{whole}
use Rattle.network.proofs.Standing.{sound_holds}
use Rattle.network.specs.Unused.{ZeroRun}
use Rattle.input.specs.declared.Pending.{Pending}
use Rattle.input.specs.Cutting.{kept_bytes, so_far, no_line, no_end, is_open}
use Rattle.input.proofs.Lines.{handed-front}
use Rattle.input.proofs.Cutting.{so_far_none, none-fits}
use Rattle.run.specs.declared.Run.{Run}
use Rattle.run.specs.Runs.{run_of, is_sound, Starting}

-- what a sound run keeps to, each by itself
module _ (r : Run) (h : is_sound r ≡ true) where
  pub sound-rules : holds (view_state r.state) ≡ true
  sound-rules = and_left (holds (view_state r.state)) (is_open r.pending) h

  pub open_line : is_open r.pending ≡ true
  open_line = and_right (holds (view_state r.state)) (is_open r.pending) h

  abbrev few : Bool
  few = leb r.pending.length kept_bytes

  pub sound-fits : r.pending.length ≤ kept_bytes
  sound-fits = leb-true r.pending.length kept_bytes (and_left few (no_end (so_far r.pending)) open_line)

  pub sound_no_end : no_end (so_far r.pending) ≡ true
  sound_no_end = and_right few (no_end (so_far r.pending)) open_line

-- a line that is coming in
pub is_open_lem : (p : Pending) → p.length ≤ kept_bytes → no_end (so_far p) ≡ true → is_open p ≡ true
is_open_lem p f e = rw (le-leb _ _ f, e)

pub none_open : is_open no_line ≡ true
none_open = is_open_lem no_line none-fits (rw so_far_none refl)

-- a sound state and an open line make a sound run
pub sound-run : (s : Sound) (p : Pending) → is_open p ≡ true → is_sound (run_of (whole s) p) ≡ true
sound-run s p h = and_both (holds (view_state (whole s))) (is_open p) (sound_holds s) h

-- an unused run
pub starting : (s : State) (p : Pending) → ZeroRun s → p ≡ no_line → Starting (record { state = s; pending = p })
starting s p u e =
    rw e
    record {
      struct = ap (λ (t : State). record { state = t; pending = no_line }) u.whole;
      sound = and_both (holds (view_state s)) (is_open no_line) (ap holds u.seen ∙ start-holds) none_open;
      whole = λ at_end input. ap (λ (t : model.State). run_to at_end t (lines (so_far no_line ++ input))) u.seen ∙ rw so_far_none;
    }

-- whatever is printed at the end
module _ (at_end : model.State → List ℕ) where
  -- the front of a line that the engine gets is all that counts of the line
  pub run_to-passed : (s : model.State) (ls : List (List ℕ)) → run_to at_end s ls ≡ run_to at_end s (map passed ls)
  run_to-passed s [] = refl
  run_to-passed s (l ∷ ls) = rw (take-take kept_bytes kept_bytes l (omega arith), run_to-passed (step s (passed l) min_room).state ls)

  -- so of bytes without byte 10 only those that are kept count
  pub run_to_kept : (s : model.State) (x more : List ℕ) → no_end x ≡ true
      → run_to at_end s (lines (take kept_bytes x ++ more)) ≡ run_to at_end s (lines (x ++ more))
  run_to_kept s x more h =
      run_to-passed s (lines (take kept_bytes x ++ more)) ∙ ap (run_to at_end s) (handed-front x h more)
      ∙ sym (run_to-passed s (lines (x ++ more)))

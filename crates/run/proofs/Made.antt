-- What lines make of a state, known by what they print and what would be printed at the end: whatever is told of it there.
use mathlib.Core.Path.{◌≡◌, refl, sym, ap, ◌∙◌}
use mathlib.Core.Bool.{true}
use mathlib.Core.List.{List, [], ◌∷◌, ◌++◌, append_assoc, append_cancel_left}
use Prim.Native.Nat.{ℕ}
use Rattle.semantics.specs.Limits.{min_room}
use Rattle.semantics.specs.NetworkText.{network_text}
use Rattle.semantics.specs.Notes.{Tally}
use Rattle.semantics.specs.Engine.{State, step, holds, saved}
use Rattle.semantics.specs.Program.{lines, passed, printed, run_to, after_lines}
use Rattle.semantics.proofs.Kept.{step-holds}
use Rattle.network.specs.View.{view_state}
use Rattle.input.specs.Cutting.{so_far}
use Rattle.run.specs.declared.Run.{Run}
use Rattle.run.specs.Runs.{is_sound, makes}
use Rattle.run.proofs.Prints.{sound-rules}

-- nothing is printed at the end
abbrev silent : State → List ℕ
silent s = []

-- what is printed at the end comes behind what the lines print, and tells of the state that they make
run_split : (at_end : State → List ℕ) (s : State) (ls : List (List ℕ)) → run_to at_end s ls ≡ run_to silent s ls ++ at_end (after_lines s ls)
run_split at_end s [] = refl
run_split at_end s (l ∷ ls) =
    let t = step s (passed l) min_room in
    ap (λ (x : List ℕ). printed t.said ++ x) (run_split at_end t.state ls)
    ∙ sym (append_assoc (printed t.said) (run_to silent t.state ls) (at_end (after_lines t.state ls)))

-- lines keep the rules
made_holds : (s : State) (ls : List (List ℕ)) → holds s ≡ true → holds (after_lines s ls) ≡ true
made_holds s [] h = h
made_holds s (l ∷ ls) h = made_holds (step s (passed l) min_room).state ls (step-holds s (passed l) min_room h)

-- two states of which the same is told, whatever is told
abbrev pub ToldSame : State → State → Type 0
ToldSame s t = (tells : State → List ℕ) → tells s ≡ tells t

-- lines that print a text first, and from then on what others print, make a state of which the same is told as of what the others make
pub made-same : (s t : State) (ls ms : List (List ℕ)) (text : List ℕ)
    → ((at_end : State → List ℕ) → run_to at_end s ls ≡ text ++ run_to at_end t ms)
    → ToldSame (after_lines s ls) (after_lines t ms)
made-same s t ls ms text h tells =
    let a = tells (after_lines s ls) in
    let b = tells (after_lines t ms) in
    append_cancel_left (run_to silent s ls) a b
    (sym (run_split tells s ls) ∙ h tells ∙ ap (λ (x : List ℕ). text ++ x) (run_split tells t ms)
    ∙ sym (append_assoc text (run_to silent t ms) b) ∙ ap (λ (x : List ℕ). x ++ b) (sym (h silent)))

-- the numbers of the tallies in a row
abbrev numbers : List Tally → List ℕ
numbers [] = []
numbers (t ∷ ts) = t.accepted ∷ t.refusals ∷ numbers ts

numbers_tell : (ts us : List Tally) → numbers ts ≡ numbers us → ts ≡ us
numbers_tell [] [] e = refl
numbers_tell [] (u ∷ us) e = cc
numbers_tell (t ∷ ts) [] e = cc
numbers_tell (t ∷ ts) (u ∷ us) e =
    let accepted : t.accepted ≡ u.accepted = cc in
    let refusals : t.refusals ≡ u.refusals = cc in
    let others : numbers ts ≡ numbers us = cc in
    rw (accepted, refusals, numbers_tell ts us others) refl

-- such states have the same tallies
pub same-tallies : (s t : State) → ToldSame s t → s.notes.tallies ≡ t.notes.tallies
same-tallies s t h = numbers_tell s.notes.tallies t.notes.tallies (h (λ (u : State). numbers u.notes.tallies))

-- and one text, so one answer where that is asked for
pub same_text : (s t : State) → ToldSame s t → network_text s.network ≡ network_text t.network
same_text s t h = h (λ (u : State). network_text u.network)

pub same-saved : (s t : State) (size : ℕ) → ToldSame s t → holds s ≡ true → holds t ≡ true → saved s size ≡ saved t size
same-saved s t size h a b = rw (a, b, same_text s t h) refl

-- what a sound run makes of the rest of its input keeps the rules
pub made-rules : (r : Run) → is_sound r ≡ true → holds (makes r []) ≡ true
made-rules r sound = made_holds (view_state r.state) (lines (so_far r.pending ++ [])) (sound-rules r sound)

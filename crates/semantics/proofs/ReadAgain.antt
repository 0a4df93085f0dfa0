-- The lines of a network's text, taken one after the other from an unused run: all are accepted and make the network again. So the text
-- tells the network, and the program that reads its own output prints it again (02: U1).
use Rattle.std.proofs.Common.{◌≡◌, refl, sym, ap, ◌∙◌, true, false, List, [], ◌∷◌, map, ℕ, suc, ◌+◌, ◌≤◌, ◌<◌, arith, length}
use Rattle.std.proofs.Common.{append-nil, length-append, leb, ltb, le-ltb, leb-true}
use lib.ListN.{length-map}
use borrow.Author.Tests.{lt-leb}
use Rattle.semantics.specs.Basics.{every}
use Rattle.semantics.specs.Limits.{min_room, max_lines}
use Rattle.semantics.specs.Network.{Network, empty}
use Rattle.semantics.specs.Rules.{network_holds}
use Rattle.semantics.specs.NetworkText.{network_lines, lines_text, network_text}
use Rattle.semantics.specs.Answers.{tally_text}
use Rattle.semantics.specs.Notes.{Notes, unused, only_accepted, all_lines}
use Rattle.semantics.specs.Engine.{State, start, answer, lines_taken, step, Call, after, holds, end_text}
use Rattle.semantics.specs.Program.{lines, passed, run_to, output, after_lines, saved_output}
use Rattle.semantics.proofs.Lists.{and_left, and_right}
use Rattle.semantics.proofs.Kept.{start-holds, after_holds, network_kept}
use Rattle.semantics.proofs.Tallies.{length-tallied_for, all_lines-tallied_for, accept_more, accept-unused}
use Rattle.semantics.proofs.Restored.{beside, Quietly, Accepts, none_left, one_more, restored}
use Rattle.semantics.proofs.Saved.{text-fits, text_cut, text-passed}

-- an accepted line that answers nothing, with room and lines left: one more is accepted
pub accepted-step : (s : State) (l : List ℕ) (room : ℕ) (m : Network) → min_room ≤ room → lines_taken s < max_lines → Quietly s.network l m
    → step s l room ≡ record { state = beside (accept_more 1 s.notes) m; said = answer [] }
accepted-step s l room m wide few e =
    let long : ltb room min_room ≡ false = le-ltb room min_room wide in
    let more : leb max_lines (lines_taken s) ≡ false = lt-leb max_lines (lines_taken s) few in
    rw (long, more, e s.notes) refl

-- lines come from a scanner that has a tally, and so many more may be taken
pub record Room (j : ℕ) (k : Notes) : Type 0 where
  pub scanner : k.scanner < length k.tallies
  pub lines : all_lines k.tallies + j ≤ max_lines

pub one-less : (j : ℕ) (k : Notes) → Room (suc j) k → Room j (accept_more 1 k)
one-less j k r =
    let more = all_lines-tallied_for k.scanner true k.tallies r.scanner in
    record { scanner = rw (length-tallied_for k.scanner true k.tallies) r.scanner; lines = omega (arith, r.lines) }

pub room-unused : (j : ℕ) → j ≤ max_lines → Room j unused
room-unused j h = record { scanner = omega arith; lines = omega arith }

-- the state that lines make that are all accepted
accepts_after : {n m : Network} (cs : List Call) → Accepts n (map (λ (c : Call). c.line) cs) m → (k : Notes) → Room (length cs) k
    → every (λ c. leb min_room c.room) cs ≡ true
    → after (beside k n) cs ≡ beside (accept_more (length cs) k) m
accepts_after [] none_left k r wide = refl
accepts_after {n} (c ∷ cs) (one_more {m = m} p q) k r wide =
    let room : min_room ≤ c.room = leb-true _ _ (and_left (leb min_room c.room) (every (λ d. leb min_room d.room) cs) wide) in
    let one = accepted-step (beside k n) c.line c.room m room (omega (arith, r.lines)) p in
    let others = and_right (leb min_room c.room) (every (λ d. leb min_room d.room) cs) wide in
    rw one (accepts_after cs q (accept_more 1 k) (one-less (length cs) k r) others)

-- there are no more lines than bytes
lines-few : (ls : List (List ℕ)) → length ls ≤ length (lines_text ls)
lines-few [] = omega arith
lines-few (l ∷ ls) = let more = lines-few ls in rw (length-append l (10 ∷ lines_text ls)) (omega arith)

pub few-lines : (n : Network) → network_holds n ≡ true → length (network_lines n) < max_lines
few-lines n h = omega (arith, lines-few (network_lines n), text-fits n h)

-- The lines of the text, with any buffers that are long enough, make the network from an unused run; all are accepted.
pub made_again : (n : Network) → network_holds n ≡ true → (cs : List Call) → map (λ (c : Call). c.line) cs ≡ network_lines n
    → every (λ c. leb min_room c.room) cs ≡ true
    → after start cs ≡ beside (only_accepted (length cs)) n
made_again n h cs e wide =
    let long : length cs ≡ length (network_lines n) = rw (← e, length-map) refl in
    let few : length cs ≤ max_lines = omega (arith, few-lines n h) in
    let all : Accepts empty (map (λ (c : Call). c.line) cs) n = rw e (restored n h) in
    accepts_after cs all unused (room-unused (length cs) few) wide ∙ ap (λ k. beside k n) (accept-unused (length cs))

-- Lines that are all accepted, and answer nothing, print what is printed at the end alone.
accepts_print : {n m : Network} (ls : List (List ℕ)) → Accepts n (map passed ls) m → (k : Notes) → Room (length ls) k
    → (at_end : State → List ℕ)
    → run_to at_end (beside k n) ls ≡ at_end (beside (accept_more (length ls) k) m)
accepts_print [] none_left k r at_end = refl
accepts_print {n} (l ∷ ls) (one_more {m = m} p q) k r at_end =
    let one = accepted-step (beside k n) (passed l) min_room m (omega arith) (omega (arith, r.lines)) p in
    rw one (accepts_print ls q (accept_more 1 k) (one-less (length ls) k r) at_end)

-- So `plotbook` prints for the text of a network the first scanner's line alone: all its lines, and none refused.
pub text-printed : (n : Network) → network_holds n ≡ true
    → output (network_text n) ≡ tally_text 0 (record { accepted = length (network_lines n); refusals = 0 })
text-printed n h =
    let ls = lines (network_text n) in
    let long : length ls ≡ length (network_lines n) = ap length (text_cut n h) in
    let few : length ls ≤ max_lines = omega (arith, few-lines n h, long) in
    let all : Accepts empty (map passed ls) n = rw (text-passed n h) (restored n h) in
    accepts_print ls all unused (room-unused (length ls) few) end_text
    ∙ ap (λ k. end_text (beside k n)) (accept-unused (length ls))
    ∙ ap (λ j. end_text (beside (only_accepted j) n)) long
    ∙ append-nil (tally_text 0 (record { accepted = length (network_lines n); refusals = 0 }))

-- The program that reads it makes the network again.
pub read_again : (n : Network) → network_holds n ≡ true → (after_lines start (lines (network_text n))).network ≡ n
read_again n h =
    ap (λ (s : State). s.network)
    (made_again n h (map as_call (lines (network_text n))) (behind (lines (network_text n)) ∙ text-passed n h) (rooms (lines (network_text n))))
  where
    as_call : List ℕ → Call
    as_call l = record { line = passed l; room = min_room }

    behind : (ls : List (List ℕ)) → map (λ (c : Call). c.line) (map as_call ls) ≡ map passed ls
    behind [] = refl
    behind (l ∷ ls) = ap (λ rs. passed l ∷ rs) (behind ls)

    rooms : (ls : List (List ℕ)) → every (λ c. leb min_room c.room) (map as_call ls) ≡ true
    rooms [] = refl
    rooms (l ∷ ls) = rooms ls

-- `booktext` on its own output prints the same text again, whatever its first input was.
pub saved_again : (input : List ℕ) → saved_output (saved_output input) ≡ saved_output input
saved_again input =
    let s = after_lines start (lines input) in
    let kept : holds s ≡ true =
    after_holds start (map (λ (l : List ℕ). record { line = passed l; room = min_room }) (lines input)) start-holds in
    ap network_text (read_again s.network (network_kept s kept))

-- Networks with the same text are the same, where both keep the rules.
pub same_text : (n m : Network) → network_holds n ≡ true → network_holds m ≡ true → network_text n ≡ network_text m → n ≡ m
same_text n m h k e =
    sym (read_again n h) ∙ ap (λ (text : List ℕ). (after_lines start (lines text)).network) e ∙ read_again m k

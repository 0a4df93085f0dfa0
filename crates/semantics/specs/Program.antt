-- What the programs `plotbook` and `booktext` print for their whole input (document 01: "Lines", "What the combine prints"; 02: U1).
use Rattle.std.specs.Prelude.{cond, List, [], ◌∷◌, ◌++◌, map, ℕ, suc, take, eqb}
use Rattle.semantics.specs.Limits.{max_line_bytes, min_room}
use Rattle.semantics.specs.Text.{prepend}
use Rattle.semantics.specs.Answers.{refusal_text}
use Rattle.semantics.specs.NetworkText.{network_text}
use Rattle.semantics.specs.Engine.{State, start, Answer, refusal, answer, step, after, end_text}

-- the lines of an input: byte 10 ends a line and isn't part of it, and a last line without it counts if it isn't empty
abbrev pub lines : List ℕ → List (List ℕ)
lines [] = []
lines (b ∷ bs) = cond (eqb b 10) ([] ∷ lines bs) (prepend b (lines bs))

-- of a longer line the engine gets one byte more than a line may have
abbrev pub passed : List ℕ → List ℕ
passed line = take (suc max_line_bytes) line

-- what a line prints: its answer, or its refusal
abbrev pub printed : Answer → List ℕ
printed (refusal n) = refusal_text n
printed (answer text) = text

-- what the lines print from a state on, and behind it what is printed at the end, by the state that they leave
abbrev pub run_to : (State → List ℕ) → State → List (List ℕ) → List ℕ
run_to at_end s [] = at_end s
run_to at_end s (l ∷ ls) = let t = step s (passed l) min_room in printed t.said ++ run_to at_end t.state ls

-- that with the tallies at the end
abbrev pub run : State → List (List ℕ) → List ℕ
run = run_to end_text

-- what the whole input prints
abbrev pub output : List ℕ → List ℕ
output input = run start (lines input)

-- the state that the lines make, from a state on
abbrev pub after_lines : State → List (List ℕ) → State
after_lines s ls = after s (map (λ (l : List ℕ). record { line = passed l; room = min_room }) ls)

-- what `booktext` prints for its whole input: the text of the book that its lines make, and nothing else
abbrev pub saved_output : List ℕ → List ℕ
saved_output input = network_text (after_lines start (lines input)).network

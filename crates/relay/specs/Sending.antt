-- What is owed between the reads and the writes. Where a reader tells which bytes it has left, they are those that were read, and none is
-- left; where a writer tells which bytes it holds, they grew by those that the documents say. No contract can say which bytes a call of C's
-- reads or writes, so of standard input and output bytes are counted: as many are sent as the documents say of an input of as many as were
-- read. Counts wrap at 2 ^ 64.
use Rattle.std.specs.Prelude.{◌≡◌, ◌≢◌, ℕ, ◌+◌, ◌%◌, ◌^◌, ◌<◌, ◌≤◌, List, [], ◌++◌, length, Option, Result, IsOk, IfOk, IfErr, MatchResult, ⊤}
use Rattle.std.specs.Io.KnownBytes.{Consumes, IsAtEnd, Appends}
use Rattle.semantics.specs.NetworkText.{network_text}
use Rattle.semantics.specs.Engine as model
use Rattle.semantics.specs.Engine.{start}
use Rattle.semantics.specs.Program.{lines, run_to, output, after_lines, saved_output}
use Rattle.notes.specs.declared.Tallies.{Tallies}
use Rattle.notes.specs.Views.{as_tallies}
use Rattle.run.specs.declared.Run.{Run}
use Rattle.run.specs.declared.sound_run.SoundRun.{SoundRun}
use Rattle.run.specs.Runs.{prints_to, prints, makes}
use Rattle.run.specs.Sound.{whole_run}
use Rattle.relay.specs.declared.Failure.{Failure}
use Rattle.relay.specs.declared.Failure.TheVariants.{Endless}
use Rattle.relay.specs.declared.Relayed.{Relayed}

-- a text is the beginning of another
pub record Begins (text whole : List ℕ) : Type 0 where
  pub rest : List ℕ
  pub both : whole ≡ text ++ rest

-- so many more were counted, in 64 bits
abbrev pub Counted : ℕ → ℕ → ℕ → Type 0
Counted before n after = before < 2 ^ 64 → after ≡ (before + n) % 2 ^ 64

-- `put`: these bytes were sent, or as many as before where the write failed
abbrev pub Putting : ℕ → Option (List ℕ) → List ℕ → Result ⊤ Failure → ℕ → Option (List ℕ) → Type 0
Putting before held bytes result after held_now =
    MatchResult result (λ _. Counted before (length bytes) after × Appends held held_now bytes) (λ failure. (after ≡ before) × (failure ≢ Endless))

-- `take_piece`: a text was sent that is the beginning of what the run prints if these bytes come next. If no write failed, the rest of
-- that is what the run prints from now on, whatever is printed at the end
pub record TakingPiece (r : Run) (piece : List ℕ) (before : ℕ) (held : Option (List ℕ)) (r_after : Run) (result : Result ⊤ Failure) (after : ℕ)
    (held_now : Option (List ℕ)) : Type 0 where
  pub text : List ℕ
  pub sent : Counted before (length text) after
  pub wrote : IsOk result → Appends held held_now text
  pub failed : IfErr result (λ failure. failure ≢ Endless)
  pub begins : (more : List ℕ) → Begins text (prints r (piece ++ more))
  pub goes_on : IsOk result → (at_end : model.State → List ℕ) (more : List ℕ)
      → prints_to at_end r (piece ++ more) ≡ text ++ prints_to at_end r_after more

-- `take_all`: the same from an unused run, for the input that was read. Reads are made until one gives nothing, or there are more of them
-- than can be counted, each of a byte or more
pub record TakingAll (was_read was_sent : ℕ) (left held : Option (List ℕ)) (result : Result SoundRun Failure) (read_now sent_now : ℕ)
    (left_now held_now : Option (List ℕ)) : Type 0 where
  pub input : List ℕ
  pub read : Counted was_read (length input) read_now
  pub consumed : Consumes left left_now input
  pub ended : IsOk result → IsAtEnd left_now
  pub endless : IfErr result (λ failure. failure ≡ Endless → 2 ^ 64 ≤ length input + 1)
  pub text : List ℕ
  pub sent : Counted was_sent (length text) sent_now
  pub wrote : IsOk result → Appends held held_now text
  pub begins : (more : List ℕ) → Begins text (output (input ++ more))
  pub goes_on : IfOk result (λ r. (at_end : model.State → List ℕ) (more : List ℕ)
      → run_to at_end start (lines (input ++ more)) ≡ text ++ prints_to at_end (whole_run r) more)

-- `send_text`: the text of the book that a run makes, and the tallies of all its lines
abbrev pub PuttingText : Run → ℕ → Option (List ℕ) → Result Tallies Failure → ℕ → Option (List ℕ) → Type 0
PuttingText r before held result after held_now =
    let text = network_text (makes r []).network in
    MatchResult result
    (λ tallies. Counted before (length text) after × Appends held held_now text × (as_tallies tallies ≡ (makes r []).notes.tallies))
    (λ failure. (after ≡ before) × (failure ≢ Endless))

-- `relay`, if no read and no write failed: the input has ended, and the whole output was sent
pub record OutputSent (left left_now held held_now : Option (List ℕ)) (a : Relayed ⊤) : Type 0 where
  pub input : List ℕ
  pub read : a.read ≡ length input % 2 ^ 64
  pub consumed : Consumes left left_now input
  pub ended : IsAtEnd left_now
  pub sent : a.sent ≡ length (output input) % 2 ^ 64
  pub wrote : Appends held held_now (output input)

-- else: what was sent is the beginning of what is to be, whatever bytes were still to come. Only of more reads than can be counted, each of
-- a byte or more, it is said that there is no end of them
pub record BeginningSent (left left_now : Option (List ℕ)) (a : Relayed ⊤) (failure : Failure) : Type 0 where
  pub input : List ℕ
  pub read : a.read ≡ length input % 2 ^ 64
  pub consumed : Consumes left left_now input
  pub endless : failure ≡ Endless → 2 ^ 64 ≤ length input + 1
  pub text : List ℕ
  pub sent : a.sent ≡ length text % 2 ^ 64
  pub begins : (more : List ℕ) → Begins text (output (input ++ more))

-- by what the reader had left and the writer held, before and now
abbrev pub Relaying : Option (List ℕ) → Option (List ℕ) → Option (List ℕ) → Option (List ℕ) → Relayed ⊤ → Type 0
Relaying left left_now held held_now a =
    MatchResult a.outcome (λ _. OutputSent left left_now held held_now a) (BeginningSent left left_now a)

-- `relay_text`, if no read and no write failed: the input has ended, the text of the book that it makes was sent, and the tallies are those
-- of its lines
pub record TextSent (left left_now held held_now : Option (List ℕ)) (a : Relayed Tallies) (tallies : Tallies) : Type 0 where
  pub input : List ℕ
  pub read : a.read ≡ length input % 2 ^ 64
  pub consumed : Consumes left left_now input
  pub ended : IsAtEnd left_now
  pub sent : a.sent ≡ length (saved_output input) % 2 ^ 64
  pub wrote : Appends held held_now (saved_output input)
  pub told : as_tallies tallies ≡ (after_lines start (lines input)).notes.tallies

-- else: nothing was sent
pub record TextUnsent (left left_now : Option (List ℕ)) (a : Relayed Tallies) (failure : Failure) : Type 0 where
  pub input : List ℕ
  pub read : a.read ≡ length input % 2 ^ 64
  pub consumed : Consumes left left_now input
  pub endless : failure ≡ Endless → 2 ^ 64 ≤ length input + 1
  pub sent : a.sent ≡ 0

abbrev pub RelayingText : Option (List ℕ) → Option (List ℕ) → Option (List ℕ) → Option (List ℕ) → Relayed Tallies → Type 0
RelayingText left left_now held held_now a =
    MatchResult a.outcome (TextSent left left_now held held_now a) (TextUnsent left left_now a)

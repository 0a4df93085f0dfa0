-- What is demanded of the tallies (02: U5), as statements about calls: which calls move one, and which tally that is.
use Rattle.std.specs.Prelude.{◌≡◌, Bool, true, false, not, ◌&&◌, List, ℕ, ◌+◌, ◌<◌, length, eqb}
use Rattle.semantics.specs.Basics.{those}
use Rattle.semantics.specs.Limits.{max_scanners}
use Rattle.semantics.specs.Notes.{Tally, one_line_more, tally_of}
use Rattle.semantics.specs.Protocol.{is_untaken}
use Rattle.semantics.specs.Engine.{Returned, refused_with, wrote_bytes, lines_taken}
use Rattle.network.specs.declared.State.{State}
use Rattle.network.specs.View.{view_state}
use Rattle.performing.specs.Performed.{returned}
use Rattle.engine.specs.Lists.{Exchange}

-- what was returned tells whether the line was taken, and whether it was accepted
abbrev pub tells_taken : Returned → Bool
tells_taken (refused_with k) = not (is_untaken k)
tells_taken (wrote_bytes n) = true

abbrev pub tells_accepted : Returned → Bool
tells_accepted (refused_with k) = false
tells_accepted (wrote_bytes n) = true

abbrev pub was_taken : Exchange → Bool
was_taken m = tells_taken (returned m.gave.answer)

abbrev pub was_accepted : Exchange → Bool
was_accepted m = tells_accepted (returned m.gave.answer)

-- the tally of the scanner with a number, and the lines of all together
abbrev pub tally_in : State → ℕ → Tally
tally_in s n = tally_of (view_state s).notes.tallies n

abbrev pub all_taken : State → ℕ
all_taken s = lines_taken (view_state s)

-- the scanner that lines come from once a call is over
abbrev pub scanner_after : Exchange → ℕ
scanner_after m = m.gave.state.notes.scanner

-- A call for any state: a line that isn't taken leaves everything as it was; one that is moves the tally of one scanner by one, that from
-- which lines then come, and no other, and so all together by one. A refused line leaves the scanner as it was.
pub record OneMoved (s : State) (m : Exchange) : Type 0 where
  pub untaken : was_taken m ≡ false → m.gave.state ≡ s
  pub own : was_taken m ≡ true → (scanner_after m < max_scanners)
      × (tally_in m.gave.state (scanner_after m) ≡ one_line_more (was_accepted m) (tally_in s (scanner_after m)))
  pub others : was_taken m ≡ true → (n : ℕ) → (n ≡ scanner_after m → ⊥) → tally_in m.gave.state n ≡ tally_in s n
  pub together : was_taken m ≡ true → all_taken m.gave.state ≡ all_taken s + 1
  pub same_scanner : was_accepted m ≡ false → scanner_after m ≡ s.notes.scanner

-- how many calls of a list are such
abbrev pub how_many : (Exchange → Bool) → List Exchange → ℕ
how_many test ms = length (those test ms)

-- the calls whose lines count for a scanner, accepted or refused
abbrev pub accepted_for : ℕ → Exchange → Bool
accepted_for n m = was_accepted m && eqb n (scanner_after m)

abbrev pub refused_for : ℕ → Exchange → Bool
refused_for n m = was_taken m && not (was_accepted m) && eqb n (scanner_after m)

-- Calls that lead from a state to another: each tally has grown by its scanner's lines, and all together by the lines taken.
pub record AddUp (s : State) (ms : List Exchange) (t : State) : Type 0 where
  pub accepted : (n : ℕ) → (tally_in t n).accepted ≡ (tally_in s n).accepted + how_many (accepted_for n) ms
  pub refused : (n : ℕ) → (tally_in t n).refusals ≡ (tally_in s n).refusals + how_many (refused_for n) ms
  pub together : all_taken t ≡ all_taken s + how_many was_taken ms

-- The three demands, as statements about calls.
use Rattle.std.specs.Prelude.{◌≡◌, true, false, cond, ◌↔◌, ◌⊎◌, ℕ, ◌<◌, ◌≤◌, length, get_or, eqb, Result}
use mathlib.Core.List.{List, [], Memᴰ}
use Rattle.semantics.specs.Basics.{those}
use Rattle.semantics.specs.Limits.{max_lines}
use Rattle.semantics.specs.Network.{Label, Plot, Network, labels_off}
use Rattle.semantics.specs.Solutions.{class_at, fitting, solutions, held, supports, Belief, believed, belief}
use Rattle.semantics.specs.Relabelling.{cost, best, rank, precedes, relabelling, changes, with_changes, is_choice, relabelled, changed_labels}
use Rattle.semantics.specs.Answers.{supports_text, relabelling_text}
use Rattle.semantics.specs.Buffers.{written}
use Rattle.semantics.specs.Engine as model
use Rattle.semantics.specs.Engine.{lines_taken, run_over, checked, supports_are, buffer_after, refused_with, returned_for, wrote_bytes}
use Rattle.network.specs.declared.State.{State}
use Rattle.network.specs.View.{view_state}
use Rattle.network.specs.Sound.{with_line}
use Rattle.performing.specs.Performed.{returned}
use Rattle.refusals.specs.declared.Refusal.{Refusal}
use Rattle.performing.specs.declared.PlotCounts.{PlotCounts}
use Rattle.engine.specs.Calls.{as_supports}
use Rattle.engine.specs.Lists.{Exchange}

-- the call is refused, with some number
abbrev pub IsRefused : Exchange → Type 0
IsRefused m = (k : ℕ) × (returned m.gave.answer ≡ refused_with k)

-- Demand 1, of a call for any state: it does what the line says or gives the refusal that is fixed for it, and a refused line changes
-- neither the network nor the buffer, nor any other number of the struct but for the tally of one scanner, which has one refused line more
-- if the line is taken.
pub record Demand1 (s : State) (m : Exchange) : Type 0 where
  pub does : view_state m.gave.state ≡ (checked (view_state s) m.line (length m.lent)).state
  pub answers : returned m.gave.answer ≡ returned_for (checked (view_state s) m.line (length m.lent)).said
  pub writes : m.lent_after ≡ buffer_after m.lent (checked (view_state s) m.line (length m.lent)).said
  pub spares_network : IsRefused m → m.gave.state.network ≡ s.network
  pub spares_state : IsRefused m → (m.gave.state ≡ s) ⊎ (m.gave.state ≡ with_line false s)
  pub spares_buffer : IsRefused m → m.lent_after ≡ m.lent

-- how many solutions give the plot at a position a class
abbrev pub solutions_with : Network → ℕ → ℕ → ℕ
solutions_with n i c = length (those (λ a. eqb (class_at a i) c) (solutions n))

-- Demand 2, of the counts of a plot: the count of each of its classes is the number of solutions that give it that class, held, and a class
-- is believed exactly when its count isn't zero and all others of that plot are.
pub record CountsRight (n : Network) (i : ℕ) (p : Plot) (counts : List ℕ) (b : Belief) : Type 0 where
  pub many : length counts ≡ p.classes
  pub each : (c : ℕ) → c < p.classes → get_or counts c 0 ≡ held (solutions_with n i c)
  pub belief_rule : (c : ℕ)
      → (b ≡ believed c)
      ↔ ((c < p.classes) × (0 < get_or counts c 0) × ((d : ℕ) → d < p.classes → (d ≡ c → ⊥) → get_or counts d 0 ≡ 0))

-- the C line of a plot answers those counts, in number and in every byte of the buffer
pub record Demand2 (n : Network) (i : ℕ) (p : Plot) (m : Exchange) : Type 0 where
  pub right : CountsRight n i p (supports n i p) (belief (supports n i p))
  pub answers : returned m.gave.answer ≡ wrote_bytes (length (supports_text p.id (supports n i p) (belief (supports n i p))))
  pub writes : m.lent_after ≡ written m.lent 0 (supports_text p.id (supports n i p) (belief (supports n i p)))

-- and so does the call that asks for them beside the lines
pub record Demand2Asked (n : Network) (i : ℕ) (p : Plot) (r : Result PlotCounts Refusal) : Type 0 where
  pub right : CountsRight n i p (supports n i p) (belief (supports n i p))
  pub answers : as_supports r ≡ supports_are p.classes (supports n i p) (belief (supports n i p))

-- The relabel list of a network, as R gives it: which it is, its number and every byte of the buffer; its changes leave a solution; every
-- choice of labels that does so changes at least as many; and the number is the list's length.
pub record Relabels (n : Network) (m : Exchange) : Type 0 where
  pub total : ℕ
  pub assignment : List ℕ
  pub found : relabelling n ≡ best total assignment
  -- It is the list of an assignment that fits and costs the total. None that fits costs less, and any other that costs as much comes later
  -- where plots are compared in order of arrival, at each plot its own label first, then lower classes.
  pub member : Memᴰ assignment (fitting n)
  pub is_cost : total ≡ cost n.plots assignment
  pub least : (b : List ℕ) → Memᴰ b (fitting n) → total ≤ cost n.plots b
  pub first : (b : List ℕ) → Memᴰ b (fitting n) → cost n.plots b ≡ total
      → (b ≡ assignment) ⊎ (precedes rank n.plots assignment b ≡ true)
  pub answers : returned m.gave.answer ≡ wrote_bytes (length (relabelling_text total (changes n.plots assignment)))
  pub writes : m.lent_after ≡ written m.lent 0 (relabelling_text total (changes n.plots assignment))
  pub leaves_solution : 0 < length (solutions (with_changes n (changes n.plots assignment)))
  pub rivals : (ls : List Label) → is_choice n.plots ls ≡ true → 0 < length (solutions (relabelled n ls))
      → total ≤ changed_labels n.plots ls
  pub is_length : total ≡ length (changes n.plots assignment)

-- Demand 3, of the line R after a list of calls that make a state: refused exactly when the network would have no solution with every label
-- off, or a million lines were taken, with 19 in the second case and 18 else, and every byte of the buffer as it was; otherwise the relabel
-- list.
pub record Demand3 (s : model.State) (m : Exchange) : Type 0 where
  pub refused_iff : IsRefused m ↔ ((solutions (labels_off s.network) ≡ []) ⊎ (max_lines ≤ lines_taken s))
  pub refused_as : IsRefused m → (returned m.gave.answer ≡ refused_with (cond (run_over s) 19 18)) × (m.lent_after ≡ m.lent)
  pub otherwise : (IsRefused m → ⊥) → Relabels s.network m

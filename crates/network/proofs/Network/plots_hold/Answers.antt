-- `Network::plots_hold` meets its contract: a plot that breaks a rule breaks those of all, and one that keeps its own is passed.
use Rattle.std.proofs.Common.{◌≡◌, sym, Bool, true, false, not, List, ℕ, suc, ◌+◌, ◌≤◌, ◌<◌, add-one, arith, Fits}
use Rattle.std.proofs.Common.{w64, length, set, length-set, rules}
use mathlib.Core.Bool.{and-false}
use borrow.Author.Tests.{not-true}
use Rattle.semantics.specs.Limits.{max_plots}
use Rattle.semantics.specs.Rules.{plots_hold}
use Rattle.text.specs.declared.Id.{Id}
use Rattle.text.specs.Ids.{slot_of, id_bytes}
use Rattle.stored.specs.Values.{slot_at}
use Rattle.network.specs.declared.Network.{Network}
use Rattle.network.specs.View.{plots_of}
use Rattle.network.specs.Found.{id_holds, bytes_hold}
use Rattle.network.specs.Marks.{places, id_place}
use Rattle.network.proofs.Marks.{mark_next}
use Rattle.network.proofs.Ruled.{newest_holds, broken_before}
use Rattle.network.proofs.Network.plots_hold.Invariants.{Passed}
use Rattle.network.proofs.Network.plots_hold.Goals as goal

module _ (n : Network) (i : ℕ) where
  abbrev all : Bool
  all = plots_hold n.tables (plots_of n n.plots)

  -- a plot that breaks a rule breaks those of all
  broken : i < n.plots → plots_hold n.tables (plots_of n (suc i)) ≡ false → false ≡ all
  broken h e = sym (broken_before n (suc i) n.plots (omega arith) e)

  bad-bytes : (b : Bool) → i < n.plots → b ≡ bytes_hold n i → not b ≡ true → false ≡ all
  bad-bytes b h q f = broken h (rw (newest_holds n i, ← q, not-true b f, and-false))

  module _ (id : Id) (e : slot_of id ≡ slot_at n.ids i) where
    bad-id : (b : Bool) → i < n.plots → b ≡ id_holds (id_bytes id) n.ids i → not b ≡ true → false ≡ all
    bad-id b h q f = broken h (rw (newest_holds n i, ← e, ← q, not-true b f, and-false, and-false))

    turn : (a b : Bool) (seen : List Bool) (place : ℕ) → Passed n i seen → i < n.plots → n.plots ≤ max_plots → a ≡ bytes_hold n i → a ≡ true → b ≡ id_holds (id_bytes id) n.ids i → b ≡ true → place ≡ id_place id
        → Fits w64 id.low → Fits w64 id.high
        → Passed n (i + 1) (set seen place true)
    turn a b seen place p h few q f r g k low high =
        let sized : length seen ≡ places = p.sized in
        let within : place < length seen = omega arith in
        record {
          ruled = rw (add-one, newest_holds n i, ← e, p.ruled, ← q, ← r, f, g);
          sized = simp length-set p.sized;
          marked = mark_next n.ids id low high seen i place e p.marked k within;
        }

pub returns-then-not-bytes_hold : goal.returns-then-not-bytes_hold
returns-then-not-bytes_hold c = search bad-bytes

pub returns-then-not-id_holds : goal.returns-then-not-id_holds
returns-then-not-id_holds c = search bad-id

pub loop-i-preserved : goal.loop-i-preserved
loop-i-preserved c =
    turn _ _ _ c.id_at-id.ensures _ _ _ _ c.loop-i.invariant c.loop-i-test.true c.requires c.bytes_hold.ensures
    c.if-not-bytes_hold.false c.id_holds.ensures c.if-not-id_holds.false c.place_of.ensures (search rules) (search rules)

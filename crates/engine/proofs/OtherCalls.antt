-- The end of the input, the book as text, and counts asked for beside the lines.
use Rattle.std.proofs.Common.{Result, Ok, Err, Option, Some, None, is_some, IfSome, ok_or, ◌+◌, ◌≡◌, refl, sym, ap, ◌∙◌}
use Rattle.std.proofs.Common.{subst, Bool, true, false, not, true≢false, List, ℕ, ◌<◌, ◌≤◌, arith, length, lt-ltb, le-ltb}
use Rattle.refusals.specs.declared.Refusal.{Refusal}
use borrow.Author.Tests.{not-true}
use Rattle.semantics.specs.Limits.{min_room}
use Rattle.semantics.specs.Text.{is_id}
use Rattle.semantics.specs.Network as model
use Rattle.semantics.specs.Network.{Plot, Place, absent, present, find}
use Rattle.semantics.specs.Rules.{network_holds}
use Rattle.semantics.specs.Answers.{tallies_text}
use Rattle.semantics.specs.NetworkText.{network_text}
use Rattle.semantics.specs.Buffers.{written}
use Rattle.semantics.specs.Engine.{wrote_bytes, is_short, holds, is_shorter, supports_answer_at}
use Rattle.semantics.proofs.Places.{found_stands}
use Rattle.semantics.proofs.Rules.{network-rules, stands_rules}
use Rattle.text.specs.declared.Id.{Id}
use Rattle.text.specs.Ids.{id_bytes}
use Rattle.notes.specs.Views.{as_tallies}
use Rattle.network.specs.declared.Network.{Network}
use Rattle.network.specs.declared.State.{State}
use Rattle.network.specs.View.{view, view_state}
use Rattle.refusals.specs.declared.Refusal.TheVariants.{BrokenState, ShortBuffer, NoPlot, ShortForText}
use Rattle.performing.specs.declared.PlotCounts.{PlotCounts}
use Rattle.performing.specs.Performed as performing
use Rattle.performing.proofs.Asking.{asked_absent, asked_counted}
use Rattle.semantics.proofs.Kept.{network_kept}
use Rattle.engine.specs.Calls.{Ending, SavingNetwork, Saving, SupportsGiven, SupportsOf}
use Rattle.network.specs.declared.sound.Sound.{Sound}
use Rattle.network.specs.Sound.{whole}
use Rattle.engine.proofs.Stepping.{valid_holds, refused-state, kept-state, same-state}

-- the end: 10, then 9, then the text
module _ (s : State) (out : List ℕ) where
  pub end_short : length out < min_room → Ending s out (Err ShortBuffer) out
  end_short h = let short : is_short (length out) ≡ true = lt-ltb _ _ h in record { answered = rw short refl; buffer = rw short refl }

  module _ (valid : Bool) where
    pub end-broken : min_room ≤ length out → valid ≡ holds (view_state s) → not valid ≡ true → Ending s out (Err BrokenState) out
    end-broken h e f =
        let short : is_short (length out) ≡ false = le-ltb _ _ h in
        let broken : holds (view_state s) ≡ false = sym e ∙ not-true valid f in
        record { answered = rw (short, broken) refl; buffer = rw (short, broken) refl }

    pub end_told : (n : ℕ) (last : List ℕ) → min_room ≤ length out → valid ≡ holds (view_state s) → not valid ≡ false
        → n ≡ 0 + length (tallies_text 0 (as_tallies s.notes.tallies))
        → last ≡ written out 0 (tallies_text 0 (as_tallies s.notes.tallies))
        → Ending s out (Ok n) last
    end_told n last h e f l w =
        let short : is_short (length out) ≡ false = le-ltb _ _ h in
        let sound : holds (view_state s) ≡ true = valid_holds s valid e f in
        record { answered = rw (short, sound) (ap wrote_bytes (omega (arith, l))); buffer = rw (short, sound) w }

-- the text of a network: 20, or the text
module _ (n : Network) (out : List ℕ) (size : ℕ) (k : size ≡ length (network_text (view n))) where
  pub text_short : length out < size → SavingNetwork n out (Err ShortForText) out
  text_short h =
      let short : is_shorter (length out) (network_text (view n)) ≡ true = lt-ltb _ _ (rw k at h) in
      record { answered = rw short refl; buffer = rw short refl }

  pub text_told : (m : ℕ) (last : List ℕ) → size ≤ length out → m ≡ length (network_text (view n)) → last ≡ written out 0 (network_text (view n))
      → SavingNetwork n out (Ok m) last
  text_told m last h l w =
      let long : is_shorter (length out) (network_text (view n)) ≡ false = le-ltb _ _ (rw k at h) in
      record { answered = rw long (ap wrote_bytes l); buffer = rw long w }

-- the book as text: 9 first
module _ (s : State) (out : List ℕ) (tested : Option Sound) (e : is_some tested ≡ holds (view_state s)) where
  pub save_broken : tested ≡ None → Saving s out (Err BrokenState) out
  save_broken f = let broken = refused-state s tested e f in record { answered = rw broken refl; buffer = rw broken refl }

  pub save_told : (k : Sound) (r : Result ℕ Refusal) (last : List ℕ) → tested ≡ Some k → IfSome tested (λ u. whole u ≡ s)
      → SavingNetwork k.network out r last → Saving s out r last
  save_told k r last f p w =
      let kept = kept-state s tested e k f in
      let same = ap (λ (u : State). u.network) (same-state s tested e k f p) in
      let v : SavingNetwork s.network out r last = rw same at w in
      record { answered = rw kept v.answered; buffer = rw kept v.buffer }

-- counts in a network that keeps the rules
pub counted : (n : Network) (id : Id) (asked : Option PlotCounts) (r : Result PlotCounts Refusal)
    → asked ≡ performing.counts_found (view n) (find (id_bytes id) (view n).plots) → r ≡ ok_or asked NoPlot
    → SupportsGiven (supports_answer_at (view n) (find (id_bytes id) (view n).plots)) r
counted n id asked r e p = rw p (go asked e)
  where
    go : (a : Option PlotCounts) → a ≡ performing.counts_found (view n) (find (id_bytes id) (view n).plots)
        → SupportsGiven (supports_answer_at (view n) (find (id_bytes id) (view n).plots)) (ok_or a NoPlot)
    go None q = rw (asked_absent (view n) _ q) (record { answered = refl; values = refl })
    go (Some found) q =
        let c = asked_counted (view n) _ found q in
        rw c.place (record { answered = rw (c.own, c.believes, ← c.classes) refl; values = c.values })

-- a plot of a network that keeps the rules is found by an id that is one
pub found-id : (n : model.Network) (id : List ℕ) (i : ℕ) (p : Plot) → network_holds n ≡ true → find id n.plots ≡ present i p
    → (is_id id ≡ true) × (p.id ≡ id)
found-id n id i p h e =
    let f = found_stands id n.plots i p e in
    let r = stands_rules _ i p n.plots (network-rules n h).each_plot f.0 in
    (ap is_id (sym f.1) ∙ r.has_id, f.1)

unnamed : (n : model.Network) (id : List ℕ) → network_holds n ≡ true → is_id id ≡ false → find id n.plots ≡ absent
unnamed n id h e = go (find id n.plots) refl
  where
    go : (x : Place) → find id n.plots ≡ x → x ≡ absent
    go absent q = refl
    go (present i p) q = absurd (true≢false (sym (found-id n id i p h q).0 ∙ e))

-- counts for a state that keeps the rules
module _ (s : State) (kept : holds (view_state s) ≡ true) (id : List ℕ) where
  pub unnamed_uncounted : is_id id ≡ false → SupportsOf s id (Err NoPlot)
  unnamed_uncounted e = rw (kept, unnamed (view s.network) id (network_kept (view_state s) kept) e) (record { answered = refl; values = refl })

  pub named-counted : (i : Id) (asked : Option PlotCounts) (r : Result PlotCounts Refusal) → id_bytes i ≡ id
      → asked ≡ performing.counts_found (view s.network) (find (id_bytes i) (view s.network).plots) → r ≡ ok_or asked NoPlot → SupportsOf s id r
  named-counted i asked r e a p =
      let given = counted s.network i asked r a p in
      rw kept (rw e at given)

-- and for any
module _ (s : State) (id : List ℕ) (tested : Option Sound) (e : is_some tested ≡ holds (view_state s)) where
  pub broken_uncounted : tested ≡ None → SupportsOf s id (Err BrokenState)
  broken_uncounted f = rw (refused-state s tested e f) (record { answered = refl; values = refl })

  pub sound-counted : (k : Sound) (r : Result PlotCounts Refusal) → tested ≡ Some k → IfSome tested (λ u. whole u ≡ s) → SupportsOf (whole k) id r
      → SupportsOf s id r
  sound-counted k r f p c = subst (λ (u : State). SupportsOf u id r) (same-state s tested e k f p) c

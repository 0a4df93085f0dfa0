-- R and C: what was found decides between the refusal and the answer.
use Rattle.std.proofs.Common.{Option, Some, None, Ok, Err, ◌≡◌, refl, sym, ap, ◌∙◌, true, List, ◌++◌, ℕ, ◌-◌, ◌≤◌, arith, length, take}
use Rattle.std.proofs.Common.{replicate, length-take}
use Rattle.std.proofs.lemmas.Option.{none-some, same_Some}
use Rattle.semantics.specs.Limits.{max_classes}
use Rattle.semantics.specs.Network as model
use Rattle.semantics.specs.Network.{Plot, Place, absent, present, find}
use Rattle.semantics.specs.Solutions.{supports, belief}
use Rattle.semantics.specs.Relabelling.{Best, none, best, relabelling, changes}
use Rattle.semantics.specs.Rules.{network_holds}
use Rattle.semantics.specs.Protocol.{Line, ask_relabelling, ask_supports}
use Rattle.semantics.specs.Answers.{supports_text, changes_text}
use Rattle.semantics.specs.Buffers.{written}
use Rattle.semantics.specs.Engine.{done, relabel_by, supports_at, perform}
use Rattle.semantics.proofs.Places.{found_stands}
use Rattle.semantics.proofs.Rules.{network-rules, stands_rules}
use Rattle.semantics.proofs.Listing.{assignment-length}
use Rattle.semantics.proofs.Resolution.{fitting-assignment, resolves}
use Rattle.text.specs.declared.Id.{Id}
use Rattle.text.specs.Ids.{id_bytes}
use Rattle.stored.specs.Values.{classes_at}
use Rattle.network.specs.declared.Network.{Network}
use Rattle.network.specs.declared.State.{State}
use Rattle.network.specs.View.{plot_at, view, view_state}
use Rattle.network.specs.Found.{lookup, place_of}
use Rattle.network.proofs.Views.{length-plots, found-view}
use Rattle.network.proofs.Standing.{few-plots}
use Rattle.support.specs.Paths.{supports_then_zeros}
use Rattle.support.specs.Beliefs.{as_belief, to_belief, believed_below}
use Rattle.support.proofs.Answers.{first-supports, belief-back, belief-told, belief-below}
use Rattle.relabel.specs.declared.Relabelled.{Relabelled}
use Rattle.relabel.specs.Answer as relabel
use Rattle.relabel.proofs.ByPosition.{placed_at}
use Rattle.answers.specs.Changes.{change_lines, list_text}
use Rattle.answers.proofs.Listed as answers
use Rattle.refusals.specs.declared.Refusal.TheVariants.{NoPlot, NothingFits}
use Rattle.performing.specs.declared.PlotCounts.{PlotCounts}
use Rattle.performing.specs.Performed.{edited, counts_found}
use Rattle.performing.specs.Performing.{Performing}
use Rattle.performing.proofs.Editing.{declines}

-- an answer of a line that changes nothing: how much was written, and what it leaves of the buffer
module _ (s : State) (line : Line) (text : List ℕ) (f : perform (view_state s) line ≡ done (view_state s) text)
    (same : edited s line ≡ s) (out last : List ℕ) where
  tells : (w : ℕ) → w ≡ length text → last ≡ written out 0 text → Performing s line out s (Ok w) last
  tells w e l = record { struct = rw (f, same) refl; answered = rw (f, e) refl; buffer = rw f l }

-- the counts of a plot that was looked for
module _ (n : Network) (id : Id) (f : Option ℕ) where
  abbrev place_asked : Place
  place_asked = find (id_bytes id) (view n).plots

  -- what was found among the stored ids is the place in the network
  asked_at : f ≡ lookup (id_bytes id) n.ids n.plots → place_of n f ≡ place_asked
  asked_at e = rw e (found-view n (id_bytes id) n.plots)

  pub counts_absent : f ≡ lookup (id_bytes id) n.ids n.plots → f ≡ None → ◌≡◌ {A = Option PlotCounts} None (counts_found (view n) place_asked)
  counts_absent e q = rw (← asked_at e, q) refl

  pub counts_found_lem : (i k : ℕ) (counts : List ℕ) (b : Option ℕ) → f ≡ lookup (id_bytes id) n.ids n.plots → f ≡ Some i
      → k ≡ classes_at n.classes i → counts ≡ supports_then_zeros n i → as_belief b ≡ belief (take k counts)
      → ◌≡◌ {A = Option PlotCounts} (Some (record { classes = k; counts = counts; belief = b })) (counts_found (view n) place_asked)
  counts_found_lem i k counts b e q c s h =
      let own : take k counts ≡ supports (view n) i (plot_at n i) = rw (c, s) (first-supports (view n) i (plot_at n i)) in
      let believes : b ≡ to_belief (belief (supports (view n) i (plot_at n i))) = sym (belief-back b) ∙ ap to_belief (h ∙ ap belief own) in
      rw (← asked_at e, q, c, s, believes) refl

-- the plot behind counts that are there: its own counts are the first of them, and the belief is by these
pub record PlotCounted (n : model.Network) (x : Place) (c : PlotCounts) : Type 0 where
  pub position : ℕ
  pub plot : Plot
  pub place : x ≡ present position plot
  pub classes : c.classes ≡ plot.classes
  pub own : take c.classes c.counts ≡ supports n position plot
  pub believes : as_belief c.belief ≡ belief (supports n position plot)
  pub values : c.counts ≡ supports n position plot ++ replicate (max_classes - plot.classes) 0

pub asked_absent : (n : model.Network) (x : Place) → None ≡ counts_found n x → x ≡ absent
asked_absent n absent e = refl
asked_absent n (present i p) e = absurd (none-some _ e)

pub asked_counted : (n : model.Network) (x : Place) (c : PlotCounts) → Some c ≡ counts_found n x → PlotCounted n x c
asked_counted n absent c e = absurd (none-some _ (sym e))
asked_counted n (present i p) c e =
    let a = same_Some _ _ e in
    record {
      position = i;
      plot = p;
      place = refl;
      classes = ap (λ s. s.classes) a;
      own = rw a (first-supports n i p);
      believes = rw a (belief-told (belief (supports n i p)));
      values = ap (λ s. s.counts) a;
    }

module _ (s : State) (id : Id) (asked : Option PlotCounts)
    (e : asked ≡ counts_found (view s.network) (find (id_bytes id) (view s.network).plots)) where
  abbrev n : Network
  n = s.network

  abbrev place : Place
  place = find (id_bytes id) (view n).plots

  pub supports-refused : (out : List ℕ) → asked ≡ None → Performing s (ask_supports (id_bytes id)) out s (Err NoPlot) out
  supports-refused out q = declines s _ NoPlot (rw (asked_absent (view n) place (sym q ∙ e))) out

  module _ (found : PlotCounts) (q : asked ≡ Some found) where
    counted : PlotCounted (view n) place found
    counted = asked_counted (view n) place found (sym q ∙ e)

    -- the plot's classes are eight at most, and so what is believed is below eight
    pub supports-few : network_holds (view n) ≡ true → found.classes ≤ max_classes
    supports-few h =
        let c = counted in
        let s = (found_stands (id_bytes id) (view n).plots c.position c.plot c.place).0 in
        let r = (stands_rules _ c.position c.plot (view n).plots (network-rules (view n) h).each_plot s).few_classes in
        let k : found.classes ≡ c.plot.classes = c.classes in
        omega arith

    pub supports-below : network_holds (view n) ≡ true → believed_below max_classes (as_belief found.belief) ≡ true
    supports-below h =
        let few = supports-few h in
        let counts = take found.classes found.counts in
        rw (counted.believes, ← counted.own) (belief-below counts max_classes (omega (arith, length-take found.classes found.counts)))

    text : supports_at (view_state s) place
        ≡ done (view_state s) (supports_text (id_bytes id) (take found.classes found.counts) (as_belief found.belief))
    text =
        let c = counted in
        let same = (found_stands (id_bytes id) (view n).plots c.position c.plot c.place).1 in
        rw (c.place, same, c.own, c.believes) refl

    pub supports_told : (out : List ℕ) (w : ℕ) (last : List ℕ)
        → w ≡ length (supports_text (id_bytes id) (take found.classes found.counts) (as_belief found.belief))
        → last ≡ written out 0 (supports_text (id_bytes id) (take found.classes found.counts) (as_belief found.belief))
        → Performing s (ask_supports (id_bytes id)) out s (Ok w) last
    supports_told out w last l m = tells s (ask_supports (id_bytes id)) _ text refl out last w l m

-- the relabelling behind an answer
pub record Chosen (b : Best (List ℕ)) (found : Relabelled) : Type 0 where
  pub assignment : List ℕ
  pub found_best : b ≡ best found.number assignment
  pub values : found.classes ≡ relabel.by_position assignment

pub none-chosen : (b : Best (List ℕ)) → None ≡ relabel.as_relabelled b → b ≡ none
none-chosen none e = refl
none-chosen (best m a) e = absurd (none-some _ e)

pub some-chosen : (b : Best (List ℕ)) (found : Relabelled) → Some found ≡ relabel.as_relabelled b → Chosen b found
some-chosen none found e = absurd (none-some _ (sym e))
some-chosen (best l a) found e = let s = same_Some _ _ e in record { assignment = a; found_best = ap (λ r. best r.number a) (sym s); values = ap (λ r. r.classes) s }

-- the lines of the classes by position are those of the assignment's list
chosen_listed : (n : Network) (m : ℕ) (a : List ℕ) → network_holds (view n) ≡ true → relabelling (view n) ≡ best m a
    → change_lines n.ids n.labels (relabel.by_position a) n.plots ≡ changes_text (changes (view n).plots a)
chosen_listed n m a h e =
    let k = (resolves (view n) m a e).member in
    let l = fitting-assignment (view n) a k in
    let long : length a ≡ n.plots = assignment-length (view n).plots a l ∙ length-plots n n.plots in
    let few = few-plots n h in
    answers.listed n (relabel.by_position a) a n.plots long λ q b. placed_at a q (omega arith)

module _ (s : State) (answer : Option Relabelled) (e : answer ≡ relabel.as_relabelled (relabelling (view s.network))) (out : List ℕ) where
  abbrev book : Network
  book = s.network

  pub relabelling-refused : answer ≡ None → Performing s ask_relabelling out s (Err NothingFits) out
  relabelling-refused q = declines s ask_relabelling NothingFits (rw (none-chosen (relabelling (view book)) (sym q ∙ e))) out

  module _ (found : Relabelled) (h : network_holds (view book) ≡ true) (q : answer ≡ Some found) where
    list : relabel_by (view_state s) (relabelling (view book))
        ≡ done (view_state s) (list_text found.number (change_lines book.ids book.labels found.classes book.plots))
    list =
        let c = some-chosen (relabelling (view book)) found (sym q ∙ e) in
        ap (relabel_by (view_state s)) c.found_best
        ∙ ap (λ l. done (view_state s) (list_text found.number l))
        (sym (chosen_listed book found.number c.assignment h c.found_best)
        ∙ ap (λ s. change_lines book.ids book.labels s book.plots) (sym c.values))

    pub relabelling_told : (w : ℕ) (last : List ℕ) → w ≡ length (list_text found.number (change_lines book.ids book.labels found.classes book.plots))
        → last ≡ written out 0 (list_text found.number (change_lines book.ids book.labels found.classes book.plots))
        → Performing s ask_relabelling out s (Ok w) last
    relabelling_told w last l t = tells s ask_relabelling _ list refl out last w l t

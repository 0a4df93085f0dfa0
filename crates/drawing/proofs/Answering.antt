-- What is answered where the text of a drawn network is asked for.
use Rattle.std.proofs.Common.{Result, Ok, Err, ◌≡◌, refl, sym, ap, ◌∙◌, Bool, true, false, not, ◌+◌, ◌≤◌, ℕ, List, length, leb, leb-true}
use borrow.Author.Tests.{not-true, not-false}
use Rattle.semantics.specs.Limits.{max_plots}
use Rattle.semantics.specs.Rules.{network_holds}
use Rattle.semantics.specs.NetworkText.{max_text_bytes}
use Rattle.semantics.specs.Answers.{refusal_text}
use Rattle.semantics.specs.Buffers.{written}
use Rattle.semantics.specs.Engine as model
use Rattle.semantics.specs.Engine.{holds, Answer, text_into, saved, returned_for, buffer_after}
use Rattle.semantics.specs.Drawing.{network_drawn, can_draw, generated, drawn_output}
use Rattle.semantics.specs.Program.{printed}
use Rattle.semantics.proofs.Lists.{and_right}
use Rattle.semantics.proofs.Drawn.{network-drawn}
use Rattle.refusals.specs.declared.Refusal.{Refusal}
use Rattle.refusals.specs.declared.Refusal.TheVariants.{OutOfRange}
use Rattle.refusals.specs.Refusals.{number_of}
use Rattle.performing.proofs.Printing.{answer_bytes, answer_over, refusal_bytes, refusal_over}
use Rattle.network.specs.declared.State.{State}
use Rattle.network.specs.View.{view_state}
use Rattle.engine.specs.Calls.{Saving}
use Rattle.engine.proofs.Texts.{always_fits}
use Rattle.drawing.specs.Drawn.{with_drawn, Generating}

-- A number of plots that can be asked for is one that may stand, so the network that is drawn keeps the rules.
pub few_drawn : (plots : ℕ) → can_draw plots ≡ true → plots ≤ max_plots
few_drawn plots k = leb-true plots max_plots (and_right (leb 1 plots) (leb plots max_plots) k)

pub drawn_sound : (start plots : ℕ) → can_draw plots ≡ true → network_holds (network_drawn start plots) ≡ true
drawn_sound start plots k = network-drawn start plots (few_drawn plots k)

module _ (start plots : ℕ) (b : Bool) (e : b ≡ can_draw plots) where
  -- 6
  pub not_drawn : (out : List ℕ) → not b ≡ true → Generating start plots out (Err OutOfRange) out
  not_drawn out f =
      let none : can_draw plots ≡ false = sym e ∙ not-true b f in
      record { answered = rw none refl; buffer = rw none refl }

  module _ (f : not b ≡ false) where
    some : can_draw plots ≡ true
    some = sym e ∙ not-false b f

    pub plots_fit : plots ≤ max_plots
    plots_fit = few_drawn plots some

    -- what is saved of the drawn state is what is asked for
    pub drawn_saved : (s : State) (out lent_after : List ℕ) (r : Result ℕ Refusal) → view_state s ≡ with_drawn start plots
        → Saving s out r lent_after → Generating start plots out r lent_after
    drawn_saved s out lent_after r d w =
        let same : saved (view_state s) (length out) ≡ generated start plots (length out) =
        ap (λ (m : model.State). saved m (length out)) d ∙ rw (drawn_sound start plots some, some) refl in
        record {
          answered = w.answered ∙ ap returned_for same;
          buffer = w.buffer ∙ ap (buffer_after out) same;
        }

-- A buffer that any text fits in makes no difference to what is printed.
pub output_printed : (start plots room : ℕ) → max_text_bytes ≤ room → printed (generated start plots room) ≡ drawn_output start plots
output_printed start plots room h = go (can_draw plots) refl
  where
    go : (b : Bool) → can_draw plots ≡ b → printed (generated start plots room) ≡ drawn_output start plots
    go false e = rw e refl
    go true e = rw (e, always_fits (network_drawn start plots) room (drawn_sound start plots e) h) refl

-- So what was answered is what is printed: the text stands there, and a refusal's goes there.
module _ (start plots : ℕ) (out mid : List ℕ) (r : Result ℕ Refusal) (g : Generating start plots out r mid)
    (room : max_text_bytes ≤ length out) where
  abbrev given : Answer
  given = generated start plots (length out)

  same : printed given ≡ drawn_output start plots
  same = output_printed start plots (length out) room

  module _ (n : ℕ) (e : r ≡ Ok n) where
    pub text_long : n ≡ length (drawn_output start plots)
    text_long = answer_bytes given out mid r g.answered g.buffer n e ∙ ap length same

    pub text_there : mid ≡ written out 0 (drawn_output start plots)
    text_there = answer_over given out mid r g.answered g.buffer n e ∙ ap (written out 0) same

  module _ (q : Refusal) (e : r ≡ Err q) (m : ℕ) (number : m ≡ number_of q) where
    pub refusal_long : (w : ℕ) → w ≡ 0 + length (refusal_text m) → w ≡ length (drawn_output start plots)
    refusal_long w p = refusal_bytes given out mid r g.answered g.buffer q e m number w p ∙ ap length same

    pub refusal_there : (last : List ℕ) → last ≡ written mid 0 (refusal_text m) → last ≡ written out 0 (drawn_output start plots)
    refusal_there last p = refusal_over given out mid r g.answered g.buffer q e m number last p ∙ ap (written out 0) same

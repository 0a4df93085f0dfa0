-- What U3 promises of the text of a drawn network, of calls of which nothing is known but what `generate` and the engine's `step` ensure:
-- it is read in, for every start and number of plots; with a long buffer it is always written; and it is the same each time.
use Rattle.std.proofs.Common.{◌≡◌, refl, sym, ap, ap₂, ◌∙◌, Bool, true, false, List, ℕ, ◌≤◌, length, take, leb, le-leb}
use Rattle.semantics.specs.Basics.{every}
use Rattle.semantics.specs.Limits.{max_plots, max_line_bytes}
use Rattle.semantics.specs.Rules.{network_holds}
use Rattle.semantics.specs.Answers.{tally_text}
use Rattle.semantics.specs.NetworkText.{network_lines, network_text, max_text_bytes}
use Rattle.semantics.specs.Engine.{refused_with, wrote_bytes}
use Rattle.semantics.specs.Program.{lines, output, saved_output}
use Rattle.semantics.specs.Drawing.{network_drawn, can_draw, drawn_output}
use Rattle.semantics.proofs.Saved.{text-fits, each_short, text_cut}
use Rattle.semantics.proofs.ReadAgain.{text-printed, read_again}
use Rattle.semantics.proofs.Drawn.{network-drawn}
use Rattle.network.specs.declared.State.{State}
use Rattle.performing.specs.Performed.{returned}
use Rattle.engine.specs.Lists.{Exchange, Unused, Leads}
use Rattle.engine.specs.Texts.{TextWritten, LinesOf, Each, HasRoom, ReadsIn}
use Rattle.engine.proofs.Texts.{text_written, network_read, always_fits}
use Rattle.drawing.specs.Drawn.{GenerateCall}
use Rattle.drawing.proofs.Answering.{few_drawn, drawn_sound}

-- EVERY START, EVERY NUMBER OF PLOTS. The lines of the text of a drawn network, each with a buffer that is long enough, are all accepted
-- from an unused run, and make that network.
pub load_read : (start plots : ℕ) → plots ≤ max_plots → (s t : State) (ms : List Exchange) → Unused s → Leads s ms t
    → LinesOf (network_text (network_drawn start plots)) ms → Each HasRoom ms
    → ReadsIn (network_drawn start plots) ms t
load_read start plots h = network_read (network_drawn start plots) (network-drawn start plots h)

-- the text of the network that was asked for
abbrev text_of : GenerateCall → List ℕ
text_of c = network_text (network_drawn c.start c.plots)

-- A call that isn't refused was asked for as many plots as may stand, and wrote the text of their network.
record Told (c : GenerateCall) (n : ℕ) : Type 0 where
  few : c.plots ≤ max_plots
  wrote : TextWritten c.lent c.gave c.lent_after (text_of c)
  same : n ≡ length (text_of c)

told : (c : GenerateCall) (n : ℕ) → returned c.gave ≡ wrote_bytes n → Told c n
told c n e = go (can_draw c.plots) refl
  where
    go : (b : Bool) → can_draw c.plots ≡ b → Told c n
    go false h =
        let z : refused_with 6 ≡ wrote_bytes n = rw h at (sym c.generating.answered ∙ e) in
        cc
    go true h =
        let m = network_drawn c.start c.plots in
        let w = text_written m c.lent c.gave c.lent_after n (rw h at c.generating.answered) (rw h at c.generating.buffer) e in
        record { few = few_drawn c.plots h; wrote = w.0; same = w.1 }

-- what stands at the front of its buffer
written : (c : GenerateCall) (n : ℕ) → returned c.gave ≡ wrote_bytes n → take n c.lent_after ≡ text_of c
written c n e = let w = told c n e in rw w.same w.wrote.front

-- READING IN. So what a call of `generate` wrote is accepted line by line, and makes the network that was drawn.
pub reads_in : (c : GenerateCall) (n : ℕ) → returned c.gave ≡ wrote_bytes n → (s t : State) (ms : List Exchange) → Unused s → Leads s ms t
    → LinesOf (take n c.lent_after) ms → Each HasRoom ms
    → ReadsIn (network_drawn c.start c.plots) ms t
reads_in c n e s t ms u l of room =
    load_read c.start c.plots (told c n e).few s t ms u l (rw (written c n e) at of) room

-- ALWAYS WRITTEN. From 1 to 128 plots, with a buffer for the largest text, nothing is refused.
pub always_generated : (c : GenerateCall) → 1 ≤ c.plots → c.plots ≤ max_plots → max_text_bytes ≤ length c.lent
    → returned c.gave ≡ wrote_bytes (length (text_of c))
always_generated c l k h =
    let sound = network-drawn c.start c.plots k in
    c.generating.answered
    ∙ rw (le-leb 1 c.plots l, le-leb c.plots max_plots k, always_fits (network_drawn c.start c.plots) (length c.lent) sound h) refl

-- IN A PIPE. What the program prints for 1 to 128 plots makes `plotbook` print the N line of scanner 0 alone, with every line accepted,
-- and `booktext` the same text again.
module _ (start plots : ℕ) (k : can_draw plots ≡ true) where
  whole : drawn_output start plots ≡ network_text (network_drawn start plots)
  whole = rw k refl

  pub load_accepted : output (drawn_output start plots)
      ≡ tally_text 0 (record { accepted = length (network_lines (network_drawn start plots)); refusals = 0 })
  load_accepted = rw whole (text-printed (network_drawn start plots) (drawn_sound start plots k))

  pub load_saved : saved_output (drawn_output start plots) ≡ drawn_output start plots
  load_saved = rw whole (ap network_text (read_again (network_drawn start plots) (drawn_sound start plots k)))

-- HOW LONG. It has no more bytes than the largest text, and each of its lines at most 40.
pub load_bounds : (c : GenerateCall) (n : ℕ) → returned c.gave ≡ wrote_bytes n
    → (n ≤ max_text_bytes) × (every (λ l. leb (length l) max_line_bytes) (lines (take n c.lent_after)) ≡ true)
load_bounds c n e =
    let w = told c n e in
    let m = network_drawn c.start c.plots in
    let sound : network_holds m ≡ true = network-drawn c.start c.plots w.few in
    (rw w.same (text-fits m sound), rw (written c n e, text_cut m sound) (each_short m sound))

-- THE SAME EACH TIME. Two calls for the same start and number of plots that wrote something wrote the same, whatever their buffers.
pub same_load : (c d : GenerateCall) (n m : ℕ) → returned c.gave ≡ wrote_bytes n → returned d.gave ≡ wrote_bytes m
    → c.start ≡ d.start → c.plots ≡ d.plots → (n ≡ m) × (take n c.lent_after ≡ take m d.lent_after)
same_load c d n m e f p q =
    let texts : text_of c ≡ text_of d = ap₂ (λ start plots. network_text (network_drawn start plots)) p q in
    ((told c n e).same ∙ ap length texts ∙ sym (told d m f).same, written c n e ∙ texts ∙ sym (written d m f))

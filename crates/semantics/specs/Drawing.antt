-- A network drawn from a start (02: U3), the same each time: how the generator steps, what is drawn and in which order, and the text that
-- is asked for.
use Rattle.std.specs.Prelude.{Bool, cond, ◌&&◌, List, [], ◌∷◌, ◌++◌, ℕ, zero, suc, ◌+◌, ◌*◌, ◌/◌, ◌%◌, ◌^◌, leb}
use Rattle.semantics.specs.Limits.{max_plots, max_classes, table_rows}
use Rattle.semantics.specs.Text.{decimal}
use Rattle.semantics.specs.Network.{Link, root, child, class, Plot, Network}
use Rattle.semantics.specs.Answers.{refusal_text}
use Rattle.semantics.specs.NetworkText.{network_text}
use Rattle.semantics.specs.Engine.{Answer, refusal, text_into}

-- the generator's next state, wrapping at 2^32: to take it is a step
abbrev pub next_state : ℕ → ℕ
next_state v = (1664525 * v + 1013904223) % 2 ^ 32

-- the state after some steps
abbrev pub after_steps : ℕ → ℕ → ℕ
after_steps zero v = v
after_steps (suc i) v = next_state (after_steps i v)

-- a draw below n from the state v: the stepped state divided by 65536, rounded down, then its remainder by n. Each draw is one step.
abbrev pub draw : ℕ → ℕ → ℕ
draw n v = next_state v / 65536 % n

-- the first rows of the table, a draw below 256 each
abbrev pub rows_drawn : ℕ → ℕ → List ℕ
rows_drawn zero v = []
rows_drawn (suc i) v = rows_drawn i v ++ (draw 256 (after_steps i v) ∷ [])

-- how the plot at a position is bound: the first is the root; a later one's parent is drawn below its own position
abbrev pub link_drawn : ℕ → ℕ → Link
link_drawn zero v = root
link_drawn (suc i) v = child (draw (suc i) v) 0

abbrev pub after_link : ℕ → ℕ → ℕ
after_link zero v = v
after_link (suc i) v = next_state v

-- the id of the plot at a position: G (byte 71) and the position
abbrev pub id_drawn : ℕ → List ℕ
id_drawn i = 71 ∷ decimal i

-- the plot at a position: after its parent its label is drawn, then its domain
abbrev pub plot_drawn : ℕ → ℕ → Plot
plot_drawn i v =
    let w = after_link i v in
    record {
      id = id_drawn i;
      link = link_drawn i v;
      classes = max_classes;
      domain = 1 + draw 255 (next_state w);
      label = class (draw 8 w);
    }

abbrev pub after_plot : ℕ → ℕ → ℕ
after_plot i v = after_steps 2 (after_link i v)

-- the first plots, one after the other, and the state that their draws leave
abbrev pub after_plots : ℕ → ℕ → ℕ
after_plots zero v = v
after_plots (suc i) v = after_plot i (after_plots i v)

abbrev pub plots_drawn : ℕ → ℕ → List Plot
plots_drawn zero v = []
plots_drawn (suc i) v = plot_drawn i (after_plots i v) ∷ plots_drawn i v

-- the network of a start and a number of plots: its table is drawn first
abbrev pub network_drawn : ℕ → ℕ → Network
network_drawn start plots =
    record { tables = rows_drawn table_rows start ∷ []; plots = plots_drawn plots (after_steps table_rows start) }

-- one plot to as many as may stand can be asked for
abbrev pub can_draw : ℕ → Bool
can_draw plots = leb 1 plots && leb plots max_plots

-- the text of the network, asked for with a buffer of some length: 6 for another number of plots, then 20 where the buffer is shorter than
-- the text
abbrev pub generated : ℕ → ℕ → ℕ → Answer
generated start plots room = cond (can_draw plots) (text_into (network_drawn start plots) room) (refusal 6)

-- what `generate` prints: the text, or the line of the refusal
abbrev pub drawn_output : ℕ → ℕ → List ℕ
drawn_output start plots = cond (can_draw plots) (network_text (network_drawn start plots)) (refusal_text 6)

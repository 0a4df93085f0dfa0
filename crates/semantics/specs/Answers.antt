-- The text of the answers (document 01: "What the combine prints"). Each line of it ends in byte 10; its fields are parted by byte 44.
-- C is byte 67, E 69, N 78 and R 82.
use Rattle.std.specs.Prelude.{cond, List, [], ◌∷◌, ◌++◌, ℕ, suc, ◌+◌, ◌*◌, eqb}
use Rattle.semantics.specs.Limits.{max_plots}
use Rattle.semantics.specs.Text.{decimal, comma_each}
use Rattle.semantics.specs.Network.{class}
use Rattle.semantics.specs.Solutions.{Belief, nothing, believed}
use Rattle.semantics.specs.Relabelling.{Change}
use Rattle.semantics.specs.Protocol.{label_text, max_label_line}
use Rattle.semantics.specs.Notes.{Tally, lines_of}

-- the believed class, or blank
abbrev pub belief_text : Belief → List ℕ
belief_text nothing = []
belief_text (believed c) = decimal c

-- C,id,count,..,count,believed class or blank
abbrev pub supports_text : List ℕ → List ℕ → Belief → List ℕ
supports_text id ss b = (67 ∷ 44 ∷ id) ++ comma_each ss ++ (44 ∷ belief_text b) ++ (10 ∷ [])

-- the L line of a change
abbrev pub change_text : Change → List ℕ
change_text h = label_text h.plot.id (class h.new_class) ++ (10 ∷ [])

-- the lines of the relabel list
abbrev pub changes_text : List Change → List ℕ
changes_text [] = []
changes_text (h ∷ hs) = change_text h ++ changes_text hs

-- R,number and a line for each change, in the list's order
abbrev pub relabelling_text : ℕ → List Change → List ℕ
relabelling_text m hs = (82 ∷ 44 ∷ decimal m) ++ (10 ∷ changes_text hs)

-- the most bytes of that answer, for a network that keeps the rules: R and a number of three digits, and a line for each plot. That it has
-- no more is a law.
abbrev pub max_relabelling : ℕ
max_relabelling = 6 + max_label_line * max_plots

-- E,number
abbrev pub refusal_text : ℕ → List ℕ
refusal_text n = (69 ∷ 44 ∷ decimal n) ++ (10 ∷ [])

-- N,n,accepted,refused for the scanner with a number, if it has lines (02: U5)
abbrev pub tally_text : ℕ → Tally → List ℕ
tally_text n t = cond (eqb (lines_of t) 0) [] ((78 ∷ comma_each (n ∷ t.accepted ∷ t.refusals ∷ [])) ++ (10 ∷ []))

-- the lines of the scanners from a number on, lowest first
abbrev pub tallies_text : ℕ → List Tally → List ℕ
tallies_text n [] = []
tallies_text n (t ∷ ts) = tally_text n t ++ tallies_text (suc n) ts

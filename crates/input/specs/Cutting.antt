-- What a line that is coming in stands for, and what reading on makes of it.
use Rattle.std.specs.Prelude.{Bool, cond, not, ◌&&◌, List, [], ◌∷◌, ◌++◌, map, ℕ, suc, ◌+◌, ◌-◌, min, length, take, drop, replicate, eqb, leb, ltb}
use Rattle.std.specs.Bool.{then_some}
use Rattle.semantics.specs.Basics.{every}
use Rattle.semantics.specs.Limits.{max_line_bytes}
use Rattle.semantics.specs.Buffers.{written}
use Rattle.semantics.specs.Program.{lines, passed}
use Rattle.input.specs.declared.Pending.{Pending}
use Rattle.input.specs.declared.Cut.{Cut}

-- the bytes of a line that are kept
abbrev pub kept_bytes : ℕ
kept_bytes = suc max_line_bytes

-- the bytes before the first byte 10; all of them if there is none
abbrev pub until_end : List ℕ → List ℕ
until_end [] = []
until_end (b ∷ bs) = cond (eqb b 10) [] (b ∷ until_end bs)

-- there is a byte 10 among them
abbrev pub has_end : List ℕ → Bool
has_end bytes = ltb (length (until_end bytes)) (length bytes)

-- where the line that starts at a place of a piece ends: at byte 10, or at the end of the piece
abbrev pub line_end : List ℕ → ℕ → ℕ
line_end piece from = from + length (until_end (drop from piece))

-- where what the engine gets of it ends
abbrev pub passed_end : ℕ → ℕ → ℕ
passed_end from stop = min stop (from + kept_bytes)

-- a byte in front of the first line that byte 10 ends; where there is none it belongs to no such line
abbrev pub prepend_ended : ℕ → List (List ℕ) → List (List ℕ)
prepend_ended b [] = []
prepend_ended b (l ∷ ls) = (b ∷ l) ∷ ls

-- the lines that byte 10 ends
abbrev pub ended_lines : List ℕ → List (List ℕ)
ended_lines [] = []
ended_lines (b ∷ bs) = cond (eqb b 10) ([] ∷ ended_lines bs) (prepend_ended b (ended_lines bs))

-- what is kept of the line that is coming in
abbrev pub so_far : Pending → List ℕ
so_far p = take p.length p.bytes

-- a line of which no byte has come in
unfoldable pub no_line : Pending
no_line = record { bytes = replicate kept_bytes 0; length = 0 }

-- the line with more of its bytes: those that there is room for are kept, and no other byte of the struct is altered
abbrev pub grown : Pending → List ℕ → Pending
grown p bytes =
    let more = take (kept_bytes - p.length) bytes in
    record { bytes = written p.bytes p.length more; length = p.length + length more }

-- reading on: up to byte 10, and the place behind it, or to the end of the piece
abbrev pub read_on : Pending → List ℕ → ℕ → Cut
read_on p piece from =
    let rest = drop from piece in
    record {
      pending = grown p (until_end rest);
      next = then_some (has_end rest) (from + length (until_end rest) + 1);
    }

-- no byte of a line is byte 10
abbrev pub no_end : List ℕ → Bool
no_end bytes = every (λ b. not (eqb b 10)) bytes

-- a line that is coming in: no more bytes than are kept, and none of them byte 10
abbrev pub is_open : Pending → Bool
is_open p = leb p.length kept_bytes && no_end (so_far p)

-- the lines that the engine gets, from a line so far and the bytes behind it on
abbrev pub handed : List ℕ → List ℕ → List (List ℕ)
handed line bytes = map passed (lines (line ++ bytes))

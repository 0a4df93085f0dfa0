-- Lines of the bytes of ids and commas, none of them too long: their text is cut into them again, and how many bytes it has.
use Rattle.std.proofs.Common.{◌≡◌, refl, sym, ap, ◌∙◌, Bool, true, false, not, ◌&&◌, ◌||◌, true≢false, List, [], ◌∷◌, ◌++◌, map}
use Rattle.std.proofs.Common.{append_assoc, ℕ, suc, ◌+◌, ◌≤◌, ◌<◌, arith, length, length-append, take_all, eqb, leb, le-leb, ne_eqb}
use Rattle.std.proofs.Common.{leb-true}
use borrow.Author.Tests.{not-true}
use Rattle.semantics.specs.Basics.{every}
use Rattle.semantics.specs.Limits.{max_classes, max_line_bytes}
use Rattle.semantics.specs.Text.{is_id_byte, is_id, decimal, comma_each}
use Rattle.semantics.specs.Network.{class}
use Rattle.semantics.specs.Protocol.{label_text, max_label_line}
use Rattle.semantics.specs.NetworkText.{lines_text}
use Rattle.semantics.specs.Program.{lines, passed}
use Rattle.semantics.proofs.Lists.{and_left, and_right, and_both, every_append}
use Rattle.semantics.proofs.ReadBack.{decimal_words, id_words, label_short}

-- a byte of an id, or a comma: so not byte 10
abbrev is_line_byte : ℕ → Bool
is_line_byte b = is_id_byte b || eqb b 44

-- a line of such bytes that isn't too long
abbrev pub fits_line : List ℕ → Bool
fits_line l = leb (length l) max_line_bytes && every is_line_byte l

-- no byte of it is byte 10
not_ten : (b : ℕ) → is_line_byte b ≡ true → not (eqb b 10) ≡ true
not_ten b h = rw (ne_eqb b 10 λ e. true≢false (sym h ∙ ap is_line_byte e))

none_ten : (l : List ℕ) → every is_line_byte l ≡ true → every (λ b. not (eqb b 10)) l ≡ true
none_ten [] h = refl
none_ten (b ∷ l) h =
    rw (not_ten b (and_left (is_line_byte b) (every is_line_byte l) h)) (none_ten l (and_right (is_line_byte b) (every is_line_byte l) h))

-- bytes without byte 10, and then one, are a line, and what comes behind are others
pub cut_line : (l rest : List ℕ) → every (λ b. not (eqb b 10)) l ≡ true → lines (l ++ (10 ∷ rest)) ≡ l ∷ lines rest
cut_line [] rest h = refl
cut_line (b ∷ l) rest h =
    let other : eqb b 10 ≡ false = not-true (eqb b 10) (and_left (not (eqb b 10)) (every (λ c. not (eqb c 10)) l) h) in
    rw (other, cut_line l rest (and_right (not (eqb b 10)) (every (λ c. not (eqb c 10)) l) h)) refl

-- the two halves of what such a line keeps to
module _ (l : List ℕ) (ls : List (List ℕ)) (h : every fits_line (l ∷ ls) ≡ true) where
  first_fits : fits_line l ≡ true
  first_fits = and_left (fits_line l) (every fits_line ls) h

  first_short : length l ≤ max_line_bytes
  first_short = leb-true _ _ (and_left (leb (length l) max_line_bytes) (every is_line_byte l) first_fits)

  first_plain : every (λ b. not (eqb b 10)) l ≡ true
  first_plain = none_ten l (and_right (leb (length l) max_line_bytes) (every is_line_byte l) first_fits)

  others_fit : every fits_line ls ≡ true
  others_fit = and_right (fits_line l) (every fits_line ls) h

-- the text of lines is cut into these lines
pub lines_cut : (ls : List (List ℕ)) → every fits_line ls ≡ true → lines (lines_text ls) ≡ ls
lines_cut [] h = refl
lines_cut (l ∷ ls) h = rw (cut_line l (lines_text ls) (first_plain l ls h)) (ap (λ rs. l ∷ rs) (lines_cut ls (others_fit l ls h)))

-- the program hands each of them on whole
pub lines-passed : (ls : List (List ℕ)) → every fits_line ls ≡ true → map passed ls ≡ ls
lines-passed [] h = refl
lines-passed (l ∷ ls) h =
    rw (take_all (suc max_line_bytes) l (omega (arith, first_short l ls h))) (ap (λ rs. l ∷ rs) (lines-passed ls (others_fit l ls h)))

-- none is too long
pub lines_short : (ls : List (List ℕ)) → every fits_line ls ≡ true → every (λ l. leb (length l) max_line_bytes) ls ≡ true
lines_short [] h = refl
lines_short (l ∷ ls) h = rw (le-leb _ _ (first_short l ls h)) (lines_short ls (others_fit l ls h))

-- the bytes of an id or of a number are such bytes
words_plain : (f : List ℕ) → every is_id_byte f ≡ true → every is_line_byte f ≡ true
words_plain [] h = refl
words_plain (b ∷ f) h =
    rw (and_left (is_id_byte b) (every is_id_byte f) h) (words_plain f (and_right (is_id_byte b) (every is_id_byte f) h))

-- two parts of such bytes
pub parts_plain : (a b : List ℕ) → every is_line_byte a ≡ true → every is_line_byte b ≡ true → every is_line_byte (a ++ b) ≡ true
parts_plain a b h k = every_append is_line_byte a b ∙ and_both (every is_line_byte a) (every is_line_byte b) h k

pub id-plain : (id : List ℕ) → is_id id ≡ true → every is_line_byte id ≡ true
id-plain id h = words_plain id (id_words id h)

pub number-plain : (n : ℕ) → every is_line_byte (decimal n) ≡ true
number-plain n = words_plain (decimal n) (decimal_words n)

pub rows_plain : (rows : List ℕ) → every is_line_byte (comma_each rows) ≡ true
rows_plain [] = refl
rows_plain (r ∷ rows) = parts_plain (decimal r) (comma_each rows) (number-plain r) (rows_plain rows)

-- lines, each short enough, that have at most so many bytes in all
pub record Fits (ls : List (List ℕ)) (room : ℕ) : Type 0 where
  pub each : every fits_line ls ≡ true
  pub all : length (lines_text ls) ≤ room

pub lines-append : (ls rs : List (List ℕ)) → lines_text (ls ++ rs) ≡ lines_text ls ++ lines_text rs
lines-append [] rs = refl
lines-append (l ∷ ls) rs = rw (lines-append ls rs) (sym (append_assoc l (10 ∷ lines_text ls) (lines_text rs)))

pub none_fit : (room : ℕ) → Fits [] room
none_fit room = record { each = refl; all = omega arith }

-- one line, with its byte 10
pub one_fits : (l : List ℕ) (room : ℕ) → length l < room → room ≤ suc max_line_bytes → every is_line_byte l ≡ true → Fits (l ∷ []) room
one_fits l room h few plain =
    let short : length l ≤ max_line_bytes = omega arith in
    record { each = rw (le-leb _ _ short, plain) refl; all = rw (length-append l (10 ∷ [])) (omega arith) }

-- some lines and then others
pub both_fit : (ls rs : List (List ℕ)) (a b : ℕ) → Fits ls a → Fits rs b → Fits (ls ++ rs) (a + b)
both_fit ls rs a b f g =
    record {
      each = every_append fits_line ls rs ∙ and_both (every fits_line ls) (every fits_line rs) f.each g.each;
      all = rw (lines-append ls rs, length-append (lines_text ls) (lines_text rs)) (omega (arith, f.all, g.all));
    }

-- in more room
pub more_room : (ls : List (List ℕ)) (a b : ℕ) → a ≤ b → Fits ls a → Fits ls b
more_room ls a b h f = record { each = f.each; all = omega (arith, f.all) }

-- an L line, of a class
pub label-fits : (id : List ℕ) (c : ℕ) → is_id id ≡ true → c < max_classes → Fits (label_text id (class c) ∷ []) max_label_line
label-fits id c h few =
    one_fits (label_text id (class c)) max_label_line (label_short id c h few) (omega arith)
    (parts_plain id (44 ∷ decimal c) (id-plain id h) (number-plain c))

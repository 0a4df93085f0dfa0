-- Reading what was written: of each kind of line that the text of a network has, the line is read back from its text, for all ids, numbers
-- and masks in range; and the text of lines is cut into these lines again.
use Rattle.std.proofs.Common.{◌≡◌, refl, sym, ap, ◌∙◌, Bool, true, false, cond, ◌&&◌, ◌||◌, true≢false, List, [], ◌∷◌, ◌++◌, map}
use Rattle.std.proofs.Common.{append_assoc, append-nil, ℕ, zero, suc, ◌+◌, ◌-◌, ◌*◌, ◌/◌, ◌%◌, ◌≤◌, ◌<◌, arith, length, length-append, eqb}
use Rattle.std.proofs.Common.{leb, ltb, le-ltb, le-leb, ne_eqb, leb-true, ltb-true, ltb-false, eqb-true}
use mathlib.Core.Bool.{false≢true}
use lib.ListN.{length-map}
use Rattle.semantics.specs.Basics.{every}
use Rattle.semantics.specs.Limits.{max_tables, max_classes, max_mask, max_id_bytes, max_line_bytes, table_rows}
use Rattle.semantics.specs.Text.{fields, is_blank, number, value, is_number, value_of, is_id_byte, is_id, digits, decimal, comma_each}
use Rattle.semantics.specs.Network.{class}
use Rattle.semantics.specs.Rules.{is_table}
use Rattle.semantics.specs.Protocol.{nobody, named, add_table, add_plot, set_domain, set_label, named_parent, named_label, is_row, read_line}
use Rattle.semantics.specs.Protocol.{table_text, max_table_line, plot_text, max_root_line, max_child_line, domain_text}
use Rattle.semantics.specs.Protocol.{max_domain_line, label_text, max_label_line}
use Rattle.semantics.proofs.Lists.{and_left, and_right, every_append}
use Rattle.semantics.proofs.Decimals.{length-below, number-decimal}

-- a digit is a byte of an id, as those of a number are
digit_word : (d : ℕ) → d < 10 → is_id_byte (48 + d) ≡ true
digit_word d h = go (leb 65 (48 + d) && leb (48 + d) 90)
  where
    go : (b : Bool) → (b || (leb 48 (48 + d) && leb (48 + d) 57)) ≡ true
    go true = refl
    go false = rw (le-leb 48 (48 + d) (omega arith), le-leb (48 + d) 57 (omega arith))

digits_words : (k n : ℕ) → n ≤ k → every is_id_byte (digits k n) ≡ true
digits_words zero n h = rw (digit_word n (omega arith))
digits_words (suc k) n h = go (ltb n 10) refl (digits_words k (n / 10))
  where
    go : (b : Bool) → ltb n 10 ≡ b → (n / 10 ≤ k → every is_id_byte (digits k (n / 10)) ≡ true)
        → every is_id_byte (cond b ((48 + n) ∷ []) (digits k (n / 10) ++ ((48 + n % 10) ∷ []))) ≡ true
    go true e r = rw (digit_word n (ltb-true n 10 e))
    go false e r =
        let f : 10 ≤ n = ltb-false n 10 e in
        every_append is_id_byte (digits k (n / 10)) ((48 + n % 10) ∷ [])
        ∙ rw (r (omega arith), digit_word (n % 10) (omega arith))

pub decimal_words : (n : ℕ) → every is_id_byte (decimal n) ≡ true
decimal_words n = digits_words n n (omega arith)

-- such a byte is no comma
no_comma : (b : ℕ) → is_id_byte b ≡ true → eqb b 44 ≡ false
no_comma b h = ne_eqb b 44 λ e. true≢false (sym h ∙ ap is_id_byte e)

-- a field of such bytes, before a comma and at the end of a line
pub fields_more : (f rest : List ℕ) → every is_id_byte f ≡ true → fields (f ++ (44 ∷ rest)) ≡ f ∷ fields rest
fields_more [] rest h = refl
fields_more (b ∷ f) rest h =
    rw (no_comma b (and_left (is_id_byte b) (every is_id_byte f) h), fields_more f rest (and_right (is_id_byte b) (every is_id_byte f) h)) refl

pub fields_last : (f : List ℕ) → every is_id_byte f ≡ true → fields f ≡ f ∷ []
fields_last [] h = refl
fields_last (b ∷ f) h =
    rw (no_comma b (and_left (is_id_byte b) (every is_id_byte f) h), fields_last f (and_right (is_id_byte b) (every is_id_byte f) h)) refl

-- an id has at most so many bytes, and they are those of an id
pub id_short : (id : List ℕ) → is_id id ≡ true → length id ≤ max_id_bytes
id_short id h =
    let few = leb (length id) max_id_bytes in
    leb-true _ _ (and_right (leb 1 (length id)) few (and_left (leb 1 (length id) && few) (every is_id_byte id) h))

pub id_words : (id : List ℕ) → is_id id ≡ true → every is_id_byte id ≡ true
id_words id h = and_right (leb 1 (length id) && leb (length id) max_id_bytes) (every is_id_byte id) h

-- S: how long its text is, and that it is read back
pub domain_short : (id : List ℕ) (m : ℕ) → is_id id ≡ true → m ≤ max_mask → length (domain_text id m) < max_domain_line
domain_short id m h k =
    let few = id_short id h in
    let three : length (decimal m) ≤ 3 = length-below 2 m (omega arith) in
    rw (length-append id (44 ∷ decimal m)) (omega arith)

-- a line of this length isn't too long
not_long : (l : List ℕ) → length l ≤ max_line_bytes → ltb max_line_bytes (length l) ≡ false
not_long l h = le-ltb max_line_bytes (length l) h

pub read-domain : (id : List ℕ) (m : ℕ) → is_id id ≡ true → 1 ≤ m → m ≤ max_mask → read_line (domain_text id m) ≡ set_domain id m
read-domain id m h l k =
    let short : length (domain_text id m) ≤ max_line_bytes = omega (arith, domain_short id m h k) in
    rw (not_long (domain_text id m) short, fields_more id (decimal m) (id_words id h), fields_last (decimal m) (decimal_words m))
    (rw (h, number-decimal m (omega arith), le-leb 1 m l, le-leb m max_mask k) refl)

-- L of a class
pub label_short : (id : List ℕ) (c : ℕ) → is_id id ≡ true → c < max_classes → length (label_text id (class c)) < max_label_line
label_short id c h k =
    let few = id_short id h in
    let one : length (decimal c) ≤ 1 = length-below 0 c (omega arith) in
    rw (length-append id (44 ∷ decimal c)) (omega arith)

-- a field that says a number, or an id, isn't blank
number-filled : (f : List ℕ) (n : ℕ) → number f ≡ value n → is_blank f ≡ false
number-filled [] n e = absurd (false≢true (ap is_number e))
number-filled (b ∷ f) n e = refl

decimal-filled : (n : ℕ) → n < 1000 → is_blank (decimal n) ≡ false
decimal-filled n h = number-filled (decimal n) n (number-decimal n h)

id-filled : (id : List ℕ) → is_id id ≡ true → is_blank id ≡ false
id-filled [] h = absurd (false≢true h)
id-filled (b ∷ id) h = refl

-- what such a field names
label-named : (f : List ℕ) → is_blank f ≡ false → named_label f ≡ class (value_of (number f))
label-named [] h = absurd (true≢false h)
label-named (b ∷ f) h = refl

parent_named_lem : (f table : List ℕ) → is_blank f ≡ false → named_parent f table ≡ named f (value_of (number table))
parent_named_lem [] table h = absurd (true≢false h)
parent_named_lem (b ∷ f) table h = refl

pub read-label : (id : List ℕ) (c : ℕ) → is_id id ≡ true → c < max_classes → read_line (label_text id (class c)) ≡ set_label id (class c)
read-label id c h k =
    let short : length (label_text id (class c)) ≤ max_line_bytes = omega (arith, label_short id c h k) in
    let z : c ≤ max_classes - 1 = omega arith in
    let small : c < 1000 = omega arith in
    rw (not_long (label_text id (class c)) short, fields_more id (decimal c) (id_words id h), fields_last (decimal c) (decimal_words c))
    (rw (h, label-named (decimal c) (decimal-filled c small), decimal-filled c small, number-decimal c small)
    (rw (le-leb 0 c (omega arith), le-leb c (max_classes - 1) z) refl))

-- P of a root, and of a child
pub root_short : (id : List ℕ) (k : ℕ) → is_id id ≡ true → k ≤ max_classes → length (plot_text id nobody k) < max_root_line
root_short id k h l =
    let few = id_short id h in
    let one : length (decimal k) ≤ 1 = length-below 0 k (omega arith) in
    rw (length-append (id ++ (44 ∷ 44 ∷ [])) (44 ∷ decimal k), length-append id (44 ∷ 44 ∷ [])) (omega arith)

pub child_short : (id parent : List ℕ) (table k : ℕ) → is_id id ≡ true → is_id parent ≡ true → table < max_tables → k ≤ max_classes
    → length (plot_text id (named parent table) k) < max_child_line
child_short id parent table k h g t l =
    let few = id_short id h in
    let also = id_short parent g in
    let one : length (decimal k) ≤ 1 = length-below 0 k (omega arith) in
    let two : length (decimal table) ≤ 2 = length-below 1 table (omega arith) in
    rw (length-append (id ++ ((44 ∷ parent) ++ (44 ∷ decimal table))) (44 ∷ decimal k))
    (rw (length-append id ((44 ∷ parent) ++ (44 ∷ decimal table)), length-append parent (44 ∷ decimal table)) (omega arith))

pub read-root : (id : List ℕ) (k : ℕ) → is_id id ≡ true → 1 ≤ k → k ≤ max_classes → read_line (plot_text id nobody k) ≡ add_plot id nobody k
read-root id k h l m =
    let short : length (plot_text id nobody k) ≤ max_line_bytes = omega (arith, root_short id k h m) in
    rw (not_long (plot_text id nobody k) short, append_assoc id (44 ∷ 44 ∷ []) (44 ∷ decimal k))
    (rw (fields_more id (44 ∷ 44 ∷ decimal k) (id_words id h), fields_last (decimal k) (decimal_words k))
    (rw (h, number-decimal k (omega arith), le-leb 1 k l, le-leb k max_classes m) refl))

pub read-child : (id parent : List ℕ) (table k : ℕ) → is_id id ≡ true → is_id parent ≡ true → table < max_tables → 1 ≤ k → k ≤ max_classes
    → read_line (plot_text id (named parent table) k) ≡ add_plot id (named parent table) k
read-child id parent table k h g t l m =
    let short : length (plot_text id (named parent table) k) ≤ max_line_bytes = omega (arith, child_short id parent table k h g t m) in
    let low : table ≤ max_tables - 1 = omega arith in
    let small : table < 1000 = omega arith in
    rw (not_long (plot_text id (named parent table) k) short, append_assoc id ((44 ∷ parent) ++ (44 ∷ decimal table)) (44 ∷ decimal k))
    (rw (append_assoc parent (44 ∷ decimal table) (44 ∷ decimal k), fields_more id _ (id_words id h))
    (rw (fields_more parent _ (id_words parent g), fields_more (decimal table) _ (decimal_words table))
    (rw (fields_last (decimal k) (decimal_words k))
    (rw (h, g, parent_named_lem parent (decimal table) (id-filled parent g), id-filled parent g, decimal-filled table small)
    (rw (number-decimal table small, number-decimal k (omega arith), le-leb 0 table (omega arith), le-leb table (max_tables - 1) low)
    (rw (le-leb 1 k l, le-leb k max_classes m) refl))))))

-- T: numbers behind commas are fields
fields_numbers : (f : List ℕ) (ns : List ℕ) → every is_id_byte f ≡ true → fields (f ++ comma_each ns) ≡ f ∷ map decimal ns
fields_numbers f [] h = rw append-nil (fields_last f h)
fields_numbers f (n ∷ ns) h =
    fields_more f (decimal n ++ comma_each ns) h ∙ ap (λ fs. f ∷ fs) (fields_numbers (decimal n) ns (decimal_words n))

-- rows are read back one by one
module _ (r : ℕ) (rs : List ℕ) (h : every (λ x. leb x max_mask) (r ∷ rs) ≡ true) where
  first-row : r ≤ max_mask
  first-row = leb-true r max_mask (and_left (leb r max_mask) (every (λ x. leb x max_mask) rs) h)

  other_rows : every (λ x. leb x max_mask) rs ≡ true
  other_rows = and_right (leb r max_mask) (every (λ x. leb x max_mask) rs) h

rows_numbers : (rs : List ℕ) → every (λ x. leb x max_mask) rs ≡ true → every (λ f. is_number (number f)) (map decimal rs) ≡ true
rows_numbers [] h = refl
rows_numbers (r ∷ rs) h = rw (number-decimal r (omega (arith, first-row r rs h))) (rows_numbers rs (other_rows r rs h))

rows_rows : (rs : List ℕ) → every (λ x. leb x max_mask) rs ≡ true → every is_row (map decimal rs) ≡ true
rows_rows [] h = refl
rows_rows (r ∷ rs) h =
    let few = first-row r rs h in
    rw (number-decimal r (omega arith), le-leb 0 r (omega arith), le-leb r max_mask few) (rows_rows rs (other_rows r rs h))

rows_values : (rs : List ℕ) → every (λ x. leb x max_mask) rs ≡ true → map (λ f. value_of (number f)) (map decimal rs) ≡ rs
rows_values [] h = refl
rows_values (r ∷ rs) h = rw (number-decimal r (omega (arith, first-row r rs h)), rows_values rs (other_rows r rs h))

rows_short : (rs : List ℕ) → every (λ x. leb x max_mask) rs ≡ true → length (comma_each rs) ≤ 4 * length rs
rows_short [] h = omega arith
rows_short (r ∷ rs) h =
    let three : length (decimal r) ≤ 3 = length-below 2 r (omega (arith, first-row r rs h)) in
    let more = rows_short rs (other_rows r rs h) in
    rw (length-append (decimal r) (comma_each rs)) (omega arith)

module _ (rows : List ℕ) (h : is_table rows ≡ true) where
  eight : length rows ≡ table_rows
  eight = eqb-true _ _ (and_left (eqb (length rows) table_rows) (every (λ r. leb r max_mask) rows) h)

  masks : every (λ r. leb r max_mask) rows ≡ true
  masks = and_right (eqb (length rows) table_rows) (every (λ r. leb r max_mask) rows) h

  pub table_short : length (table_text rows) < max_table_line
  table_short = omega (arith, rows_short rows masks, eight)

  pub read_table_lem : read_line (table_text rows) ≡ add_table rows
  read_table_lem =
      let short : length (table_text rows) ≤ max_line_bytes = omega (arith, table_short) in
      let long : length (map decimal rows) ≡ table_rows = rw length-map eight in
      rw (not_long (table_text rows) short, fields_numbers (84 ∷ []) rows refl)
      (rw (long, rows_numbers rows masks, rows_rows rows masks, rows_values rows masks) refl)

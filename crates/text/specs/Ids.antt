-- Ids as they are stored, a slot with an id in front and zeros behind it; and as two numbers.
use Rattle.std.specs.Prelude.{cond, List, [], ◌∷◌, ◌++◌, ℕ, zero, suc, ◌+◌, ◌-◌, ◌*◌, ◌/◌, ◌%◌, length, take, drop, replicate, eqb, Option, None, Some}
use Rattle.semantics.specs.Text.{is_id}
use Rattle.text.specs.declared.Id.{Id}

-- the bytes of a number of 64 bits
abbrev pub word_bytes : ℕ
word_bytes = 8

-- the bytes of a slot: two such numbers. An id may have fewer (`max_id_bytes`)
abbrev pub slot_bytes : ℕ
slot_bytes = 16

-- an id with zeros behind it, up to the slot's end
abbrev pub padded : List ℕ → List ℕ
padded id = id ++ replicate (slot_bytes - length id) 0

-- a byte before what stands behind it, where zeros at the end are padding
abbrev pub keep : ℕ → List ℕ → List ℕ
keep b [] = cond (eqb b 0) [] (b ∷ [])
keep b (c ∷ cs) = b ∷ c ∷ cs

-- a slot's id: its bytes without the zeros at the end. One that stands before another byte is no padding, and no byte of an id
abbrev pub trimmed : List ℕ → List ℕ
trimmed [] = []
trimmed (b ∷ bs) = keep b (trimmed bs)

-- the slot at a place of stored bytes
abbrev pub slot : List ℕ → ℕ → List ℕ
slot stored at = take slot_bytes (drop at stored)

-- bytes as one number, the first lowest
abbrev pub word_of : List ℕ → ℕ
word_of [] = 0
word_of (b ∷ bs) = word_of bs * 256 + b

-- so many bytes of a number, the lowest first
abbrev pub bytes_of : ℕ → ℕ → List ℕ
bytes_of zero w = []
bytes_of (suc n) w = (w % 256) ∷ bytes_of n (w / 256)

-- all eight of them
unfoldable pub eight_of : ℕ → List ℕ
eight_of w = bytes_of word_bytes w

-- the slot in which two numbers are stored, and the id that they stand for
abbrev pub slot_of : Id → List ℕ
slot_of id = eight_of id.low ++ eight_of id.high

abbrev pub id_bytes : Id → List ℕ
id_bytes id = trimmed (slot_of id)

-- the two numbers of an id
unfoldable pub packed : List ℕ → Id
packed s = record { low = word_of (take word_bytes s); high = word_of (drop word_bytes s) }

-- what the reader of an id field answers
abbrev pub read_id : List ℕ → Option Id
read_id s = cond (is_id s) (Some (packed s)) None

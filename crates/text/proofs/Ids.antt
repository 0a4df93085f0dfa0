-- The laws of ids in their slots and as two numbers: each gives the other, slots are the same when their ids are, and an id is read back.
use mathlib.Core.Path.{◌≡◌, refl, sym, ap, ap₂, ◌∙◌}
use mathlib.Core.Bool.{Bool, true, false, cond, ◌&&◌, and-false, false≢true}
use mathlib.Core.List.{List, [], ◌∷◌, ◌++◌}
use Prim.Native.Nat.{ℕ, zero, suc, ◌+◌, ◌-◌, ◌≤◌, ◌<◌}
use native.Mathlib.Omega.{arith}
use mir.Val.{Fits}
use mir.Syntax.{w64}
use lib.ListN.{length, take, drop, replicate, length-append, length-take, length-drop, length-replicate, take-append-drop}
use lib.Seq.{take_at, drop_at, take-append_seam, take-add, drop-drop}
use lib.Dec.{eqb, leb}
use borrow.Author.Tests.{eq-eqb, ne_eqb, eqb-true, eqb-false, leb-true}
use Rattle.semantics.specs.Basics.{every, same}
use Rattle.semantics.specs.Limits.{max_id_bytes}
use Rattle.semantics.specs.Text.{is_id_byte, is_id}
use Rattle.semantics.proofs.Lists.{and_left, and_right, every_append}
use Rattle.text.specs.declared.Id.{Id}
use Rattle.text.specs.Ids.{word_bytes, slot_bytes, padded, keep, trimmed, slot, word_of, bytes_of, eight_of, slot_of, id_bytes, packed}
use Rattle.text.proofs.Words.{length-bytes, word_bytes_lem, bytes_word, two_parts, same_bytes, trimmed-zero, trimmed-some}

-- a slot is its id, and zeros behind it
rest : (s : List ℕ) → (n : ℕ) × (trimmed s ++ replicate n 0 ≡ s)
rest [] = (0, refl)
rest (b ∷ s) = go (trimmed s) (rest s)
  where
    none : (n : ℕ) → replicate n 0 ≡ s → (z : Bool) → eqb b 0 ≡ z → (m : ℕ) × (cond z [] (b ∷ []) ++ replicate m 0 ≡ b ∷ s)
    none n h true e = (suc n, rw (eqb-true b 0 e) (ap (λ l. 0 ∷ l) h))
    none n h false e = (n, ap (λ l. b ∷ l) h)

    go : (t : List ℕ) → ((n : ℕ) × (t ++ replicate n 0 ≡ s)) → (n : ℕ) × (keep b t ++ replicate n 0 ≡ b ∷ s)
    go [] p = none p.0 p.1 (eqb b 0) refl
    go (c ∷ t) p = (p.0, ap (λ l. b ∷ l) p.1)

-- how long these are together
lengths : (s : List ℕ) → length (trimmed s) + (rest s).0 ≡ length s
lengths s = simp (length-append, length-replicate) at (ap length (rest s).1)

-- the id is no longer than the slot
pub length-trimmed : (s : List ℕ) → length (trimmed s) ≤ length s
length-trimmed s = omega (arith, lengths s)

-- it is the front of the slot
pub take-trimmed : (s : List ℕ) → take (length (trimmed s)) s ≡ trimmed s
take-trimmed s = ap (take (length (trimmed s))) (sym (rest s).1) ∙ take-append_seam (trimmed s) (replicate (rest s).0 0)

-- padded again it is the slot
pub padded-trimmed : (s : List ℕ) → length s ≡ slot_bytes → padded (trimmed s) ≡ s
padded-trimmed s h =
    let e : slot_bytes - length (trimmed s) ≡ (rest s).0 = omega (arith, lengths s) in
    rw e (rest s).1

-- zeros behind make no difference
pub trimmed-append-zeros : (s : List ℕ) (n : ℕ) → trimmed (s ++ replicate n 0) ≡ trimmed s
trimmed-append-zeros [] zero = refl
trimmed-append-zeros [] (suc n) = rw (trimmed-append-zeros [] n)
trimmed-append-zeros (b ∷ s) n = rw (trimmed-append-zeros s n)

-- where the last byte isn't zero, nothing is trimmed
pub trimmed_last : (s : List ℕ) (b : ℕ) → (b ≡ 0 → ⊥) → trimmed (s ++ (b ∷ [])) ≡ s ++ (b ∷ [])
trimmed_last [] b h = rw (ne_eqb b 0 h)
trimmed_last (c ∷ s) b h = rw (trimmed_last s b h) (go s)
  where
    go : (t : List ℕ) → keep c (t ++ (b ∷ [])) ≡ c ∷ (t ++ (b ∷ []))
    go [] = refl
    go (d ∷ t) = refl

-- so nothing is trimmed where every byte is one of an id, since none of those is zero
not_zero : (b : ℕ) → is_id_byte b ≡ true → b ≡ 0 → ⊥
not_zero b h e = false≢true (rw e at h)

pub trimmed_full : (s : List ℕ) → every is_id_byte s ≡ true → trimmed s ≡ s
trimmed_full [] h = refl
trimmed_full (b ∷ s) h = rw (trimmed_full s (and_right (is_id_byte b) (every is_id_byte s) h)) (go s)
  where
    go : (t : List ℕ) → keep b t ≡ b ∷ t
    go [] = rw (ne_eqb b 0 (not_zero b (and_left (is_id_byte b) (every is_id_byte s) h)))
    go (c ∷ t) = refl

-- an id comes out of its slot as it went in
pub trimmed-padded : (id : List ℕ) → is_id id ≡ true → trimmed (padded id) ≡ id
trimmed-padded id h =
    trimmed-append-zeros id (slot_bytes - length id)
    ∙ trimmed_full id (and_right (leb 1 (length id) && leb (length id) max_id_bytes) (every is_id_byte id) h)

-- the two numbers of an id's bytes
low-packed : (s : List ℕ) → (packed s).low ≡ word_of (take word_bytes s)
unfolding packed
low-packed s = refl

high_packed : (s : List ℕ) → (packed s).high ≡ word_of (drop word_bytes s)
unfolding packed
high_packed s = refl

eight_word : (s : List ℕ) → every is_id_byte s ≡ true → length s ≤ word_bytes → eight_of (word_of s) ≡ s ++ replicate (word_bytes - length s) 0
unfolding eight_of
eight_word s e h = bytes_word word_bytes s e h

-- they stand for it, in its slot
module _ (s : List ℕ) (h : is_id s ≡ true) where
  few : length s ≤ max_id_bytes
  few =
      leb-true (length s) max_id_bytes
      (and_right (leb 1 (length s)) _ (and_left (leb 1 (length s) && leb (length s) max_id_bytes) (every is_id_byte s) h))

  spelt : (every is_id_byte (take word_bytes s) && every is_id_byte (drop word_bytes s)) ≡ true
  spelt =
      sym (every_append is_id_byte (take word_bytes s) (drop word_bytes s))
      ∙ ap (every is_id_byte) (take-append-drop word_bytes s)
      ∙ and_right (leb 1 (length s) && leb (length s) max_id_bytes) (every is_id_byte s) h

  pub slot-packed : slot_of (packed s) ≡ padded s
  slot-packed =
      let front = and_left (every is_id_byte (take word_bytes s)) (every is_id_byte (drop word_bytes s)) spelt in
      let back = and_right (every is_id_byte (take word_bytes s)) (every is_id_byte (drop word_bytes s)) spelt in
      let short : length (take word_bytes s) ≤ word_bytes = rw length-take (omega arith) in
      let few-left : length (drop word_bytes s) ≤ word_bytes = rw length-drop (omega (arith, few)) in
      ap₂ (λ x y. eight_of x ++ eight_of y) (low-packed s) (high_packed s)
      ∙ ap₂ (λ x y. x ++ y) (eight_word (take word_bytes s) front short) (eight_word (drop word_bytes s) back few-left)
      ∙ two_parts word_bytes s (omega (arith, few))

  pub id_packed : id_bytes (packed s) ≡ s
  id_packed = rw slot-packed (trimmed-padded s h)

-- two slots are the same exactly when their ids are: byte by byte, from the end
same-keep : (x y : ℕ) (s t : List ℕ) → same (keep x s) (keep y t) ≡ (eqb x y && same s t)
same-keep x y [] [] = go (eqb x 0) refl (eqb y 0) refl
  where
    go : (a : Bool) → eqb x 0 ≡ a → (b : Bool) → eqb y 0 ≡ b → same (cond a [] (x ∷ [])) (cond b [] (y ∷ [])) ≡ (eqb x y && true)
    go true e true f = rw (eqb-true x 0 e, eqb-true y 0 f)
    go true e false f = rw (eqb-true x 0 e, ne_eqb 0 y (λ g. eqb-false y 0 f (sym g)))
    go false e true f = rw (eqb-true y 0 f, e)
    go false e false f = refl
same-keep x y [] (d ∷ t) = go (eqb x 0)
  where
    go : (a : Bool) → same (cond a [] (x ∷ [])) (y ∷ d ∷ t) ≡ (eqb x y && false)
    go true = sym (and-false (eqb x y))
    go false = refl
same-keep x y (c ∷ s) [] = go (eqb y 0)
  where
    go : (b : Bool) → same (x ∷ c ∷ s) (cond b [] (y ∷ [])) ≡ (eqb x y && false)
    go true = sym (and-false (eqb x y))
    go false = refl
same-keep x y (c ∷ s) (d ∷ t) = refl

pub same-trimmed : (a b : List ℕ) → length a ≡ length b → same (trimmed a) (trimmed b) ≡ same a b
same-trimmed [] [] h = refl
same-trimmed [] (y ∷ b) h = absurd (omega arith)
same-trimmed (x ∷ a) [] h = absurd (omega arith)
same-trimmed (x ∷ a) (y ∷ b) h = same-keep x y (trimmed a) (trimmed b) ∙ rw (same-trimmed a b (omega arith))

-- two lists of lists' parts are the same where both parts are
pub same-append : (a b c d : List ℕ) → length a ≡ length c → same (a ++ b) (c ++ d) ≡ (same a c && same b d)
same-append [] b [] d h = refl
same-append [] b (y ∷ c) d h = absurd (omega arith)
same-append (x ∷ a) b [] d h = absurd (omega arith)
same-append (x ∷ a) b (y ∷ c) d h = go (eqb x y) (same-append a b c d (omega arith))
  where
    go : (t : Bool) → same (a ++ b) (c ++ d) ≡ (same a c && same b d) → (t && same (a ++ b) (c ++ d)) ≡ ((t && same a c) && same b d)
    go true e = e
    go false e = refl

-- The eight bytes of a number.
pub length-eight : (w : ℕ) → length (eight_of w) ≡ word_bytes
unfolding eight_of
length-eight w = length-bytes word_bytes w

same-eight : (v w : ℕ) → Fits w64 v → Fits w64 w → same (eight_of v) (eight_of w) ≡ eqb v w
unfolding eight_of
same-eight v w f g = same_bytes word_bytes v w (omega arith) (omega arith)

-- those that were read from a place of an array
pub eight_part : (w : ℕ) (s : List ℕ) → length s ≡ word_bytes → bytes_of (length s) w ≡ s → eight_of w ≡ s
unfolding eight_of
eight_part w s l e = rw l at e

-- A slot that is empty from its middle on has its id in front; else all of its front belongs to the id.
trimmed-front : (s t : List ℕ) → trimmed t ≡ [] → trimmed (s ++ t) ≡ trimmed s
trimmed-front [] t e = e
trimmed-front (b ∷ s) t e = ap (keep b) (trimmed-front s t e)

trimmed_behind : (s t : List ℕ) → 0 < length (trimmed t) → trimmed (s ++ t) ≡ s ++ trimmed t
trimmed_behind [] t h = refl
trimmed_behind (b ∷ s) t h = ap (keep b) (trimmed_behind s t h) ∙ go s (trimmed t) h
  where
    go : (u v : List ℕ) → 0 < length v → keep b (u ++ v) ≡ b ∷ (u ++ v)
    go [] [] k = absurd (omega arith)
    go [] (y ∷ v) k = refl
    go (x ∷ u) v k = refl

pub short_length : (id : Id) → id.high ≡ 0 → length (id_bytes id) ≡ length (trimmed (eight_of id.low))
unfolding eight_of
short_length id e = ap length (trimmed-front (eight_of id.low) (eight_of id.high) (rw e (trimmed-zero word_bytes)))

pub long_length : (id : Id) → Fits w64 id.high → (id.high ≡ 0 → ⊥) → length (id_bytes id) ≡ word_bytes + length (trimmed (eight_of id.high))
unfolding eight_of
long_length id f e =
    ap length (trimmed_behind (eight_of id.low) (eight_of id.high) (trimmed-some word_bytes id.high (omega arith) (omega arith)))
    ∙ length-append (eight_of id.low) (trimmed (eight_of id.high))
    ∙ ap (λ k. k + length (trimmed (eight_of id.high))) (length-eight id.low)

pub length-slot : (id : Id) → length (slot_of id) ≡ slot_bytes
length-slot id = omega (arith, length-append (eight_of id.low) (eight_of id.high), length-eight id.low, length-eight id.high)

-- an id's numbers come back out of its slot
word_eight : (w : ℕ) → Fits w64 w → word_of (eight_of w) ≡ w
unfolding eight_of
word_eight w f = word_bytes_lem word_bytes w (omega arith)

pub packed_slot : (id : Id) → Fits w64 id.low → Fits w64 id.high → packed (slot_of id) ≡ id
unfolding packed
packed_slot id f g =
    let front = take_at (eight_of id.low) (eight_of id.high) word_bytes (length-eight id.low) in
    let back = drop_at (eight_of id.low) (eight_of id.high) word_bytes (length-eight id.low) in
    rw (front, back, word_eight id.low f, word_eight id.high g)

-- no more than a slot has
pub length-id : (id : Id) → length (id_bytes id) ≤ slot_bytes
length-id id = omega (arith, length-trimmed (slot_of id), length-slot id)

-- its bytes are the front of its slot
pub slot_front : (id : Id) (n : ℕ) → n ≡ length (id_bytes id) → take n (slot_of id) ≡ id_bytes id
slot_front id n e = rw e (take-trimmed (slot_of id))

-- A slot's two parts, as they are read from stored bytes.
module _ (stored : List ℕ) (at middle end : ℕ) (m : middle ≡ at + word_bytes) (n : end ≡ at + slot_bytes) (h : at + slot_bytes ≤ length stored) where
  abbrev front_part : List ℕ
  front_part = take (middle - at) (drop at stored)

  abbrev back_part : List ℕ
  back_part = take (end - middle) (drop middle stored)

  length-front_part : length front_part ≡ word_bytes
  length-front_part = simp (length-take, length-drop) (omega arith)

  length_back_part : length back_part ≡ word_bytes
  length_back_part = simp (length-take, length-drop) (omega arith)

  slot_parts : slot stored at ≡ front_part ++ back_part
  slot_parts =
      let a : middle - at ≡ word_bytes = omega arith in
      let b : end - middle ≡ word_bytes = omega arith in
      take-add word_bytes word_bytes (drop at stored)
      ∙ ap (λ l. take word_bytes (drop at stored) ++ take word_bytes l) (drop-drop word_bytes at stored)
      ∙ rw (a, b, m)

  -- the id that stands there
  pub read-slot : (low high : ℕ) → bytes_of (length front_part) low ≡ front_part → bytes_of (length back_part) high ≡ back_part
      → slot_of (record { low = low; high = high }) ≡ slot stored at
  read-slot low high e f =
      ap₂ (λ x y. x ++ y) (eight_part low front_part length-front_part e) (eight_part high back_part length_back_part f) ∙ sym slot_parts

  -- whether it is another one, by the first number, or else by the second
  module _ (id : Id) (low : ℕ) (e : bytes_of (length front_part) low ≡ front_part) where
    by_parts : Fits w64 low → Fits w64 id.low
        → same (id_bytes id) (trimmed (slot stored at)) ≡ (eqb id.low low && same (eight_of id.high) back_part)
    by_parts l k =
        let right : length (slot stored at) ≡ slot_bytes = simp (length-take, length-drop) (omega arith) in
        same-trimmed (slot_of id) (slot stored at) (length-slot id ∙ sym right)
        ∙ ap (same (slot_of id)) slot_parts
        ∙ same-append (eight_of id.low) (eight_of id.high) front_part back_part (length-eight id.low ∙ sym length-front_part)
        ∙ ap (λ t. t && same (eight_of id.high) back_part)
        (ap (same (eight_of id.low)) (sym (eight_part low front_part length-front_part e)) ∙ same-eight id.low low k l)

    other_front : Fits w64 low → Fits w64 id.low → (id.low ≡ low → ⊥) → false ≡ same (id_bytes id) (trimmed (slot stored at))
    other_front l k ne = rw (by_parts l k, ne_eqb id.low low ne)

    pub by_back : (high : ℕ) → Fits w64 low → Fits w64 id.low → Fits w64 high → Fits w64 id.high → id.low ≡ low
        → bytes_of (length back_part) high ≡ back_part
        → eqb id.high high ≡ same (id_bytes id) (trimmed (slot stored at))
    by_back high l k i j q f =
        rw (by_parts l k, eq-eqb id.low low q, ← same-eight id.high high j i, eight_part high back_part length_back_part f)

pub differs : (stored : List ℕ) (at middle : ℕ) → middle ≡ at + word_bytes → at + slot_bytes ≤ length stored → (id : Id) (low : ℕ)
    → bytes_of (length (take (middle - at) (drop at stored))) low ≡ take (middle - at) (drop at stored)
    → Fits w64 low → Fits w64 id.low → (id.low ≡ low → ⊥) → false ≡ same (id_bytes id) (trimmed (slot stored at))
differs stored at middle m h id low e l k ne = other_front stored at middle (at + slot_bytes) m refl h id low e l k ne

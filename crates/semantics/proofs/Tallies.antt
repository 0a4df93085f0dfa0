-- One line more: the tally of one scanner grows by one and no other does, and so do all together (02: U5).
use Rattle.std.proofs.Common.{◌≡◌, refl, ap, ◌∙◌, Bool, true, false, List, [], ◌∷◌, ℕ, zero, suc, ◌+◌, ◌<◌, add-zero, arith, length}
use Rattle.std.proofs.Common.{replicate}
use Rattle.std.proofs.lemmas.List.Sums.{sum_by-cons}
use Rattle.semantics.specs.Notes.{Tally, Notes, no_lines, unused, only_accepted, tally_of, one_line_more, tallied_for, lines_of, all_lines}

lines-one_line_more : (accepted : Bool) (t : Tally) → lines_of (one_line_more accepted t) ≡ lines_of t + 1
lines-one_line_more true t = omega arith
lines-one_line_more false t = omega arith

pub length-tallied_for : (n : ℕ) (accepted : Bool) (ts : List Tally) → length (tallied_for n accepted ts) ≡ length ts
length-tallied_for n accepted [] = refl
length-tallied_for zero accepted (t ∷ ts) = refl
length-tallied_for (suc n) accepted (t ∷ ts) = ap suc (length-tallied_for n accepted ts)

pub all_lines-tallied_for : (n : ℕ) (accepted : Bool) (ts : List Tally) → n < length ts
    → all_lines (tallied_for n accepted ts) ≡ all_lines ts + 1
all_lines-tallied_for n accepted [] h = absurd (omega arith)
all_lines-tallied_for zero accepted (t ∷ ts) h =
    rw (sum_by-cons lines_of (one_line_more accepted t) ts, sum_by-cons lines_of t ts) (omega (arith, lines-one_line_more accepted t))
all_lines-tallied_for (suc n) accepted (t ∷ ts) h =
    rw (sum_by-cons lines_of t (tallied_for n accepted ts), sum_by-cons lines_of t ts)
    (omega (arith, all_lines-tallied_for n accepted ts (omega arith)))

-- the tally of that scanner, and of another
pub tallied_for-same : (n : ℕ) (accepted : Bool) (ts : List Tally) → n < length ts
    → tally_of (tallied_for n accepted ts) n ≡ one_line_more accepted (tally_of ts n)
tallied_for-same n accepted [] h = absurd (omega arith)
tallied_for-same zero accepted (t ∷ ts) h = refl
tallied_for-same (suc n) accepted (t ∷ ts) h = tallied_for-same n accepted ts (omega arith)

pub tallied_for-other : (n i : ℕ) (accepted : Bool) (ts : List Tally) → (i ≡ n → ⊥) → tally_of (tallied_for n accepted ts) i ≡ tally_of ts i
tallied_for-other n i accepted [] h = refl
tallied_for-other zero zero accepted (t ∷ ts) h = absurd (h refl)
tallied_for-other zero (suc i) accepted (t ∷ ts) h = refl
tallied_for-other (suc n) zero accepted (t ∷ ts) h = refl
tallied_for-other (suc n) (suc i) accepted (t ∷ ts) h = tallied_for-other n i accepted ts (λ e. h (ap suc e))

-- no scanner has lines where none is taken, whatever its number
pub none_told : (m n : ℕ) → tally_of (replicate m no_lines) n ≡ no_lines
none_told zero n = refl
none_told (suc m) zero = refl
none_told (suc m) (suc n) = none_told m n

-- so many lines more, all accepted and all of the scanner that lines come from
abbrev pub accept_more : ℕ → Notes → Notes
accept_more zero k = k
accept_more (suc j) k = accept_more j (record { tallies = tallied_for k.scanner true k.tallies; scanner = k.scanner })

-- from an unused run on they are the first scanner's
accept-first : (j n : ℕ) → accept_more j (only_accepted n) ≡ only_accepted (n + j)
accept-first zero n = rw add-zero
accept-first (suc j) n =
    let e : n + 1 + j ≡ n + suc j = omega arith in
    accept-first j (n + 1) ∙ ap only_accepted e

pub accept-unused : (j : ℕ) → accept_more j unused ≡ only_accepted j
accept-unused j =
    let e : 0 + j ≡ j = omega arith in
    accept-first j 0 ∙ ap only_accepted e

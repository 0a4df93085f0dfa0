-- R's answer for a network that keeps the rules: it is cut into its lines again, each of them is short enough for a line, and the whole has
-- no more bytes than the largest network's (02: U4).
use Rattle.std.proofs.Common.{◌≡◌, refl, sym, ap, subst, ◌∙◌, Bool, true, false, cond, not, ◌&&◌, List, [], ◌∷◌, ◌++◌, map, append_assoc}
use Rattle.std.proofs.Common.{ℕ, ◌*◌, ◌≤◌, ◌<◌, arith, length, replicate, length-append, eqb, leb, leb-true, eqb-true}
use Rattle.std.proofs.lemmas.List.{map-append}
use mathlib.Core.Bool.{false≢true}
use mathlib.Core.List.{Memᴰ}
use Rattle.semantics.specs.Basics.{every}
use Rattle.semantics.specs.Limits.{max_plots, max_classes, max_id_bytes, max_line_bytes}
use Rattle.semantics.specs.Text.{decimal}
use Rattle.semantics.specs.Network.{Label, unlabelled, class, Plot, Network, allows}
use Rattle.semantics.specs.Solutions.{is_assignment, linked, fits, fitting, assignments}
use Rattle.semantics.specs.Relabelling.{Best, none, best, relabelling, Change, change, changes}
use Rattle.semantics.specs.Rules.{plots_hold, network_holds}
use Rattle.semantics.specs.Protocol.{label_text, max_label_line}
use Rattle.semantics.specs.Answers.{changes_text, relabelling_text, max_relabelling}
use Rattle.semantics.specs.NetworkText.{lines_text}
use Rattle.semantics.specs.Program.{lines}
use Rattle.semantics.proofs.Lists.{and_left, and_right, in_those, those_in, in_some}
use Rattle.semantics.proofs.Listing.{newest_class, older_classes, by_class, every_assignment}
use Rattle.semantics.proofs.Rules.{PlotRules, newest_rules, network-rules}
use Rattle.semantics.proofs.Resolution.{fitting-assignment, none_iff, resolves, one_each, total-length}
use Rattle.semantics.proofs.Decimals.{length_one, length-below}
use Rattle.semantics.proofs.ShortLines.{Fits, lines-append, none_fit, one_fits, both_fit, more_room, lines_cut, lines_short, number-plain}
use Rattle.semantics.proofs.ShortLines.{label-fits}
use Rattle.semantics.proofs.Saved.{largest}

-- the L line of a change, and the lines of the answer
abbrev line_of : Change → List ℕ
line_of h = label_text h.plot.id (class h.new_class)

abbrev pub relabelling_lines : ℕ → List Change → List (List ℕ)
relabelling_lines m hs = (82 ∷ 44 ∷ decimal m) ∷ map line_of hs

-- the answer is their text
changes_told : (hs : List Change) → changes_text hs ≡ lines_text (map line_of hs)
changes_told [] = refl
changes_told (h ∷ hs) =
    append_assoc (line_of h) (10 ∷ []) (changes_text hs) ∙ ap (λ text. line_of h ++ (10 ∷ text)) (changes_told hs)

relabelling_told : (m : ℕ) (hs : List Change) → relabelling_text m hs ≡ lines_text (relabelling_lines m hs)
relabelling_told m hs = ap (λ text. (82 ∷ 44 ∷ decimal m) ++ (10 ∷ text)) (changes_told hs)

-- the list has one entry for a plot at most, and so no more than there are plots
one_entry : (i : ℕ) (p : Plot) (c : ℕ) (l : Label) → length (change i p c l) ≤ 1
one_entry i p c unlabelled = omega arith
one_entry i p c (class l) = go (eqb l c)
  where
    go : (b : Bool) → length {A = Change} (cond b [] (record { position = i; plot = p; new_class = c } ∷ [])) ≤ 1
    go true = omega arith
    go false = omega arith

pub few-changes : (ps : List Plot) (a : List ℕ) → length (changes ps a) ≤ length ps
few-changes [] a = omega arith
few-changes (p ∷ older) [] = omega arith
few-changes (p ∷ older) (c ∷ a) =
    rw length-append (omega (arith, few-changes older a, one_entry (length older) p c p.label))

-- the line of a plot's entry, if it has one
entry_fits : (t i : ℕ) (p : Plot) → PlotRules t i p → (c : ℕ) → c < p.classes → (l : Label)
    → Fits (map line_of (change i p c l)) max_label_line
entry_fits t i p own c few unlabelled = none_fit max_label_line
entry_fits t i p own c few (class l) = go (eqb l c)
  where
    go : (b : Bool) → Fits (map line_of (cond b [] (record { position = i; plot = p; new_class = c } ∷ []))) max_label_line
    go true = none_fit max_label_line
    go false = label-fits p.id c own.has_id (omega (arith, own.few_classes))

changes_fit : (t : ℕ) (ps : List Plot) (a : List ℕ) → plots_hold t ps ≡ true → is_assignment ps a ≡ true
    → Fits (map line_of (changes ps a)) (max_label_line * length ps)
changes_fit t [] a h i = none_fit 0
changes_fit t (p ∷ older) [] h i = absurd (false≢true i)
changes_fit t (p ∷ older) (c ∷ a) h i =
    let r = newest_rules t p older h in
    let own = entry_fits t (length older) p r.1 c (newest_class p older c a i) p.label in
    let others = changes_fit t older a r.0 (older_classes p older c a i) in
    rw (map-append line_of (changes older a) (change (length older) p c p.label))
    (more_room _ _ _ (omega arith) (both_fit (map line_of (changes older a)) _ (max_label_line * length older) max_label_line others own))

-- Of the total and the assignment that relabelling finds: each line of the answer has at most 40 bytes, and the whole no more than the
-- largest.
module _ (n : Network) (h : network_holds n ≡ true) (m : ℕ) (a : List ℕ) (e : relabelling n ≡ best m a) where
  answer : Fits (relabelling_lines m (changes n.plots a)) max_relabelling
  answer =
      let r = network-rules n h in
      let s = resolves n m a e in
      let few : m ≤ max_plots = omega (arith, total-length one_each n m a s, few-changes n.plots a, r.few_plots) in
      let digits : length (decimal m) ≤ 3 = length-below 2 m (omega arith) in
      let first = one_fits (82 ∷ 44 ∷ decimal m) 6 (omega arith) (omega arith) (number-plain m) in
      let others = changes_fit (length n.tables) n.plots a r.each_plot (fitting-assignment n a s.member) in
      more_room _ _ _ (omega (arith, r.few_plots))
      (both_fit ((82 ∷ 44 ∷ decimal m) ∷ []) _ 6 (max_label_line * length n.plots) first others)

  pub relabelling-fits : length (relabelling_text m (changes n.plots a)) ≤ max_relabelling
  relabelling-fits = subst (λ text. length text ≤ max_relabelling) (sym (relabelling_told m (changes n.plots a))) answer.all

  pub answer_cut : lines (relabelling_text m (changes n.plots a)) ≡ relabelling_lines m (changes n.plots a)
  answer_cut = ap lines (relabelling_told m (changes n.plots a)) ∙ lines_cut (relabelling_lines m (changes n.plots a)) answer.each

  pub answer_short : every (λ l. leb (length l) max_line_bytes) (relabelling_lines m (changes n.plots a)) ≡ true
  answer_short = lines_short (relabelling_lines m (changes n.plots a)) answer.each

-- A NETWORK THAT NEEDS THEM

-- a plot with an id of as many bytes as one may have, and a label that isn't possible for it
abbrev must_change : Plot → Label → Bool
must_change p unlabelled = false
must_change p (class l) = eqb (length p.id) max_id_bytes && not (allows p.domain l) && leb p.classes max_classes

-- it has an entry, whatever class it gets that is possible, and its line is as long as one can be
own_entry : (i : ℕ) (p : Plot) (c : ℕ) (l : Label) → must_change p l ≡ true → allows p.domain c ≡ true → c < p.classes
    → (length (change i p c l) ≡ 1) × (length (lines_text (map line_of (change i p c l))) ≡ max_label_line)
own_entry i p c unlabelled h k few = absurd (false≢true h)
own_entry i p c (class l) h k few = go (eqb l c) refl
  where
    wide : Bool
    wide = eqb (length p.id) max_id_bytes && not (allows p.domain l)

    front : wide ≡ true
    front = and_left wide (leb p.classes max_classes) h

    long : length p.id ≡ max_id_bytes
    long = eqb-true _ _ (and_left (eqb (length p.id) max_id_bytes) (not (allows p.domain l)) front)

    out : not (allows p.domain l) ≡ true
    out = and_right (eqb (length p.id) max_id_bytes) (not (allows p.domain l)) front

    one : length (decimal c) ≡ 1
    one = length_one c (omega (arith, leb-true _ _ (and_right wide (leb p.classes max_classes) h)))

    go : (b : Bool) → eqb l c ≡ b
        → (length {A = Change} (cond b [] (record { position = i; plot = p; new_class = c } ∷ [])) ≡ 1)
        × (length (lines_text (map line_of (cond b [] (record { position = i; plot = p; new_class = c } ∷ [])))) ≡ max_label_line)
    go true e = absurd (false≢true (rw (eqb-true l c e, k) at out))
    go false e = (refl, simp length-append (omega (arith, long, one)))

-- so has each of such plots
module _ (tables : List (List ℕ)) where
  own_entries : (ps : List Plot) (a : List ℕ) → every (λ p. must_change p p.label) ps ≡ true → fits tables ps a ≡ true
      → is_assignment ps a ≡ true
      → (length (changes ps a) ≡ length ps) × (length (lines_text (map line_of (changes ps a))) ≡ max_label_line * length ps)
  own_entries [] a h f i = (refl, refl)
  own_entries (p ∷ older) [] h f i = absurd (false≢true i)
  own_entries (p ∷ older) (c ∷ a) h f i =
      let both = fits tables older a && allows p.domain c in
      let fit = and_left both (linked tables p.link c a) f in
      let rest = own_entries older a (and_right (must_change p p.label) (every (λ q. must_change q q.label) older) h)
      (and_left (fits tables older a) (allows p.domain c) fit) (older_classes p older c a i) in
      let own = own_entry (length older) p c p.label (and_left (must_change p p.label) (every (λ q. must_change q q.label) older) h)
      (and_right (fits tables older a) (allows p.domain c) fit) (newest_class p older c a i) in (
        rw length-append (omega (arith, rest.0, own.0)),
        rw (map-append line_of (changes older a) (change (length older) p c p.label))
            (rw (lines-append (map line_of (changes older a)) (map line_of (change (length older) p c p.label)), length-append)
            (omega (arith, rest.1, own.1))),
      )

-- where something fits, relabelling finds something
found : (n : Network) (b : List ℕ) → is_assignment n.plots b ≡ true → fits n.tables n.plots b ≡ true
    → (m : ℕ) × (a : List ℕ) × (relabelling n ≡ best m a)
found n b i f = go (relabelling n) refl
  where
    go : (x : Best (List ℕ)) → relabelling n ≡ x → (m : ℕ) × (a : List ℕ) × (relabelling n ≡ best m a)
    go none e =
        let some : Memᴰ b (fitting n) = those_in (fits n.tables n.plots) (assignments n.plots) (every_assignment by_class n.plots b i) f in
        let z : 0 < length (fitting n) = in_some (fitting n) some in
        absurd (omega (arith, ap length ((none_iff n).0 e)))
    go (best m a) e = (m, a, e)

-- with as many such plots as can stand, R's answer has as many bytes as it can have
whole : (n : Network) → every (λ p. must_change p p.label) n.plots ≡ true → length n.plots ≡ max_plots → (m : ℕ) (a : List ℕ)
    → relabelling n ≡ best m a → length (relabelling_text m (changes n.plots a)) ≡ max_relabelling
whole n h all m a e =
    let s = resolves n m a e in
    let f = (in_those (fits n.tables n.plots) (assignments n.plots) s.member).1 in
    let own = own_entries n.tables n.plots a h f (fitting-assignment n a s.member) in
    let total : m ≡ max_plots = total-length one_each n m a s ∙ own.0 ∙ all in
    let first : length (decimal m) ≡ 3 = rw total refl in
    let list : List ℕ = lines_text (map line_of (changes n.plots a)) in
    rw (changes_told (changes n.plots a)) (omega (arith, first, own.1, all, length-append (decimal m) (10 ∷ list)))

pub largest_answer : (m : ℕ) × (a : List ℕ) × (relabelling largest ≡ best m a)
    × (length (relabelling_text m (changes largest.plots a)) ≡ max_relabelling)
largest_answer =
    let (m, a, e) = found largest (replicate max_plots 1) refl refl in
    (m, a, e, whole largest refl refl m a e)

-- The text of the book (02: U1), of calls of which nothing is known but what `save` and `step` ensure: what was written is read back to an
-- equal book, equal books give equal text and different ones different text, and how long it can be.
use Rattle.std.proofs.Common.{Result, ◌≡◌, refl, sym, ap, ◌∙◌, Bool, true, false, List, [], ◌∷◌, map, ℕ, ◌≤◌, arith}
use Rattle.std.proofs.Common.{length, take, leb, le-ltb, ltb-false}
use lib.ListN.{length-map}
use Rattle.semantics.specs.Basics.{every}
use Rattle.semantics.specs.Limits.{max_line_bytes, max_lines}
use Rattle.semantics.specs.Network as model
use Rattle.semantics.specs.NetworkText.{network_lines, network_text, max_text_bytes}
use Rattle.semantics.specs.Rules.{network_holds}
use Rattle.semantics.specs.Buffers.{written}
use Rattle.semantics.specs.Engine as engine
use Rattle.semantics.specs.Notes.{Notes, unused}
use Rattle.semantics.specs.Engine.{is_shorter, answer, text_into, holds, refused_with, wrote_bytes, returned_for, buffer_after}
use Rattle.refusals.specs.declared.Refusal.{Refusal}
use Rattle.semantics.proofs.Kept.{start-holds, step-holds, checked-holds, network_kept}
use Rattle.semantics.proofs.Tallies.{accept_more, accept-unused}
use Rattle.semantics.proofs.Restored.{beside, Accepts, none_left, one_more, restored}
use Rattle.semantics.proofs.Saved.{text-fits, each_short, text_cut, text-passed}
use Rattle.semantics.proofs.ReadAgain.{accepted-step, Room, one-less, room-unused, few-lines, same_text}
use Rattle.writing.proofs.Writes.{written_nil}
use Rattle.writing.proofs.Parts.{front_told}
use Rattle.semantics.specs.Program.{lines}
use Rattle.notes.specs.Views.{as_notes}
use Rattle.network.specs.declared.State.{State}
use Rattle.network.specs.View.{view, view_state}
use Rattle.performing.specs.Performed.{returned}
use Rattle.engine.specs.Lists.{Exchange, Unused, Leads}
use Rattle.engine.specs.Texts.{SaveCall, TextWritten, LinesOf, Each, HasRoom, IsQuiet, ReadsIn}

-- A call that answers with the text of a network, and isn't refused, wrote it.
pub text_written : (m : model.Network) (lent : List ℕ) (gave : Result ℕ Refusal) (lent_after : List ℕ) (n : ℕ)
    → returned gave ≡ returned_for (text_into m (length lent)) → lent_after ≡ buffer_after lent (text_into m (length lent))
    → returned gave ≡ wrote_bytes n → TextWritten lent gave lent_after (network_text m) × (n ≡ length (network_text m))
text_written m lent gave lent_after n a b e = go (is_shorter (length lent) (network_text m)) refl
  where
    go : (short : Bool) → is_shorter (length lent) (network_text m) ≡ short
        → TextWritten lent gave lent_after (network_text m) × (n ≡ length (network_text m))
    go true k =
        let z : refused_with 20 ≡ wrote_bytes n = rw k at (sym a ∙ e) in
        cc
    go false k =
        let z : wrote_bytes (length (network_text m)) ≡ wrote_bytes n = rw k at (sym a ∙ e) in
        let same : n ≡ length (network_text m) = cc in
        let buffer : lent_after ≡ written lent 0 (network_text m) = rw k at b in (
          record {
            length_told = e ∙ ap wrote_bytes same;
            fits = ltb-false (length lent) (length (network_text m)) k;
            front = front_told lent (network_text m) lent_after (length (network_text m)) refl buffer;
          },
          same,
        )

-- the text of the network that a call was handed
abbrev text_of : SaveCall → List ℕ
text_of c = network_text (view c.state.network)

-- A call that isn't refused was handed a state that keeps the rules, and wrote the text of its network.
record Told (c : SaveCall) (n : ℕ) : Type 0 where
  rules : network_holds (view c.state.network) ≡ true
  wrote : TextWritten c.lent c.gave c.lent_after (text_of c)
  same : n ≡ length (text_of c)

told : (c : SaveCall) (n : ℕ) → returned c.gave ≡ wrote_bytes n → Told c n
told c n e = go (holds (view_state c.state)) refl
  where
    go : (keeps : Bool) → holds (view_state c.state) ≡ keeps → Told c n
    go false h =
        let z : refused_with 9 ≡ wrote_bytes n = rw h at (sym c.saving.answered ∙ e) in
        cc
    go true h =
        let w = text_written (view c.state.network) c.lent c.gave c.lent_after n (rw h at c.saving.answered) (rw h at c.saving.buffer) e in
        record { rules = network_kept (view_state c.state) h; wrote = w.0; same = w.1 }

-- Lines that are accepted one after the other, as calls.
reads : {n k : model.Network} (s t : State) (ms : List Exchange) → Accepts n (map (λ (m : Exchange). m.line) ms) k
    → view s.network ≡ n → holds (view_state s) ≡ true → Room (length ms) (as_notes s.notes) → Each HasRoom ms → Leads s ms t
    → Each IsQuiet ms × (view_state t ≡ beside (accept_more (length ms) (as_notes s.notes)) k)
reads s t [] none_left v h few room l = (tt, rw (← l, v) refl)
reads {n} {k} s t (x ∷ ms) (one_more {m = m} p q) v h few (wide, others) (call, rest) =
    let one = accepted-step (view_state s) x.line (length x.lent) m wide (omega (arith, few.lines)) (rw v p) in
    let same = checked-holds (view_state s) x.line (length x.lent) h ∙ one in
    let next : view_state x.gave.state ≡ beside (accept_more 1 (as_notes s.notes)) m =
    call.seen ∙ ap (λ (y : engine.Step). y.state) same in
    let kept : holds (view_state x.gave.state) ≡ true =
    ap holds (call.seen ∙ ap (λ (y : engine.Step). y.state) (checked-holds (view_state s) x.line (length x.lent) h))
    ∙ step-holds (view_state s) x.line (length x.lent) h in
    let noted : as_notes x.gave.state.notes ≡ accept_more 1 (as_notes s.notes) = ap (λ (y : engine.State). y.notes) next in
    let left : Room (length ms) (as_notes x.gave.state.notes) = rw noted (one-less (length ms) (as_notes s.notes) few) in
    let more = reads x.gave.state t ms q (ap (λ (y : engine.State). y.network) next) kept left others rest in
    let quiet : IsQuiet x = (
      call.answered ∙ ap (λ (y : engine.Step). returned_for y.said) same,
      call.buffer ∙ ap (λ (y : engine.Step). buffer_after x.lent y.said) same ∙ written_nil x.lent 0,
    ) in
    ((quiet, more.0), more.1 ∙ ap (λ (y : Notes). beside (accept_more (length ms) y) k) noted)

-- The lines of the text of a network that keeps the rules, cut as the program cuts them, read it in from an unused run.
pub network_read : (n : model.Network) → network_holds n ≡ true → (s t : State) (ms : List Exchange) → Unused s → Leads s ms t
    → LinesOf (network_text n) ms → Each HasRoom ms → ReadsIn n ms t
network_read n h s t ms u l e room =
    let own : map (λ (m : Exchange). m.line) ms ≡ network_lines n = e ∙ text-passed n h in
    let long : length ms ≡ length (network_lines n) = rw (← own, length-map) refl in
    let accepts : Accepts model.empty (map (λ (m : Exchange). m.line) ms) n = rw own (restored n h) in
    let noted : as_notes s.notes ≡ unused = ap (λ (y : engine.State). y.notes) u in
    let few : length ms ≤ max_lines = omega (arith, few-lines n h) in
    let space : Room (length ms) (as_notes s.notes) = rw noted (room-unused (length ms) few) in
    let r = reads s t ms accepts (ap (λ (y : engine.State). y.network) u) (ap holds u ∙ start-holds) space room l in
    record {
      accepted = r.0;
      equal = ap (λ (y : engine.State). y.network) r.1;
      notes = ap (λ (y : engine.State). y.notes) r.1 ∙ ap (accept_more (length ms)) noted ∙ accept-unused (length ms);
    }

-- READING BACK. What a call of `save` wrote, as lines of calls of `step` from an unused run, each with a buffer that is long enough: all
-- are accepted, and the struct that they lead to stands for an equal network.
pub reads_back : (c : SaveCall) (n : ℕ) → returned c.gave ≡ wrote_bytes n → (s t : State) (ms : List Exchange) → Unused s → Leads s ms t
    → LinesOf (take n c.lent_after) ms → Each HasRoom ms
    → ReadsIn (view c.state.network) ms t
reads_back c n e s t ms u l of room =
    let w = told c n e in
    let text : take n c.lent_after ≡ text_of c = rw w.same w.wrote.front in
    network_read (view c.state.network) w.rules s t ms u l (rw text at of) room

-- Two calls that wrote something.
module _ (c d : SaveCall) (n m : ℕ) (e : returned c.gave ≡ wrote_bytes n) (f : returned d.gave ≡ wrote_bytes m) where
  -- the text of each
  first : take n c.lent_after ≡ text_of c
  first = let w = told c n e in rw w.same w.wrote.front

  second : take m d.lent_after ≡ text_of d
  second = let w = told d m f in rw w.same w.wrote.front

  -- Equal networks give equal text, whatever lies where nothing stands.
  pub equal_texts : view c.state.network ≡ view d.state.network → (n ≡ m) × (take n c.lent_after ≡ take m d.lent_after)
  equal_texts same =
      let texts : text_of c ≡ text_of d = ap network_text same in
      ((told c n e).same ∙ ap length texts ∙ sym (told d m f).same, first ∙ texts ∙ sym second)

  -- Different networks give different text.
  pub different_texts : take n c.lent_after ≡ take m d.lent_after → view c.state.network ≡ view d.state.network
  different_texts same =
      same_text (view c.state.network) (view d.state.network) (told c n e).rules (told d m f).rules (sym first ∙ same ∙ second)

-- HOW LONG. A text that was written has no more bytes than the largest, and each of its lines at most 40.
pub text_bounds : (c : SaveCall) (n : ℕ) → returned c.gave ≡ wrote_bytes n
    → (n ≤ max_text_bytes) × (every (λ l. leb (length l) max_line_bytes) (lines (take n c.lent_after)) ≡ true)
text_bounds c n e =
    let w = told c n e in
    let text : take n c.lent_after ≡ text_of c = rw w.same w.wrote.front in
    let n' = view c.state.network in
    (rw w.same (text-fits n' w.rules), rw (text, text_cut n' w.rules) (each_short n' w.rules))

-- So with a buffer for the largest text 20 never comes of a network that keeps the rules,
pub always_fits : (m : model.Network) (room : ℕ) → network_holds m ≡ true → max_text_bytes ≤ room
    → text_into m room ≡ answer (network_text m)
always_fits m room k h =
    let long : is_shorter room (network_text m) ≡ false = le-ltb room (length (network_text m)) (omega (arith, text-fits m k)) in
    rw long refl

-- the text of every state that keeps them is written,
pub always_saved : (c : SaveCall) → holds (view_state c.state) ≡ true → max_text_bytes ≤ length c.lent
    → returned c.gave ≡ wrote_bytes (length (text_of c))
always_saved c k h =
    c.saving.answered ∙ rw (k, always_fits (view c.state.network) (length c.lent) (network_kept (view_state c.state) k) h) refl

-- and 20 is never given.
pub always_room : (c : SaveCall) → max_text_bytes ≤ length c.lent → returned c.gave ≡ refused_with 20 → ⊥
always_room c h e = go (holds (view_state c.state)) refl
  where
    go : (keeps : Bool) → holds (view_state c.state) ≡ keeps → ⊥
    go false k =
        let z : refused_with 9 ≡ refused_with 20 = rw k at (sym c.saving.answered ∙ e) in
        let y : ◌≡◌ {A = ℕ} 9 20 = cc in
        omega arith
    go true k =
        let z : wrote_bytes (length (text_of c)) ≡ refused_with 20 = sym (always_saved c k h) ∙ e in
        cc

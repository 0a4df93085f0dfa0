-- The three demands, proved of calls of which nothing is known but what `step` and `supports_of` ensure.
use Rattle.std.proofs.Common.{◌≡◌, refl, sym, ap, ◌∙◌, Bool, true, false, cond, List, [], ◌∷◌, inl, inr, ◌⊎◌, ⊎_elim, ℕ, ◌<◌, ◌≤◌}
use Rattle.std.proofs.Common.{arith, length, get_or, ltb, le-ltb, leb-true, leb-false, Result}
use borrow.Author.Tests.{lt-leb}
use Rattle.semantics.specs.Limits.{max_line_bytes, min_room, max_lines}
use Rattle.semantics.specs.Text.{is_id}
use Rattle.semantics.specs.Network as model
use Rattle.semantics.specs.Network.{Plot, StandsAt, present, find, labels_off}
use Rattle.semantics.specs.Solutions.{solutions, support, supports, belief}
use Rattle.semantics.specs.Relabelling.{Best, none, best, relabelling}
use Rattle.semantics.specs.Rules.{network_holds}
use Rattle.semantics.specs.Protocol.{Line, ask_supports, read_line}
use Rattle.semantics.specs.Answers.{supports_text}
use Rattle.semantics.specs.Engine as engine
use Rattle.semantics.specs.Engine.{Done, refused, done, refusal, answer, perform, tallied, lines_taken, run_over, is_short, taken, step}
use Rattle.semantics.specs.Engine.{start, after, holds, checked, supports_answer, answer_of, is_accepted, buffer_after, refused_with}
use Rattle.semantics.specs.Engine.{returned_for}
use Rattle.semantics.proofs.Lists.{length_by, get_or_by}
use Rattle.semantics.proofs.Rules.{network-rules, stands_found}
use Rattle.semantics.proofs.Beliefs.{believed-supports}
use Rattle.semantics.proofs.Resolution.{none_iff_off, resolves, one_each, total-length, fewest_labels}
use Rattle.semantics.proofs.Kept.{start-holds, step-holds, after_holds, checked-holds, never_nine, network_kept}
use Rattle.semantics.proofs.ReadBack.{fields_last, id_short, id_words}
use Rattle.network.specs.declared.State.{State}
use Rattle.network.specs.View.{view_state}
use Rattle.network.specs.Sound.{with_line}
use Rattle.performing.specs.Performed.{returned, struct_after}
use Rattle.refusals.specs.declared.Refusal.{Refusal}
use Rattle.performing.specs.declared.PlotCounts.{PlotCounts}
use Rattle.engine.specs.Calls.{SupportsOf}
use Rattle.engine.specs.Lists.{Exchange, Unused, MadeFor, Leads, calls, made}
use Rattle.engine.specs.Demands.{IsRefused, Demand1, CountsRight, Demand2, Demand2Asked, Demand3}
use Rattle.engine.proofs.OtherCalls.{found-id}

-- The calls lead to the state that their lines make.
leads_after : (s t : State) (ms : List Exchange) → holds (view_state s) ≡ true → Leads s ms t → view_state t ≡ after (view_state s) (calls ms)
leads_after s t [] h e = ap view_state (sym e)
leads_after s t (m ∷ ms) h (call, rest) =
    let next : view_state m.gave.state ≡ (step (view_state s) m.line (length m.lent)).state =
    call.seen ∙ ap (λ (x : engine.Step). x.state) (checked-holds (view_state s) m.line (length m.lent) h) in
    let kept : holds (view_state m.gave.state) ≡ true = ap holds next ∙ step-holds (view_state s) m.line (length m.lent) h in
    leads_after m.gave.state t ms kept rest ∙ ap (λ x. after x (calls ms)) next

pub leads_made : (s t : State) (ms : List Exchange) → Unused s → Leads s ms t → view_state t ≡ made ms
leads_made s t ms u l = leads_after s t ms (ap holds u ∙ start-holds) l ∙ ap (λ x. after x (calls ms)) u

-- what is refused leaves the struct of the network and the buffer
pub refusal-returned : (x : engine.Answer) (k : ℕ) → returned_for x ≡ refused_with k → x ≡ refusal k
refusal-returned (refusal m) k e = cc
refusal-returned (answer text) k e = cc

struct-refused : (s : State) (line : Line) (d : Done) (k : ℕ) → answer_of d ≡ refusal k
    → with_line (is_accepted (answer_of d)) (struct_after s line d) ≡ with_line false s
struct-refused s line (refused m) k e = refl
struct-refused s line (done n text) k e = cc

-- everything is as it was, but for one tally
abbrev Spared : State → State → Type 0
Spared s t = (t ≡ s) ⊎ (t ≡ with_line false s)

-- whichever of 10, 9, 19 and the line's own refusals comes
stepped_refused : (s : State) (line : Line) (d : Done) (k : ℕ) (short keeps over : Bool)
    → (cond short (engine.untaken (view_state s) 10)
    (cond keeps (cond over (engine.untaken (view_state s) 19) (tallied (view_state s) d)) (engine.untaken (view_state s) 9))).said
    ≡ refusal k
    → Spared s (cond short s (cond keeps (cond over s (with_line (is_accepted (answer_of d)) (struct_after s line d))) s))
stepped_refused s line d k true keeps over e = inl refl
stepped_refused s line d k false false over e = inl refl
stepped_refused s line d k false true true e = inl refl
stepped_refused s line d k false true false e = inr (struct-refused s line d k e)

-- Demand 1.
pub demand_1 : (s : State) (m : Exchange) → MadeFor s m → Demand1 s m
demand_1 s m c =
    record {
      does = c.seen;
      answers = c.answered;
      writes = c.buffer;
      spares_network = λ (k, e).
          ⊎_elim (λ h. ap (λ (x : State). x.network) h) (λ h. ap (λ (x : State). x.network) h) (spared k (said k e));
      spares_state = λ (k, e). spared k (said k e);
      spares_buffer = λ (k, e). c.buffer ∙ ap (buffer_after m.lent) (said k e);
    }
  where
    said : (k : ℕ) → returned m.gave.answer ≡ refused_with k → (checked (view_state s) m.line (length m.lent)).said ≡ refusal k
    said k e = refusal-returned _ k (sym c.answered ∙ e)

    spared : (k : ℕ) → (checked (view_state s) m.line (length m.lent)).said ≡ refusal k → Spared s m.gave.state
    spared k e =
        rw c.struct
        (stepped_refused s (read_line m.line) (perform (view_state s) (read_line m.line)) k (is_short (length m.lent))
        (holds (view_state s))
        (run_over (view_state s)) e)

-- No list of lines from an unused run meets 9.
pub nine_never : (s t : State) (ms : List Exchange) → Unused s → Leads s ms t → (m : Exchange) → MadeFor t m
    → returned m.gave.answer ≡ refused_with 9 → ⊥
nine_never s t ms u l m c e =
    let v = leads_made s t ms u l in
    let said = refusal-returned (checked (view_state t) m.line (length m.lent)).said 9 (sym c.answered ∙ e) in
    never_nine (calls ms) m.line (length m.lent) (sym (ap (λ x. (checked x m.line (length m.lent)).said) v) ∙ said)

-- Of a call after a list of lines that has room, while lines are taken: what its line does to the state that they make.
module _ (s t : State) (ms : List Exchange) (u : Unused s) (l : Leads s ms t) (m : Exchange) (c : MadeFor t m)
    (room : min_room ≤ length m.lent) where
  -- what is said is what the definitions say of the state that the lines make
  said-made : (checked (view_state t) m.line (length m.lent)).said ≡ (taken (made ms) m.line).said
  said-made =
      let long : is_short (length m.lent) ≡ false = le-ltb _ _ room in
      let kept : holds (made ms) ≡ true = after_holds start (calls ms) start-holds in
      ap (λ x. (checked x m.line (length m.lent)).said) (leads_made s t ms u l) ∙ rw (long, kept) refl

  pub answers-made : returned m.gave.answer ≡ returned_for (taken (made ms) m.line).said
  answers-made = c.answered ∙ ap returned_for said-made

  pub writes-made : m.lent_after ≡ buffer_after m.lent (taken (made ms) m.line).said
  writes-made = c.buffer ∙ ap (buffer_after m.lent) said-made

-- what R and C say, unless a million lines were taken
abbrev said_of : Bool → engine.State → Done → engine.Answer
said_of over s d = (cond over (engine.untaken s 19) (tallied s d)).said

reads-supports : (id : List ℕ) → is_id id ≡ true → read_line (67 ∷ 44 ∷ id) ≡ ask_supports id
reads-supports id h =
    let few = id_short id h in
    let short : ltb max_line_bytes (length (67 ∷ 44 ∷ id)) ≡ false = le-ltb max_line_bytes (length (67 ∷ 44 ∷ id)) (omega arith) in
    rw (short, fields_last id (id_words id h), h) refl

-- Demand 2, of the definitions' counts
counts_right : (n : model.Network) (i : ℕ) (p : Plot) → CountsRight n i p (supports n i p) (belief (supports n i p))
counts_right n i p =
    record {
      many = length_by (support n i) p.classes;
      each = each;
      belief_rule = λ c. (
        λ e. let (l, pos, others) = (believed-supports n i p c).0 e in (l, rw (each c l) pos, λ d k ne. each d k ∙ others d k ne),
        λ (l, pos, others). (believed-supports n i p c).1 (l, rw (each c l) at pos, λ d k ne. sym (each d k) ∙ others d k ne),
      );
    }
  where
    each : (c : ℕ) → c < p.classes → get_or (supports n i p) c 0 ≡ support n i c
    each c l = get_or_by (support n i) 0 p.classes c l

-- a plot that stands in the state that lines make is found by its id, which is one
module _ (ms : List Exchange) (i : ℕ) (p : Plot) (stands : StandsAt i p (made ms).network.plots) where
  kept : network_holds (made ms).network ≡ true
  kept = network_kept (made ms) (after_holds start (calls ms) start-holds)

  found : find p.id (made ms).network.plots ≡ present i p
  found = stands_found _ i p (made ms).network.plots (network-rules (made ms).network kept).each_plot stands

pub demand_2 : (s t : State) (ms : List Exchange) → Unused s → Leads s ms t → (i : ℕ) (p : Plot) → StandsAt i p (made ms).network.plots
    → (m : Exchange) → MadeFor t m → m.line ≡ 67 ∷ 44 ∷ p.id → min_room ≤ length m.lent → lines_taken (made ms) < max_lines
    → Demand2 (made ms).network i p m
demand_2 s t ms u l i p stands m c r room few =
    record {
      right = counts_right n i p;
      answers = answers-made s t ms u l m c room ∙ ap returned_for says;
      writes = writes-made s t ms u l m c room ∙ ap (buffer_after m.lent) says;
    }
  where
    n : model.Network
    n = (made ms).network

    line : List ℕ
    line = 67 ∷ 44 ∷ p.id

    performed : perform (made ms) (read_line line) ≡ done (made ms) (supports_text p.id (supports n i p) (belief (supports n i p)))
    performed =
        let f = found ms i p stands in
        ap (perform (made ms)) (reads-supports p.id (found-id n p.id i p (kept ms i p stands) f).0) ∙ ap (engine.supports_at (made ms)) f

    says : (taken (made ms) m.line).said ≡ answer (supports_text p.id (supports n i p) (belief (supports n i p)))
    says =
        ap (λ x. (taken (made ms) x).said) r
        ∙ ap (λ b. said_of b (made ms) (perform (made ms) (read_line line))) (lt-leb max_lines (lines_taken (made ms)) few)
        ∙ ap (λ d. (tallied (made ms) d).said) performed

-- The same counts are given when they are asked for beside the lines, at any time.
pub demand_2_asked : (s t : State) (ms : List Exchange) → Unused s → Leads s ms t → (i : ℕ) (p : Plot)
    → StandsAt i p (made ms).network.plots
    → (r : Result PlotCounts Refusal) → SupportsOf t p.id r → Demand2Asked (made ms).network i p r
demand_2_asked s t ms u l i p stands r c =
    record {
      right = counts_right (made ms).network i p;
      answers =
          c.answered ∙ ap (λ x. supports_answer x p.id) (leads_made s t ms u l)
          ∙ rw (after_holds start (calls ms) start-holds, found ms i p stands) refl;
    }

-- Demand 3: the answer of R is told by whether a million lines were taken and by the relabelling.
module _ (s : engine.State) (m : Exchange) where
  lists : (b : Best (List ℕ)) → relabelling s.network ≡ b → (over : Bool) → run_over s ≡ over
      → returned m.gave.answer ≡ returned_for (said_of over s (engine.relabel_by s b))
      → m.lent_after ≡ buffer_after m.lent (said_of over s (engine.relabel_by s b)) → Demand3 s m
  lists b e true o answers writes =
      record {
        refused_iff = (λ _. inr (leb-true max_lines (lines_taken s) o), λ _. (19, answers));
        refused_as = λ _. (rw o answers, writes);
        otherwise = λ taken. absurd (taken (19, answers));
      }
  lists none e false o answers writes =
      record {
        refused_iff = (λ _. inl ((none_iff_off s.network).0 e), λ _. (18, answers));
        refused_as = λ _. (rw o answers, writes);
        otherwise = λ taken. absurd (taken (18, answers));
      }
  lists (best total a) e false o answers writes =
      record {
        refused_iff = (λ (k, r). absurd (length_no_number k r), ⊎_elim some_fit few);
        refused_as = λ (k, r). absurd (length_no_number k r);
        otherwise = λ taken.
            let r = resolves s.network total a e in
            record {
              total = total;
              assignment = a;
              found = e;
              member = r.member;
              is_cost = r.is_cost;
              least = r.least;
              first = r.first;
              answers = answers;
              writes = writes;
              leaves_solution = r.leaves_solution;
              rivals = fewest_labels one_each s.network total a r;
              is_length = total-length one_each s.network total a r;
            };
      }
    where
      length_no_number : (k : ℕ) → returned m.gave.answer ≡ refused_with k → ⊥
      length_no_number k r = cc

      some_fit : solutions (labels_off s.network) ≡ [] → IsRefused m
      some_fit z = cc (e, (none_iff_off s.network).1 z)

      few : max_lines ≤ lines_taken s → IsRefused m
      few z = let l : lines_taken s < max_lines = leb-false max_lines (lines_taken s) o in absurd (omega arith)

pub demand_3 : (s t : State) (ms : List Exchange) → Unused s → Leads s ms t → (m : Exchange) → MadeFor t m → m.line ≡ 82 ∷ []
    → min_room ≤ length m.lent → Demand3 (made ms) m
demand_3 s t ms u l m c r room =
    let says : (taken (made ms) m.line).said ≡ said_of (run_over (made ms)) (made ms)
    (engine.relabel_by (made ms) (relabelling (made ms).network)) =
    ap (λ x. (taken (made ms) x).said) r in
    lists (made ms) m (relabelling (made ms).network) refl (run_over (made ms)) refl
    (answers-made s t ms u l m c room ∙ ap returned_for says) (writes-made s t ms u l m c room ∙ ap (buffer_after m.lent) says)

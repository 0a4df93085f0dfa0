-- What a line that was read leaves of the struct, answers and writes.
use Rattle.std.specs.Prelude.{◌≡◌, cond, leb, ltb, Option, Some, None, Result, Ok, Err, List, ℕ}
use Rattle.semantics.specs.Protocol.{Line}
use Rattle.semantics.specs.Engine.{perform, answer_of, returned_for, buffer_after}
use Rattle.text.specs.Ids.{id_bytes}
use Rattle.stored.specs.declared.Link.{Link}
use Rattle.stored.specs.Values.{below}
use Rattle.network.specs.declared.Network.{Network}
use Rattle.network.specs.declared.State.{State}
use Rattle.network.specs.View.{view_state}
use Rattle.refusals.specs.declared.Refusal.{Refusal}
use Rattle.refusals.specs.declared.Refusal.TheVariants.{NoParent, NoTable}
use Rattle.network.specs.Found.{lookup}
use Rattle.protocol.specs.declared.Above.{Above}
use Rattle.performing.specs.Performed.{returned, struct_after}

-- a line for a state: the whole struct, byte for byte, what is returned, and every byte of the buffer
pub record Performing (s : State) (line : Line) (out : List ℕ) (t : State) (r : Result ℕ Refusal) (lent_after : List ℕ) : Type 0 where
  pub struct : t ≡ struct_after s line (perform (view_state s) line)
  pub answered : returned r ≡ returned_for (answer_of (perform (view_state s) line))
  pub buffer : lent_after ≡ buffer_after out (answer_of (perform (view_state s) line))

-- the same of a line that answers nothing: whatever buffer it comes with stays as it is
abbrev pub Editing : State → Line → State → Result ℕ Refusal → Type 0
Editing s line t r = (out : List ℕ) → Performing s line out t r out

-- the link below what a P line names, by where its parent was found
abbrev pub link_found : ℕ → ℕ → Option ℕ → Result (Option Link) Refusal
link_found tables table None = Err NoParent
link_found tables table (Some i) = cond (leb tables table) (Err NoTable) (Ok (below i table))

abbrev pub link_below : Network → Option Above → Result (Option Link) Refusal
link_below n None = cond (ltb 0 n.plots) (Err NoParent) (Ok None)
link_below n (Some a) = link_found n.tables a.table (lookup (id_bytes a.parent) n.ids n.plots)

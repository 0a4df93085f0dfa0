-- `Network::id_holds` meets its contract: an id whose place isn't marked is known to be new.
use Rattle.std.proofs.Common.{◌≡◌, Bool, true, false, not, List, ℕ, ◌*◌, ◌≤◌, Fits, w64, length, get_or}
use borrow.Author.Tests.{not-false}
use Rattle.semantics.specs.Limits.{max_plots}
use Rattle.semantics.specs.Text.{is_id}
use Rattle.text.specs.declared.Id.{Id}
use Rattle.text.specs.Ids.{slot_bytes, id_bytes}
use Rattle.network.specs.Found.{id_holds}
use Rattle.network.specs.Marks.{id_place, Marked}
use Rattle.network.proofs.Marks.{unmarked}
use Rattle.network.proofs.Network.id_holds.Goals as goal

new : (ids : List ℕ) (plots : ℕ) (id : Id) (b : Bool) → b ≡ is_id (id_bytes id) → (seen : List Bool) (place : ℕ) → not b ≡ false
    → Fits w64 id.low → Fits w64 id.high → length ids ≡ max_plots * slot_bytes → plots ≤ max_plots → Marked ids plots seen
    → place ≡ id_place id → not (get_or seen place false) ≡ true → true ≡ id_holds (id_bytes id) ids plots
new ids plots id b q seen place h l k long few marks e off = rw (← q, not-false b h, unmarked ids id l k seen plots place long few marks e off)

pub returns-then-not-seen-place_of : goal.returns-then-not-seen-place_of
returns-then-not-seen-place_of c = search new

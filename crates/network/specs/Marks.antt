-- Marks of ids: a place is marked for each id that was seen, so that an id whose place isn't marked is known to be new.
use Rattle.std.specs.Prelude.{◌≡◌, Bool, true, false, List, ℕ, ◌+◌, ◌%◌, ◌<◌, get_or}
use Rattle.text.specs.declared.Id.{Id}
use Rattle.text.specs.Ids.{packed}
use Rattle.stored.specs.Values.{slot_at}

-- how many places there are
abbrev pub places : ℕ
places = 881

-- the place of an id's mark, by both of its numbers
abbrev pub id_place : Id → ℕ
id_place id = (id.low % places + id.high % places) % places

-- the places of the first n stored ids are marked
pub record Marked (ids : List ℕ) (plots : ℕ) (seen : List Bool) : Type 0 where
  pub each : (j : ℕ) → j < plots → get_or seen (id_place (packed (slot_at ids j))) false ≡ true

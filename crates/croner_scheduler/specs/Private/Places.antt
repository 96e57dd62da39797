-- Jobs in places: each id that was given has one, and that of a removed job is empty. Private contracts alone cite these definitions.
use Rattle.std.specs.Prelude.{◌≡◌, ◌<◌, ◌+◌, ◌-◌, ◌^◌, ℕ, zero, suc, Bool, true, false, is_some, List, [], ◌∷◌, length, slice_index_or, slice_set, Option, Some, None}
use Rattle.std.specs.List.{AllByRecursion, swap}
use Rattle.std.specs.List.Sorted.{IsStrictlySortedBy}
use Rattle.std.specs.Ordering.{nat_cmp}
use Rattle.std.specs.Slice.Iter.{iter_rest}
use Rattle.std.specs.Vec.Iter.{into_iter_items}
use Rattle.std.specs.declared.slice.Iter.{Iter}
use Rattle.std.specs.declared.vec.IntoIter.{IntoIter}
use Rattle.std.specs.declared.vec.Vec.{Vec}
use Rattle.croner_scheduler.specs.Room.{row_room}

-- so many ids, which follow one another
abbrev pub ids_from : ℕ → ℕ → List ℕ
ids_from first zero = []
ids_from first (suc n) = first ∷ ids_from (first + 1) n

-- ids, the next one, and for how many more there is room
pub record IdRow : Type 0 where
  pub items : List ℕ
  pub next : ℕ
  pub room : ℕ

-- the ids: those from the first one up to the next, where they aren't listed
abbrev pub ids_of : {Z : Type 0} → ℕ → ℕ → Option (Vec ℕ Z) → List ℕ
ids_of first next None = ids_from first (next - first)
ids_of first next (Some row) = row.items

-- and there is room for any number of these
abbrev pub id_room : {Z : Type 0} → Option (Vec ℕ Z) → ℕ
id_room None = 2 ^ 64 - 1
id_room (Some row) = row_room row

-- the ids that an iterator has left
abbrev pub ids_left : ℕ → ℕ → Option (Iter ℕ) → List ℕ
ids_left first next None = ids_from first (next - first)
ids_left first next (Some ids) = iter_rest ids

-- the ids that an iterator which owns them has left
abbrev pub ids_to_give : {Z : Type 0} → ℕ → ℕ → Option (IntoIter ℕ Z) → List ℕ
ids_to_give first next None = ids_from first (next - first)
ids_to_give first next (Some ids) = into_iter_items ids

-- the ids whose places hold a job, each with the job
abbrev pub entries_in : {W : Type 0} → List ℕ → List (Option W) → List (ℕ × W)
entries_in [] places = []
entries_in (id ∷ ids) [] = []
entries_in (id ∷ ids) (Some w ∷ places) = (id, w) ∷ entries_in ids places
entries_in (id ∷ ids) (None ∷ places) = entries_in ids places

-- the ids rise, each with its place, up to the next id; and so many places hold a job
pub record ArePlaces {W : Type 0} (ids : List ℕ) (places : List (Option W)) (count next_id : ℕ) : Type 0 where
  pub beside : length ids ≡ length places
  pub ordered : IsStrictlySortedBy nat_cmp ids
  pub below : AllByRecursion (λ id. id < next_id) ids
  pub counted : count ≡ length (entries_in ids places)

-- the jobs stay in their order, and their ids rise as far as they did
pub record AreInRow {W : Type 0} (ids : List ℕ) (places : List (Option W)) (ids' : List ℕ) (places' : List (Option W)) : Type 0 where
  pub beside : length ids' ≡ length places'
  pub entries : entries_in ids' places' ≡ entries_in ids places
  pub ordered : IsStrictlySortedBy nat_cmp ids → IsStrictlySortedBy nat_cmp ids'
  pub below : (n : ℕ) → AllByRecursion (λ id. id < n) ids → AllByRecursion (λ id. id < n) ids'

abbrev pub PutsBy : {W : Type 0} → List ℕ → List (Option W) → ℕ → ℕ → List ℕ → List (Option W) → ℕ → Bool → Type 0
PutsBy ids places kept place ids' places' result true =
    (result ≡ kept + 1) × (ids' ≡ slice_set ids kept (slice_index_or ids place 0)) × (places' ≡ swap places kept place)
PutsBy ids places kept place ids' places' result false = (result ≡ kept) × (ids' ≡ ids) × (places' ≡ places)

-- a place with a job goes behind those that are kept, with its id; one without stays
abbrev pub PutsInFront : {W : Type 0} → List ℕ → List (Option W) → ℕ → ℕ → List ℕ → List (Option W) → ℕ → Type 0
PutsInFront ids places kept place ids' places' result = PutsBy ids places kept place ids' places' result (is_some (slice_index_or places place None))

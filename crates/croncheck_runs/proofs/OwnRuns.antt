-- Listings on the clock of a zone's window, and in the zone.
use Rattle.std.proofs.Common.{◌≡◌, ℤ, pos, ◌+ℤ◌, refl, ◌<ℤ◌, ◌≤ℤ◌, false, List, [], ◌++◌, get_or, inl, inr, sym, subst, arith}
use Rattle.std.proofs.lemmas.Bool.{false≢true}
use Rattle.std.proofs.lemmas.Int.{ints}
use Rattle.std.proofs.lemmas.List.{append-nil}
use Rattle.std.specs.List.{All}
use Rattle.jiff_tz.specs.declared.timezone.TimeZone.{TimeZone}
use Rattle.croner_base.specs.declared.time.Direction.TheVariants.{Forward}
use Rattle.croner_base.specs.declared.time.table.TableTime.{TableTime}
use Rattle.croner_base.specs.Limits.{last_searched}
use Rattle.croner_base.specs.Table.{offset_at}
use Rattle.croner_base.specs.TableZone.{table_zone, clock}
use Rattle.croner_base.specs.Calm.{IsSearched}
use Rattle.croner_base.specs.Zone.{Zone}
use Rattle.croner_base.proofs.tables.TableOffsets.{calm_offset}
use Rattle.croner_pattern.specs.Meaning.{Meaning}
use Rattle.croner_pattern.specs.SearchedYears.{matched_searched, scheduled_searched}
use Rattle.croner.specs.iterator.Listing.{BeginsRest, IsLeft, job_at}
use Rattle.croner.specs.laws.Zones.{IsWellIn}
use Rattle.croner.specs.search.PatternJob.{pattern_job}
use Rattle.croner.specs.search.Runs.{Job, Counts, Run}
use Rattle.croner.proofs.zone.Walks.{is_run}
use Rattle.croncheck_runs.specs.Clock.{last_second}
use Rattle.croncheck_runs.specs.Runs.{starts}

-- a second after one well in a window is well in it too, up to its last
pub well_after : (tz : TimeZone) (first last s i : ℤ) → IsWellIn tz first last s → s <ℤ i → i ≤ℤ last → IsWellIn tz first last i
well_after tz first last s i well after within =
    (elim well.0 [ inl far ↦ inl (omega (arith, ints, far, after)) | inr day ↦ inr (day.0, omega (arith, ints, day.1, after)) ], within)

pub well_after_le : (tz : TimeZone) (first last s i until : ℤ) → IsWellIn tz first last s → s <ℤ i → i ≤ℤ until → until ≤ℤ last → IsWellIn tz first last i
well_after_le tz first last s i until well after le by = well_after tz first last s i well after (omega (arith, ints, le, by))

-- what counts lies after the start
pub counts_after : (job : Job) (s i : ℤ) → Counts Forward false job s i → s <ℤ i
counts_after job s i counts = elim counts [ inl own ↦ own.0 | inr at ↦ absurd (false≢true at.0) ]

-- the items of a listing lie well in the window where they lie in it
pub items_well : (tz : TimeZone) (first last : ℤ) (m : Meaning) (start : TableTime) (items : List ℤ) → IsWellIn tz first last start.second
    → BeginsRest (starts m start) items → All (λ i. i ≤ℤ last) items → All (IsWellIn tz first last) items
items_well tz first last m start items well begins within =
    λ k d inside. well_after tz first last start.second (get_or items k d) well (counts_after (job_at (starts m start)) start.second (get_or items k d) (begins.counts k d inside)) (within k d inside)

pub with_none : (m : Meaning) (start : TableTime) (items : List ℤ) → BeginsRest (starts m start) items → BeginsRest (starts m start) (items ++ [])
with_none m start items begins = subst (λ (ys : List ℤ). BeginsRest (starts m start) ys) (sym (append-nil items)) begins

-- each run shows a second of the years that are searched
searched_run : (m : Meaning) (z : Zone) (i : ℤ) → Run (pattern_job m z) i → IsSearched (z.reads i)
searched_run m z i run = elim run [ inl own ↦ scheduled_searched m (z.reads i) own.0 | inr carried ↦ matched_searched m (z.reads i) carried.2 ]

-- each run on a clock shows a second of year 5000 at the latest, and the clock is a day behind UTC at most
pub no_later : (m : Meaning) (start : TableTime) (i : ℤ) → IsLeft (starts m start) i → i ≤ℤ last_second
unfolding clock
no_later m start i left =
    let table = start.table.now in
    let ahead = offset_at table.first_offset table.changes.items i in
    let searched = (searched_run m (table_zone table) i (is_run Forward false (job_at (starts m start)) start.second i left)).1 in
    let by : (i +ℤ ahead) ≤ℤ last_searched = searched in
    let limit : last_searched ≡ pos 95_649_119_999 = refl in
    let behind = (calm_offset table.first_offset table.changes.items i table.calm).0 in
    omega (arith, ints, by, limit, behind)

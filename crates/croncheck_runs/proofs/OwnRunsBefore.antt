-- Listings up to a start on the clock of a zone's window, and in the zone.
use Rattle.std.proofs.Common.{ℤ, pos, ◌+ℤ◌, ◌≤ℤ◌, true, List, [], ◌++◌, get_or, inl, inr, sym, subst, arith}
use Rattle.std.proofs.lemmas.Int.{ints}
use Rattle.std.proofs.lemmas.List.{append-nil}
use Rattle.std.specs.List.{All}
use Rattle.jiff_tz.specs.declared.timezone.TimeZone.{TimeZone}
use Rattle.croner_base.specs.declared.time.Direction.TheVariants.{Backward}
use Rattle.croner_base.specs.declared.time.table.TableTime.{TableTime}
use Rattle.croner_pattern.specs.Meaning.{Meaning}
use Rattle.croner.specs.iterator.Listing.{Standing, BeginsRest, job_at}
use Rattle.croner.specs.laws.Zones.{IsWellIn, margin}
use Rattle.croner.specs.search.Runs.{Job, Counts, Precedes}
use Rattle.croncheck_runs.specs.Previous.{ends_at}

-- what counts comes no later than the start
pub counts_up_to : (job : Job) (s i : ℤ) → Counts Backward true job s i → i ≤ℤ s
counts_up_to job s i counts = elim counts [
  | inl own ↦ let before : Precedes Backward s i = own.0 in omega (arith, ints, before)
  | inr at ↦ omega (arith, ints, at.1)
]

-- a second no later than one well in a window, after the margin of its first, is well in it too
pub well_here : (tz : TimeZone) (first last s i : ℤ) → IsWellIn tz first last s → i ≤ℤ s → (first +ℤ pos margin) ≤ℤ i → IsWellIn tz first last i
well_here tz first last s i well le followed = (inl followed, omega (arith, ints, le, well.1))

pub well_before : (tz : TimeZone) (first last s from i : ℤ) → IsWellIn tz first last s → i ≤ℤ s → (first +ℤ pos margin) ≤ℤ from → from ≤ℤ i
    → IsWellIn tz first last i
well_before tz first last s from i well le followed by = well_here tz first last s i well le (omega (arith, ints, followed, by))

-- the items of a listing lie well in the window where none comes before its margin
pub items_well : (tz : TimeZone) (first last : ℤ) (m : Meaning) (start : TableTime) (items : List ℤ) → IsWellIn tz first last start.second
    → BeginsRest (ends_at m start) items → All (λ i. (first +ℤ pos margin) ≤ℤ i) items → All (IsWellIn tz first last) items
items_well tz first last m start items well begins followed = λ k d inside.
    let item = get_or items k d in
    well_here tz first last start.second item well (counts_up_to (job_at (ends_at m start)) start.second item (begins.counts k d inside)) (followed k d inside)

pub with_none : (s : Standing) (items : List ℤ) → BeginsRest s items → BeginsRest s (items ++ [])
with_none s items begins = subst (λ (ys : List ℤ). BeginsRest s ys) (sym (append-nil items)) begins

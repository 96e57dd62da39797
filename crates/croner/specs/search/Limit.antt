-- What the limit of a search means: the years that are searched whole, from year 2 to year 4999.
use Rattle.std.specs.Prelude.{◌+◌, ℤ, ◌<ℤ◌, ◌≤ℤ◌, Bool}
use Rattle.croner_base.specs.declared.time.Direction.{Direction}
use Rattle.croner_base.specs.declared.time.Direction.TheVariants.{Forward, Backward}
use Rattle.croner_base.specs.Limits.{first_year, last_year, year_second, first_searched, last_searched}
use Rattle.croner.specs.search.Runs.{Job, Reaches, Ahead, Counts}

-- the wall second 5000-01-01T00:00:00
abbrev pub year_5000 : ℤ
year_5000 = year_second last_year

-- the wall second 0002-01-01T00:00:00
abbrev pub year_2 : ℤ
year_2 = year_second (first_year + 1)

-- a wall second before year 5000 forward, after year 1 backward
abbrev pub IsWithin : Direction → ℤ → Type 0
IsWithin Forward w = w <ℤ year_5000
IsWithin Backward w = year_2 ≤ℤ w

-- forward neither i nor any earlier instant shows year 5000 or later; backward neither i nor any later one shows year 1
-- or earlier
abbrev pub InSpan : Direction → (ℤ → ℤ) → ℤ → Type 0
InSpan direction reads i = (j : ℤ) → Reaches direction j i → IsWithin direction (reads j)

-- nothing that counts lies in the span
abbrev pub NoneInSpanWhere : Direction → (ℤ → ℤ) → (ℤ → Type 0) → Type 0
NoneInSpanWhere direction reads counted = (i : ℤ) → InSpan direction reads i → ¬ (counted i)

-- no run of a job that counts from s lies in the span
abbrev pub NoneInSpan : Direction → Bool → Job → ℤ → Type 0
NoneInSpan direction inclusive job s = NoneInSpanWhere direction job.zone.reads (Counts direction inclusive job s)

-- nothing is scheduled ahead of a wall second
abbrev pub NoneAhead : Direction → Bool → (ℤ → Type 0) → ℤ → Type 0
NoneAhead direction inclusive scheduled w = (v : ℤ) → Ahead direction inclusive w v → ¬ (scheduled v)

-- a start that reads this is past the years: it lies outside the span, and nothing is scheduled ahead of it
abbrev pub IsPast : Direction → Bool → (ℤ → Type 0) → ℤ → Type 0
IsPast direction inclusive scheduled w = ¬ (IsWithin direction w) × NoneAhead direction inclusive scheduled w

-- a wall second of year 5001 or later forward, of year 0 or earlier backward
abbrev pub IsOutside : Direction → ℤ → Type 0
IsOutside Forward w = last_searched <ℤ w
IsOutside Backward w = w <ℤ first_searched

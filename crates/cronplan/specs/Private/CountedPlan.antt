-- What the cells of a plan are made of.
use Rattle.std.specs.Prelude.{◌≡◌, ℕ, ℤ, pos, neg_ℤ, ◌+ℤ◌, ◌≤ℤ◌, ◌<◌, ◌^◌, List, length, slice_index_or, unwrap_or}
use Rattle.std.specs.BTreeMap.{get}
use Rattle.std.specs.Ordering.{int_cmp}
use Rattle.cronplan.specs.declared.counts.Unit.TheVariants as units
use Rattle.cronplan.specs.declared.days.Counted.{Counted}
use Rattle.cronplan.specs.declared.days.Day.{Day}
use Rattle.cronplan.specs.declared.start.JobStart.{JobStart}
use Rattle.cronplan.specs.Counts.{starts_at}
use Rattle.cronplan.specs.Days.{IsDay}
use Rattle.cronplan.specs.Moments.{AreMoments}

-- a number of a date that a wall second of 64 bits may have, and some more
pub record IsDateNumber (date : ℤ) : Type 0 where
  pub low : neg_ℤ (pos (2 ^ 47)) ≤ℤ date
  pub high : date ≤ℤ pos (2 ^ 47)

-- the counts of starts, and their moments
pub record IsCounted (starts : List JobStart) (c : Counted) : Type 0 where
  pub by_hour : (q : ℤ) → unwrap_or (get int_cmp c.by_hour q) 0 ≡ starts_at units.Hour q starts
  pub by_day : (q : ℤ) → unwrap_or (get int_cmp c.by_day q) 0 ≡ starts_at units.Day q starts
  pub are_moments : AreMoments starts c.moments.items

-- so many dates from a first one on
pub record AreRows (starts : List JobStart) (c : Counted) (first : ℤ) (count : ℕ) (days : List Day) : Type 0 where
  pub count_is : length days ≡ count
  pub each : (k : ℕ) (d : Day) → k < length days → IsDay starts c.moments.items c.changes.items c.shown (first +ℤ pos k) (slice_index_or days k d)

-- Counts of starts. Source: this crate's documentation.
use Rattle.std.specs.Prelude.{◌≡◌, ◌<◌, ℕ, ℤ, pos, if◌then◌else◌, List, Some, sum_by}
use Rattle.std.specs.BTreeMap.{BTreeMap, get}
use Rattle.std.specs.Int.{int_div_euclid, int_rem_euclid}
use Rattle.std.specs.Ordering.{int_eq, int_cmp}
use Rattle.croner_base.specs.Calendar.{day_seconds}
use Rattle.cronplan.specs.declared.counts.Unit.{Unit}
use Rattle.cronplan.specs.declared.counts.Unit.TheVariants as units
use Rattle.cronplan.specs.declared.start.JobStart.{JobStart}

-- the hour of a wall second, and its date
abbrev pub hour_of : ℤ → ℤ
hour_of wall = int_div_euclid wall (pos 3_600)

abbrev pub date_of : ℤ → ℤ
date_of wall = int_div_euclid wall (pos day_seconds)

-- the second of a start, the hour or the date that the clock shows then, or the hour of the day
abbrev pub key_of : Unit → JobStart → ℤ
key_of units.Second s = s.second
key_of units.Hour s = hour_of s.wall
key_of units.Day s = date_of s.wall
key_of units.HourOfDay s = int_rem_euclid (hour_of s.wall) (pos 24)

-- how many a start adds to those of a second, an hour or a day
abbrev pub added_at : Unit → ℤ → JobStart → ℕ
added_at unit q s = if int_eq (key_of unit s) q then s.count else 0

-- how many starts there are in that second, hour or day
abbrev pub starts_at : Unit → ℤ → List JobStart → ℕ
starts_at unit q starts = sum_by (added_at unit q) starts

-- no second, hour or day is there with a count of 0
abbrev pub HasNoZero : BTreeMap ℤ ℕ → Type 0
HasNoZero counts = (q : ℤ) → ¬ (get int_cmp counts q ≡ Some 0)

-- how many starts these are
abbrev pub count_of : List JobStart → ℕ
count_of starts = sum_by (λ s. s.count) starts

-- they are more than so many on some day
abbrev pub IsFrequent : ℕ → List JobStart → Type 0
IsFrequent most starts = (day : ℤ) × (most < starts_at units.Day day starts)

-- The steps by which a window of a zone is gone through, from one question to the next.
-- Private contracts alone cite these definitions.
use Rattle.std.specs.Prelude.{◌≡◌, ℕ, ℤ, pos, ◌+ℤ◌, ◌-ℤ◌, ◌<ℤ◌, ◌≤ℤ◌}
use Rattle.jiff_core.specs.Timestamp.{nanos_of_seconds}
use Rattle.jiff_tz.specs.Year.{year_of_nanos}
use Rattle.jiff_tz.specs.declared.timezone.TimeZone.{TimeZone}
use Rattle.croner_base.specs.declared.time.table.of_zone.Reading.{Reading}
use Rattle.croner_base.specs.ZonedZone.{first_timestamp, last_timestamp}
use Rattle.croner_base.specs.ZoneTable.{ahead_at}

-- a whole second of jiff's instants
pub record IsHeld (i : ℤ) : Type 0 where
  pub low : first_timestamp ≤ℤ i
  pub high : i ≤ℤ last_timestamp

-- what a zone shows at a second
pub record IsReading (tz : TimeZone) (i : ℤ) (s : Reading) : Type 0 where
  pub second_is : s.second ≡ i
  pub ahead_is : s.ahead ≡ ahead_at tz i

-- the first whole second that is not before an instant
pub record IsFirstSecond (n i : ℤ) : Type 0 where
  pub late_enough : n ≤ℤ nanos_of_seconds i
  pub early_enough : nanos_of_seconds (i -ℤ pos 1) <ℤ n

-- an instant's year lasts until this second
pub record IsYearEnd (n i : ℤ) : Type 0 where
  pub later : n <ℤ nanos_of_seconds i
  pub same : (m : ℤ) → n ≤ℤ m → m <ℤ nanos_of_seconds i → year_of_nanos m ≡ year_of_nanos n

-- a later second of a window, up to which the zone keeps its offset
pub record IsNextQuestion (tz : TimeZone) (second last i : ℤ) : Type 0 where
  pub later : second <ℤ i
  pub within : i ≤ℤ last
  pub stays : (j : ℤ) → second ≤ℤ j → j <ℤ i → ahead_at tz j ≡ ahead_at tz second

-- the seconds of 400 years of the Gregorian calendar, which are whole weeks
abbrev pub period : ℕ
period = 12_622_780_800

-- the first second of the year 9999 in UTC
abbrev pub repeated_until : ℤ
repeated_until = pos 253_370_764_800

-- from a second on a zone shows what it shows 400 years later, before that year
abbrev pub Repeats : TimeZone → ℤ → Type 0
Repeats tz from = (i : ℤ) → from ≤ℤ i → (i +ℤ pos period) <ℤ repeated_until → ahead_at tz (i +ℤ pos period) ≡ ahead_at tz i

-- a change 400 years later
abbrev pub again : ℤ × ℤ → ℤ × ℤ
again c = (c.0 +ℤ pos period, c.1)

-- Clocks of tables that show what a zone shows in a window: which of their runs are runs of the zone.
use Rattle.std.specs.Prelude.{◌≡◌, ◌⊎◌, ℕ, ℤ, pos, ◌+ℤ◌, ◌≤ℤ◌}
use Rattle.jiff_tz.specs.declared.timezone.TimeZone.{TimeZone}
use Rattle.croner_base.specs.Zone.{Zone, Moment}
use Rattle.croner_base.specs.ZoneTable.{IsWindow, ahead_at, nearest_in}
use Rattle.croner.specs.crontable.TableListing.{TableStanding}
use Rattle.croner.specs.iterator.Listing.{Standing}

-- so many seconds after a window's first one no earlier reading of the zone comes again: two offsets differ by less
abbrev pub margin : ℕ
margin = 180_000

-- as many, two days, of a zone that is never more than a day ahead of UTC
abbrev pub day_margin : ℕ
day_margin = 172_800

abbrev pub IsAtMostADayAhead : TimeZone → Type 0
IsAtMostADayAhead tz = (i : ℤ) → ahead_at tz i ≤ℤ pos 86_400

-- a second of a window, so far after its first
abbrev pub IsWellIn : TimeZone → ℤ → ℤ → ℤ → Type 0
IsWellIn tz first last i =
    (((first +ℤ pos margin) ≤ℤ i) ⊎ (IsAtMostADayAhead tz × ((first +ℤ pos day_margin) ≤ℤ i))) × (i ≤ℤ last)

-- the clock shows in a window what a zone of jiff shows, and keeps the offsets at its two ends
pub record IsClockOf (tz : TimeZone) (first last : ℤ) (z : Zone) : Type 0 where
  pub window : IsWindow first last
  pub shows : (i : ℤ) → z.reads i ≡ i +ℤ ahead_at tz (nearest_in first last i)

-- a moment on such a clock, well in the window
pub record IsOnClockOf (tz : TimeZone) (first last : ℤ) (z : Zone) (m : Moment) : Type 0 where
  pub clock : IsClockOf tz first last z
  pub zone_is : m.zone ≡ z
  pub well_in : IsWellIn tz first last m.instant

-- where an iterator stands, at the same instant of another zone
abbrev pub in_zone : Zone → Standing → Standing
in_zone z s = record s { position = record s.position { zone = z } }

-- the same of an iterator over a table of patterns
abbrev pub table_in_zone : Zone → TableStanding → TableStanding
table_in_zone z s = record s { position = record s.position { zone = z } }

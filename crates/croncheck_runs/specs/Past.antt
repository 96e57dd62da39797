-- The clock of a zone up to a second. Source: this crate's documentation of `PastClock`.
use Rattle.std.specs.Prelude.{◌≡◌, ◌⊎◌, ℤ, pos, ◌+ℤ◌, ◌-ℤ◌, ◌≤ℤ◌, int_le, int_lt, if◌then◌else◌}
use Rattle.jiff_tz.specs.declared.timezone.TimeZone.{TimeZone}
use Rattle.croner_base.specs.Limits.{first_searched}
use Rattle.croner_base.specs.TableZone.{table_zone}
use Rattle.croner_base.specs.ZoneTable.{IsCalmWindow}
use Rattle.croner.specs.laws.Zones.{margin, IsClockOf}
use Rattle.croncheck_runs.specs.Clock.{IsHeldStart}
use Rattle.croncheck_runs.specs.declared.past.PastClock.{PastClock}

-- the first second to which a clock up to this one is followed back: that of year 1 in UTC, or this one where it lies before that
abbrev pub reach_of : ℤ → ℤ
reach_of last = if int_lt last first_searched then last else first_searched

-- from this first second on a clock is followed up to the last one: it is calm there, and can't begin a second earlier, since from there on it
-- isn't calm, or year 1 begins
pub record IsFollowedFrom (tz : TimeZone) (last first : ℤ) : Type 0 where
  pub within : reach_of last ≤ℤ first
  pub calm : IsCalmWindow tz first last
  pub farthest : (first ≡ reach_of last) ⊎ ¬ (IsCalmWindow tz (first -ℤ pos 1) last)

-- the clock shows what the zone shows from its first second to this one, and is followed from there. From the margin after its first second
-- on, runs on the clock are those of the zone
pub record IsPastClock (tz : TimeZone) (last : ℤ) (c : PastClock) : Type 0 where
  pub clock : IsClockOf tz c.first last (table_zone c.table)
  pub followed : IsFollowedFrom tz last c.first
  pub last_is : c.last ≡ last
  pub from_is : c.from ≡ c.first +ℤ pos margin
  pub whole_is : c.is_whole ≡ int_le c.first (reach_of last)

-- there is none: the second lies outside, or the zone's clock isn't calm at the second itself
abbrev pub IsNoPast : TimeZone → ℤ → Type 0
IsNoPast tz last = ¬ (IsHeldStart last) ⊎ ¬ (IsCalmWindow tz last last)

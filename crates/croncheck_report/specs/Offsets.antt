-- How far the clock of a zone is ahead of UTC. Source: this crate's documentation of `ahead_of`.
use Rattle.std.specs.Prelude.{ℤ, pos, if◌then◌else◌}
use Rattle.jiff_tz.specs.declared.timezone.TimeZone.{TimeZone}
use Rattle.croner_base.specs.ZoneTable.{ahead_at}
use Rattle.croner_base.specs.ZonedZone.{is_timestamp_second}

-- how far a zone's clock is ahead of UTC at a second: what the zone gives for each second that it has, which are those of the years -9998 to
-- 9998 at least
abbrev pub offset_of : TimeZone → ℤ → ℤ
offset_of zone second = if is_timestamp_second second then ahead_at zone second else pos 0

-- The window of a clock, and why a zone has none. Source: this crate's documentation of `Clock`.
use Rattle.std.specs.Prelude.{◌≡◌, ℕ, ◌+◌, ◌<◌, ◌≤◌, true, false, if◌then◌else◌, int_lt, ℤ, pos, ◌+ℤ◌, ◌-ℤ◌, ◌<ℤ◌, ◌≤ℤ◌, Option, Some, None, ◌⊎◌}
use Rattle.jiff_tz.specs.declared.timezone.TimeZone.{TimeZone}
use Rattle.croner_base.specs.Limits.{gap_limit, fold_limit, apart_limit, most_gap_seconds}
use Rattle.croner_base.specs.Table.{is_offset, met_gaps, gap_at}
use Rattle.croner_base.specs.ZoneTable.{IsWindow, IsCalmWindow, ahead_at, window_changes}
use Rattle.croner_base.specs.ZonedZone.{first_timestamp, last_timestamp}
use Rattle.croncheck_runs.specs.declared.clock.NoClock.{NoClock}
use Rattle.croncheck_runs.specs.declared.clock.NoClock.TheVariants as refusals
use Rattle.croncheck_runs.specs.declared.clock.stop.Reason.{Reason}
use Rattle.croncheck_runs.specs.declared.clock.stop.Reason.TheVariants as reasons
use Rattle.croncheck_runs.specs.declared.clock.stop.Stop.{Stop}

-- so many seconds before the start the window begins: three days
abbrev pub seconds_before : ℕ
seconds_before = 259_200

-- the first second of the window of a clock from a start on: three days before the start
abbrev pub first_of : ℤ → ℤ
first_of start = start -ℤ pos seconds_before

-- it ends at 5001-01-01T23:59:59 UTC: a clock that is a day behind UTC at most shows no second of year 5000 after it
abbrev pub last_second : ℤ
last_second = pos 95_649_206_399

-- of a window from a first second to a last one that isn't calm: it is calm up to the second before this one, and not up to this one
pub record IsStop (tz : TimeZone) (first last at : ℤ) : Type 0 where
  pub window : IsWindow first at
  pub within : at ≤ℤ last
  pub not_calm : ¬ (IsCalmWindow tz first at)
  pub calm_before : first <ℤ at → IsCalmWindow tz first (at -ℤ pos 1)

-- a whole second of jiff's instants
abbrev pub IsHeldSecond : ℤ → Type 0
IsHeldSecond i = (first_timestamp ≤ℤ i) × (i ≤ℤ last_timestamp)

-- two days before the second in front of another one, but no second before the first
abbrev pub two_days_before : ℤ → ℤ → ℤ
two_days_before first at = if int_lt (at -ℤ pos 1 -ℤ pos apart_limit) first then first else at -ℤ pos 1 -ℤ pos apart_limit

-- how many seconds a zone's clock has skipped in a window, in the years that a pattern can name, with the change at a second after it
abbrev pub skipped_with : TimeZone → ℤ → ℤ → ℕ
skipped_with tz first at =
    met_gaps (ahead_at tz first) (window_changes tz first (at -ℤ pos 1)) + gap_at (ahead_at tz (at -ℤ pos 1)) (at, ahead_at tz at)

-- searches go over the change by itself: two days before the clock was as far ahead of UTC as it is in the second before, and it goes forward
-- and back by no more than they do
abbrev pub IsCalmStep : ℤ → ℤ → ℤ → Type 0
IsCalmStep earlier before there = (before ≡ earlier) × ((there -ℤ before) ≤ℤ pos gap_limit) × ((before -ℤ there) ≤ℤ pos fold_limit)

-- why searches don't go over a change, by how far the clock is ahead of UTC there, in the second before, and two days before that, and by how
-- many seconds it has skipped with the change
abbrev pub IsReasonBy : ℤ → ℤ → ℤ → ℕ → Reason → Type 0
IsReasonBy earlier before there skipped (reasons.Far ahead) = ⊥
IsReasonBy earlier before there skipped (reasons.Forward n) = (n ≡ there -ℤ before) × (pos gap_limit <ℤ n)
IsReasonBy earlier before there skipped (reasons.Back n) = (n ≡ before -ℤ there) × (pos fold_limit <ℤ n)
IsReasonBy earlier before there skipped reasons.Soon = ¬ (before ≡ earlier)
IsReasonBy earlier before there skipped reasons.Skipped = IsCalmStep earlier before there × (most_gap_seconds < skipped)
IsReasonBy earlier before there skipped reasons.Many = IsCalmStep earlier before there × (skipped ≤ most_gap_seconds)

-- the same of the change at a second of a zone's clock
abbrev pub IsReasonAt : TimeZone → ℤ → ℤ → Reason → Type 0
IsReasonAt tz first at reason =
    IsReasonBy (ahead_at tz (two_days_before first at)) (ahead_at tz (at -ℤ pos 1)) (ahead_at tz at) (skipped_with tz first at) reason

-- why a window stops at a second
abbrev pub IsReason : TimeZone → ℤ → ℤ → Reason → Type 0
IsReason tz first at (reasons.Far ahead) = (ahead ≡ ahead_at tz at) × (is_offset ahead ≡ false)
IsReason tz first at reason = (is_offset (ahead_at tz at) ≡ true) × (first <ℤ at → IsReasonAt tz first at reason)

-- where a window up to the last second stops, and why
pub record IsStopOf (tz : TimeZone) (first : ℤ) (s : Stop) : Type 0 where
  pub stops : IsStop tz first last_second s.second
  pub reason_is : IsReason tz first s.second s.reason

-- where a clock stops: nowhere, where its window is calm up to the last second
abbrev pub HasStop : TimeZone → ℤ → Option Stop → Type 0
HasStop tz first None = IsCalmWindow tz first last_second
HasStop tz first (Some s) = IsStopOf tz first s

-- the last second of the window of a clock that stops there
abbrev pub last_of : Option Stop → ℤ
last_of None = last_second
last_of (Some s) = s.second -ℤ pos 1

-- the same, where the window ends before the last second
abbrev pub last_before : Option Stop → Option ℤ
last_before None = None
last_before (Some s) = Some (s.second -ℤ pos 1)

-- a start whose window jiff holds
abbrev pub IsHeldStart : ℤ → Type 0
IsHeldStart start = (first_timestamp ≤ℤ first_of start) × (start ≤ℤ last_second)

-- a start up to which its window is calm
abbrev pub IsFollowed : TimeZone → ℤ → Type 0
IsFollowed tz start = IsHeldStart start × IsCalmWindow tz (first_of start) start

-- the start three days after a second, whose window begins there
abbrev pub start_after : ℤ → ℤ
start_after second = second +ℤ pos seconds_before

-- it is found exactly where its window is calm up to it
abbrev pub IsStartFrom : TimeZone → ℤ → Option ℤ → Type 0
IsStartFrom tz second None = ¬ (IsFollowed tz (start_after second))
IsStartFrom tz second (Some start) = IsFollowed tz start × (start ≡ start_after second)

-- after a stop its window of three days stops again
abbrev pub IsStopAfter : TimeZone → ℤ → ℤ → Type 0
IsStopAfter tz stop again = (stop <ℤ again) × IsStop tz stop (start_after stop) again

-- the stop after another one, if there is one from which a start may be followed
abbrev pub IsNextStop : TimeZone → ℤ → Option ℤ → Type 0
IsNextStop tz stop None = (again : ℤ) → IsStopAfter tz stop again → ¬ (IsFollowed tz (start_after again))
IsNextStop tz stop (Some again) = IsStopAfter tz stop again

-- the start after a stop from which on runs are listed: three days after it, if that one is followed, and else three days after the stop in
-- these days; there is none where neither is
abbrev pub IsNext : TimeZone → ℤ → Option ℤ → Type 0
IsNext tz stop None = ¬ (IsFollowed tz (start_after stop)) × ((again : ℤ) → IsStopAfter tz stop again → ¬ (IsFollowed tz (start_after again)))
IsNext tz stop (Some start) =
    IsFollowed tz start
    × ((start ≡ start_after stop)
    ⊎ (¬ (IsFollowed tz (start_after stop)) × ((again : ℤ) × IsStopAfter tz stop again × (start ≡ start_after again))))

-- what is said where a window stops at its start or before it: where, and the start after it; or memory is wanting
abbrev pub IsRefusalBy : TimeZone → Stop → NoClock → Type 0
IsRefusalBy tz stop (refusals.Change s next) = (s ≡ stop) × IsNext tz stop.second next
IsRefusalBy tz stop refusals.Outside = ⊥
IsRefusalBy tz stop refusals.OutOfMemory = Unit {0}

-- why there is no clock from a start on: its window stops at it or before it, and the start after that stop is named; it lies outside; or
-- memory is wanting
abbrev pub IsNoClock : TimeZone → ℤ → NoClock → Type 0
IsNoClock tz start (refusals.Change s next) = IsStopOf tz (first_of start) s × (s.second ≤ℤ start) × IsNext tz s.second next
IsNoClock tz start refusals.Outside = ¬ (IsHeldStart start)
IsNoClock tz start refusals.OutOfMemory = IsWindow (first_of start) last_second

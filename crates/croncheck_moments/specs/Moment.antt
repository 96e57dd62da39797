-- The moments that the words of a call name.
use Rattle.std.specs.Prelude.{◌≡◌, ◌⊎◌, ⊤, ℤ, ◌+ℤ◌, ◌-ℤ◌, ◌*ℤ◌, ◌<ℤ◌, ◌≤ℤ◌, pos, neg_ℤ, ℕ, List, ◌∷◌, length, codes, Option, Some, None, IsSome, int_div}
use Rattle.std.specs.Fmt.{signed_decimal}
use Rattle.std.proofs.Common.{w64, FitsSigned}
use Rattle.jiff.specs.Names.{iso_datetime_text}
use Rattle.jiff.specs.Words.{civil_nanos, date_text}
use Rattle.jiff_core.specs.Date.{epoch_day, month_length, IsYmd}
use Rattle.jiff_core.specs.Time.{time_nanos}
use Rattle.jiff_core.specs.Timestamp.{IsTimestampNanos, nanos_of_seconds}
use Rattle.jiff_tz.specs.Ambiguous.{instant_of, earlier_offset, later_offset}
use Rattle.jiff_tz.specs.Zone.{offset_at, ambiguous_at}
use Rattle.jiff_tz.specs.declared.timezone.TimeZone.{TimeZone}
use Rattle.jiff_core.specs.declared.civil.date.Date.{Date}
use Rattle.jiff_core.specs.declared.civil.datetime.DateTime.{DateTime}
use Rattle.croner_base.specs.Calendar.{day_seconds}
use Rattle.croner_base.specs.ZoneTable.{ahead_at}
use Rattle.croncheck_runs.specs.Clock.{IsHeldSecond}
use Rattle.croncheck_moments.specs.declared.moment.Moment.{Moment}
use Rattle.croncheck_moments.specs.declared.moment.Moment.TheVariants as moments

-- the word that names a moment: `now`, `@` and a second, or a date and time or a date as they are printed
abbrev pub moment_text : Moment → List ℕ
moment_text moments.Now = codes "now"
moment_text (moments.Second second) = 64 ∷ signed_decimal second
moment_text (moments.Civil civil) = iso_datetime_text civil
moment_text (moments.Date date) = date_text date

-- how many bytes `YYYY-MM-DDTHH:MM:SS` has: a date and time of whole seconds of the years 0000 to 9999
abbrev pub datetime_length : ℕ
datetime_length = 19

-- how many bytes `YYYY-MM-DD` has: a date of the years 0000 to 9999
abbrev pub date_length : ℕ
date_length = 10

-- a moment that a word names: its second is held, its date and time or its date is of that form
abbrev pub IsNamed : Moment → Type 0
IsNamed moments.Now = Unit {0}
IsNamed (moments.Second second) = FitsSigned w64 second
IsNamed (moments.Civil civil) = length (iso_datetime_text civil) ≡ datetime_length
IsNamed (moments.Date date) = length (date_text date) ≡ date_length

-- what a word is read as: the moment that it names; or it names none
abbrev pub IsRead : List ℕ → Option Moment → Type 0
IsRead word (Some moment) = IsNamed moment × (moment_text moment ≡ word)
IsRead word None = (moment : Moment) → IsNamed moment → ¬ (moment_text moment ≡ word)

-- the same of a word that isn't `now` or a second
abbrev pub IsReadShown : List ℕ → Option Moment → Type 0
IsReadShown word (Some moment) = IsNamed moment × (moment_text moment ≡ word)
IsReadShown word None =
    ((civil : DateTime) → IsNamed (moments.Civil civil) → ¬ (iso_datetime_text civil ≡ word))
    × ((date : Date) → IsNamed (moments.Date date) → ¬ (date_text date ≡ word))

-- a zone's clock shows a date and time at an instant, in nanoseconds since the epoch, which a timestamp holds
abbrev pub Shows : TimeZone → DateTime → ℤ → Type 0
Shows tz civil instant = IsTimestampNanos instant × (civil_nanos civil ≡ instant +ℤ nanos_of_seconds (offset_at tz instant))

-- the two instants that a zone's rules give a date and time: they are one where its clock doesn't change there
abbrev pub earlier_of : TimeZone → DateTime → ℤ
earlier_of tz civil = instant_of civil (earlier_offset (ambiguous_at tz civil))

abbrev pub later_of : TimeZone → DateTime → ℤ
later_of tz civil = instant_of civil (later_offset (ambiguous_at tz civil))

-- the second in which an instant lies
abbrev pub second_at : ℤ → ℤ
second_at instant = int_div instant (pos 1_000_000_000)

-- a zone's clock shows a date and time at this instant, which lies in the second; or it doesn't
abbrev pub IsShownAt : TimeZone → DateTime → ℤ → Option ℤ → Type 0
IsShownAt tz civil instant None = ¬ (Shows tz civil instant)
IsShownAt tz civil instant (Some second) = Shows tz civil instant × (second ≡ second_at instant)

-- the second in which a zone's clock shows a date and time: that of the earlier instant where it shows it there, else that of the later
abbrev pub IsShownIn : TimeZone → DateTime → Option ℤ → Type 0
IsShownIn tz civil found =
    (IsSome found × IsShownAt tz civil (earlier_of tz civil) found)
    ⊎ (¬ (Shows tz civil (earlier_of tz civil)) × IsShownAt tz civil (later_of tz civil) found)

-- ---- dates

-- the wall second with which a date begins
abbrev pub midnight_of : Date → ℤ
midnight_of date = epoch_day date *ℤ pos day_seconds

-- a wall second of the years -9999 to 9999, or a little outside
abbrev pub IsWallSecond : ℤ → Type 0
IsWallSecond wall = (neg_ℤ (pos 400_000_000_000) ≤ℤ wall) × (wall ≤ℤ pos 400_000_000_000)

-- the wall second that a zone's clock shows at a second
abbrev pub shown_at : TimeZone → ℤ → ℤ
shown_at tz second = second +ℤ ahead_at tz second

-- so many seconds before a wall second a zone's clock shows none so late, and so many after it one as late: 26 hours
abbrev pub seconds_around : ℤ
seconds_around = pos 93_600

-- from the first of these seconds to the last
abbrev pub seconds_across : ℕ
seconds_across = 187_200

-- the seconds so far from a wall second are held, and the clock shows an earlier one before, and none after
pub record IsAround (tz : TimeZone) (wall : ℤ) : Type 0 where
  pub held_before : IsHeldSecond (wall -ℤ seconds_around)
  pub held_after : IsHeldSecond (wall +ℤ seconds_around)
  pub earlier : shown_at tz (wall -ℤ seconds_around) <ℤ wall
  pub later : wall ≤ℤ shown_at tz (wall +ℤ seconds_around)

-- the clock goes over a wall second that it doesn't show: at this second it shows a later one, and an earlier one in the second before
pub record GoesOver (tz : TimeZone) (wall second : ℤ) : Type 0 where
  pub before : shown_at tz (second -ℤ pos 1) <ℤ wall
  pub reached : wall ≤ℤ shown_at tz second

-- midnight of a date, as a date and time
pub record IsMidnight (date : Date) (civil : DateTime) : Type 0 where
  pub of_date : civil.date ≡ date
  pub at_midnight : time_nanos civil.time ≡ 0

-- where a date begins on a zone's clock: at the second at which it shows midnight, the earlier one of two; where it skips midnight, at the first
-- after what it skips
abbrev pub IsBegin : TimeZone → Date → ℤ → Type 0
IsBegin tz date second =
    (civil : DateTime) × IsMidnight date civil
    × (IsShownIn tz civil (Some second) ⊎ (IsShownIn tz civil None × GoesOver tz (midnight_of date) second))

-- it begins nowhere, since what lies around it isn't held
abbrev pub IsNoBegin : TimeZone → Date → Type 0
IsNoBegin tz date = (civil : DateTime) × IsMidnight date civil × IsShownIn tz civil None × ¬ (IsAround tz (midnight_of date))

abbrev pub IsBeginOf : TimeZone → Date → Option ℤ → Type 0
IsBeginOf tz date None = IsNoBegin tz date
IsBeginOf tz date (Some second) = IsBegin tz date second

-- a wall second lies in the day that begins with another one
abbrev pub LiesInDay : ℤ → ℤ → Type 0
LiesInDay shown midnight = (midnight ≤ℤ shown) × (shown <ℤ (midnight +ℤ pos day_seconds))

-- the clock shows the date at a second that is held
abbrev pub ShowsDate : TimeZone → Date → ℤ → Type 0
ShowsDate tz date second = IsHeldSecond second × LiesInDay (shown_at tz second) (midnight_of date)

-- where a date begins that the clock shows there
abbrev pub IsFirstOf : TimeZone → Date → Option ℤ → Type 0
IsFirstOf tz date None = IsNoBegin tz date ⊎ ((second : ℤ) × IsBegin tz date second × ¬ (ShowsDate tz date second))
IsFirstOf tz date (Some second) = IsBegin tz date second × ShowsDate tz date second

-- the day of the last date, 9999-12-31
abbrev pub last_epoch_day : ℤ
last_epoch_day = pos 2_932_896

-- a second that there isn't, or that isn't held
abbrev pub IsUnheld : Option ℤ → Type 0
IsUnheld None = ⊤
IsUnheld (Some second) = ¬ (IsHeldSecond second)

-- where the date after this one begins
pub record BeginsNext (tz : TimeZone) (date next : Date) (begin : Option ℤ) : Type 0 where
  pub follows : epoch_day next ≡ epoch_day date +ℤ pos 1
  pub begins : IsBeginOf tz next begin

-- the second before that; there is none after the last date, and where no second that is held is the next one's begin
abbrev pub IsLastBeforeNext : TimeZone → Date → Option ℤ → Type 0
IsLastBeforeNext tz date None =
    ¬ (epoch_day date <ℤ last_epoch_day) ⊎ ((next : Date) × (begin : Option ℤ) × BeginsNext tz date next begin × IsUnheld begin)
IsLastBeforeNext tz date (Some second) = (next : Date) × BeginsNext tz date next (Some (second +ℤ pos 1))

-- the same, of a date that the clock shows
abbrev pub IsLastOf : TimeZone → Date → Option ℤ → Type 0
IsLastOf tz date None = IsFirstOf tz date None ⊎ IsLastBeforeNext tz date None
IsLastOf tz date (Some second) = ((first : ℤ) × IsFirstOf tz date (Some first)) × IsLastBeforeNext tz date (Some second)

-- ---- the second of a moment

-- the second of a moment in a zone, where `now` is the second given; of a date the one with which it begins
abbrev pub IsSecondOf : TimeZone → ℤ → Moment → Option ℤ → Type 0
IsSecondOf tz now moments.Now found = found ≡ Some now
IsSecondOf tz now (moments.Second second) found = found ≡ Some second
IsSecondOf tz now (moments.Civil civil) found = IsShownIn tz civil found
IsSecondOf tz now (moments.Date date) found = IsFirstOf tz date found

-- the last second up to a moment: of a date the last before the next one begins
abbrev pub IsLastUpTo : TimeZone → ℤ → Moment → Option ℤ → Type 0
IsLastUpTo tz now moments.Now found = found ≡ Some now
IsLastUpTo tz now (moments.Second second) found = found ≡ Some second
IsLastUpTo tz now (moments.Civil civil) found = IsShownIn tz civil found
IsLastUpTo tz now (moments.Date date) found = IsLastOf tz date found

-- after which second runs come from a moment on, whose second is this: a date's first second counts, another doesn't
abbrev pub start_from : Moment → ℤ → ℤ
start_from moments.Now second = second
start_from (moments.Second s) second = second
start_from (moments.Civil civil) second = second
start_from (moments.Date date) second = second -ℤ pos 1

-- the same of a plan: a date and time counts too
abbrev pub plan_from : Moment → ℤ → ℤ
plan_from moments.Now second = second
plan_from (moments.Second s) second = second
plan_from (moments.Civil civil) second = second -ℤ pos 1
plan_from (moments.Date date) second = second -ℤ pos 1

-- ---- the ends of weeks and months

-- the date that a zone's clock shows at a second: there is one where the second is held
abbrev pub IsDateAt : TimeZone → ℤ → Option Date → Type 0
IsDateAt tz second None = ¬ (IsHeldSecond second)
IsDateAt tz second (Some date) = ShowsDate tz date second

-- the date so many days after one, up to the last one
abbrev pub IsDaysAfter : Date → ℤ → Option Date → Type 0
IsDaysAfter date days None = last_epoch_day <ℤ (epoch_day date +ℤ days)
IsDaysAfter date days (Some later) = epoch_day later ≡ epoch_day date +ℤ days

-- the last second before the seventh date after a date, also where the clock skips the sixth
abbrev pub IsEndOfSixth : TimeZone → Date → Option ℤ → Type 0
IsEndOfSixth tz today last =
    ((last ≡ None) × (last_epoch_day <ℤ (epoch_day today +ℤ pos 6)))
    ⊎ ((date : Date) × (epoch_day date ≡ epoch_day today +ℤ pos 6) × IsLastBeforeNext tz date last)

-- of the one that the clock shows at a second
abbrev pub IsEndOfWeek : TimeZone → ℤ → Option ℤ → Type 0
IsEndOfWeek tz second last =
    ((last ≡ None) × ¬ (IsHeldSecond second)) ⊎ ((today : Date) × ShowsDate tz today second × IsEndOfSixth tz today last)

-- the last date of a month
abbrev pub IsLastOfMonth : Date → Date → Type 0
IsLastOfMonth today date = IsYmd today.year (pos today.month) (pos (month_length today)) date

-- the last second before the next month, after the date that the clock shows at a second, also where the clock skips the last date
abbrev pub IsEndOfMonth : TimeZone → ℤ → Option ℤ → Type 0
IsEndOfMonth tz second last =
    ((last ≡ None) × ¬ (IsHeldSecond second))
    ⊎ ((today : Date) × (date : Date) × ShowsDate tz today second × IsLastOfMonth today date × IsLastBeforeNext tz date last)

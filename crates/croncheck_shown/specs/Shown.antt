-- What a clock shows, and reports, as they are shown.
use Rattle.std.specs.Prelude.{◌≡◌, ℕ, ℤ, Bool, true, false, ◌==◌, List, [], ◌∷◌, ◌++◌, codes, Option, Some, None, if◌then◌else◌}
use Rattle.std.specs.Fmt.{decimal, signed_decimal}
use Rattle.jiff.specs.declared.tz.timezone.TimeZone.{TimeZone as JiffZone}
use Rattle.jiff.specs.ZoneView.{plain_zone}
use Rattle.jiff_tz.specs.declared.timezone.TimeZone.{TimeZone}
use Rattle.croner_words.specs.Swedish.{a_with_ring, o_with_dots}
use Rattle.croner_base.specs.declared.time.civil.CivilDateTime.{CivilDateTime}
use Rattle.croner_base.specs.declared.time.table.TableTime.{TableTime}
use Rattle.croner_base.specs.Civil.{wall_second, weekday_of_second}
use Rattle.croner_base.specs.CivilText.{date_text, time_text}
use Rattle.croner_base.specs.TableZone.{table_moment}
use Rattle.croner_base.specs.Zone.{reading}
use Rattle.croner_base.specs.ZoneTable.{ahead_at}
use Rattle.croner_base.specs.ZonedZone.{is_timestamp_second, zone_reads}
use Rattle.croncheck_runs.specs.declared.clock.stop.Stop.{Stop}
use Rattle.croncheck_report.specs.declared.report.Report.{Report}
use Rattle.croncheck_report.specs.declared.report.Report.TheVariants as reports
use Rattle.croncheck_report.specs.declared.settings.Tongue.{Tongue}
use Rattle.croncheck_report.specs.declared.settings.Tongue.TheVariants as tongues
use Rattle.croncheck_report.specs.Offsets.{offset_of}
use Rattle.croncheck_report.specs.Report.{is_setting_found}
use Rattle.cronplan_forms.specs.Clocks.{ahead_text}

-- ---- the clock

-- the front of a weekday's name, by how many days it comes after Sunday
abbrev pub english_weekday : ℕ → List ℕ
english_weekday n =
    if n == 0 then codes "Sun"
    else if n == 1 then codes "Mon"
    else if n == 2 then codes "Tue"
    else if n == 3 then codes "Wed"
    else if n == 4 then codes "Thu"
    else if n == 5 then codes "Fri"
    else codes "Sat"

-- the same in Swedish
abbrev pub swedish_weekday : ℕ → List ℕ
swedish_weekday n =
    if n == 0 then codes "s" ++ (o_with_dots ++ codes "n")
    else if n == 1 then codes "m" ++ (a_with_ring ++ codes "n")
    else if n == 2 then codes "tis"
    else if n == 3 then codes "ons"
    else if n == 4 then codes "tor"
    else if n == 5 then codes "fre"
    else codes "l" ++ (o_with_dots ++ codes "r")

-- the same in a language
abbrev pub weekday_text : Tongue → ℕ → List ℕ
weekday_text tongues.English n = english_weekday n
weekday_text tongues.Swedish n = swedish_weekday n

-- what a clock shows at a second: the weekday, the date, the time and how far it is ahead of UTC; and the second
abbrev pub clock_text : List ℕ → CivilDateTime → ℤ → ℤ → List ℕ
clock_text weekday c ahead second =
    weekday ++ (32 ∷ (date_text c.date.year c.date.month c.date.day ++ (32 ∷ (time_text c.time.hour c.time.minute c.time.second
    ++ (32 ∷ (ahead_text ahead ++ (codes "  @" ++ signed_decimal second)))))))

-- what is shown of a run: the date and time that its clock reads, and how far the zone's clock is ahead of UTC then; the weekday in a language
abbrev pub IsClockTextIn : Tongue → TimeZone → TableTime → List ℕ → Type 0
IsClockTextIn language zone run text =
    (civil : CivilDateTime) × (wall_second civil ≡ reading (table_moment run))
    × (text ≡ clock_text (weekday_text language (weekday_of_second (reading (table_moment run)))) civil (offset_of zone run.second) run.second)

-- the same, with the weekday in English
abbrev pub IsClockText : TimeZone → TableTime → List ℕ → Type 0
IsClockText zone run text = IsClockTextIn tongues.English zone run text

-- ---- the clock of another zone

-- what another zone's clock shows, beside what the first one does: the weekday, the date, the time and how far it is ahead of UTC
abbrev pub other_clock_text : List ℕ → CivilDateTime → ℤ → List ℕ
other_clock_text weekday c ahead =
    codes "  = " ++ (weekday ++ (32 ∷ (date_text c.date.year c.date.month c.date.day
    ++ (32 ∷ (time_text c.time.hour c.time.minute c.time.second ++ (32 ∷ ahead_text ahead))))))

-- what is shown of a zone at a second that it has: the date and time that its clock reads, and how far it is ahead of UTC then; the weekday in a
-- language
abbrev pub IsOtherClockAt : Tongue → TimeZone → ℤ → List ℕ → Type 0
IsOtherClockAt language zone second text =
    (civil : CivilDateTime) × (wall_second civil ≡ zone_reads zone second)
    × (text ≡ other_clock_text (weekday_text language (weekday_of_second (zone_reads zone second))) civil (ahead_at zone second))

-- the same at any second: nothing where the zone doesn't have it
abbrev pub IsOtherClockOf : Tongue → TimeZone → ℤ → List ℕ → Type 0
IsOtherClockOf language zone second text =
    (is_timestamp_second second ≡ true → IsOtherClockAt language zone second text) × (is_timestamp_second second ≡ false → text ≡ [])

-- what is shown of another zone's clock at a second, if one is to be shown; nothing where none is
abbrev pub IsOtherClockText : Tongue → Option JiffZone → ℤ → List ℕ → Type 0
IsOtherClockText language None second text = text ≡ []
IsOtherClockText language (Some zone) second text = IsOtherClockOf language (plain_zone zone) second text

-- ---- the text of a report

-- there is something to tell of a line: it is a job, is refused, sets a variable and something is found of that, or allows a name that no
-- warning has
abbrev pub is_told : Report → Bool
is_told reports.Silent = false
is_told (reports.Misnamed name) = true
is_told (reports.Setting seen has_feed) = is_setting_found seen
is_told (reports.Job j) = true
is_told (reports.Refused start end why) = true

-- a file and the number of a line there, as they stand in front of what is told of it
abbrev pub place_text : List ℕ → ℕ → List ℕ
place_text file line = file ++ (codes ":" ++ (decimal line ++ codes "  "))

-- the text is lines, one at least, the last of which has its line feed
abbrev pub AreLines : List ℕ → Type 0
AreLines text = (front : List ℕ) × (text ≡ front ++ 10 ∷ [])

-- ---- the end of a window

-- what is said of a listing that ends with the clock's window: of its stop, if it has one, in words that no definition says
abbrev pub IsWindowEnd : Option Stop → List ℕ → Type 0
IsWindowEnd None text = text ≡ codes "and maybe more: the zone's clock is not followed any further"
IsWindowEnd (Some stop) text = (words : List ℕ) × (text ≡ codes "and maybe more: the zone's clock is not followed over " ++ words)

-- The starts of jobs as a calendar. Sources: RFC 5545, sections 3.4, 3.6.1, 3.7 and 3.8; RFC 7986, section 5.1 (NAME); RFC 9562, section
-- 5.5 (UUIDs of version 5); and this crate's documentation.
use Rattle.std.specs.Prelude.{ℕ, ℤ, nat_le, ◌==◌, Bool, List, [], ◌∷◌, ◌++◌, take, codes, Option, Some, None, if◌then◌else◌}
use Rattle.std.specs.Fmt.{decimal, signed_decimal}
use Rattle.std.specs.List.{flat_map}
use Rattle.sha1.specs.Sha1.{sha1}
use Rattle.uuid.specs.Parts.{with_version, with_variant}
use Rattle.uuid.specs.Text.{hyphenated_text, lower}
use Rattle.uuid.specs.declared.Version.TheVariants as versions
use Rattle.uuid.specs.declared.Variant.TheVariants as variants
use Rattle.croner_base.specs.declared.time.civil.CivilDateTime.{CivilDateTime}
use Rattle.croner_base.specs.CivilText.{year_text, two_places}
use Rattle.cronplan_forms.specs.declared.calendar.Calendar.{Calendar}
use Rattle.cronplan_forms.specs.declared.calendar.event.Event.{Event}
use Rattle.cronplan_forms.specs.declared.escapes.Form.TheVariants as forms
use Rattle.cronplan_forms.specs.declared.job.Job.{Job}
use Rattle.cronplan_forms.specs.ContentLines.{content_line}
use Rattle.cronplan_forms.specs.Escapes.{escaped_text}

-- ---- lines

-- a property with a value that stands as it is
unfoldable pub property_line : List ℕ → List ℕ → List ℕ
property_line name value = content_line (name ++ (codes ":" ++ value))

-- a property of type TEXT
unfoldable pub text_line : List ℕ → List ℕ → List ℕ
text_line name text = property_line name (escaped_text forms.Text text)

-- a date, as `20241027`, and a time, as `023000`
abbrev pub date_part : ℤ → ℕ → ℕ → List ℕ
date_part year month day = year_text year ++ (two_places month ++ two_places day)

abbrev pub time_part : ℕ → ℕ → ℕ → List ℕ
time_part hour minute second = two_places hour ++ (two_places minute ++ two_places second)

-- a date and a time in UTC, as `20241027T023000Z`
unfoldable pub moment_text : CivilDateTime → List ℕ
moment_text c = date_part c.date.year c.date.month c.date.day ++ (codes "T" ++ (time_part c.time.hour c.time.minute c.time.second ++ codes "Z"))

-- ---- an event

-- what a start is told apart by: which of equal jobs it is of, its second, and the user, the times and the command
unfoldable pub key_text : Job → ℤ → List ℕ
key_text job second =
    decimal job.equal ++ (codes " " ++ (signed_decimal second ++ (codes " " ++ (job.user.now ++ (0 ∷ (job.times.now ++ (0 ∷ job.command.now)))))))

-- the namespace of these, a UUID of this crate's own
abbrev pub namespace : List ℕ
namespace = 43 ∷ 19 ∷ 83 ∷ 19 ∷ 109 ∷ 32 ∷ 78 ∷ 24 ∷ 156 ∷ 208 ∷ 89 ∷ 244 ∷ 13 ∷ 49 ∷ 184 ∷ 130 ∷ []

-- the UUID of version 5 of a name in a namespace
unfoldable pub name_uuid : List ℕ → List ℕ → List ℕ
name_uuid space name = with_version (with_variant (take 16 (sha1 (space ++ name))) variants.RFC4122) versions.Sha1

unfoldable pub uid_text : Job → ℤ → List ℕ
uid_text job second = hyphenated_text lower (name_uuid namespace (key_text job second))

-- how often a job is started at one second, where it isn't once
abbrev pub times_text : ℕ → List ℕ
times_text count = if count == 1 then [] else codes " (" ++ (decimal count ++ codes " times)")

-- the title of a job, and how often it is started
unfoldable pub summary_text : Event → List ℕ
summary_text e = e.job.title.now ++ times_text e.start.count

-- what is said of a job whose whole file cron ignores
abbrev pub ignored_text : Bool → List ℕ
ignored_text is_ignored = if is_ignored then codes "\nCron ignores this file, and doesn't start the job until the file is mended." else []

-- the words for a job's times, in the next line its file and line, and in a third one what is said where cron ignores that file
unfoldable pub words_text : Job → List ℕ
words_text job = (job.words.now ++ (codes "\n" ++ (job.file.now ++ (codes ":" ++ decimal job.line)))) ++ ignored_text job.is_ignored

-- how long an event lasts, where that is told
abbrev pub duration_line : Option ℕ → List ℕ
duration_line None = []
duration_line (Some seconds) = property_line (codes "DURATION") (codes "PT" ++ (decimal seconds ++ codes "S"))

-- the begin of an event, and what it is told apart by
unfoldable pub event_begin : Event → List ℕ
event_begin e = property_line (codes "BEGIN") (codes "VEVENT") ++ property_line (codes "UID") (uid_text e.job e.start.second)

-- when it was made, when it is, and how long it lasts
unfoldable pub event_times : Calendar → CivilDateTime → List ℕ
event_times c start =
    property_line (codes "DTSTAMP") (moment_text c.stamp) ++ (property_line (codes "DTSTART") (moment_text start) ++ duration_line c.lasts)

-- what is told of it
unfoldable pub event_words : Event → List ℕ
event_words e = text_line (codes "SUMMARY") (summary_text e) ++ text_line (codes "DESCRIPTION") (words_text e.job)

-- it takes up no time; its end
unfoldable pub event_end : List ℕ
event_end = property_line (codes "TRANSP") (codes "TRANSPARENT") ++ property_line (codes "END") (codes "VEVENT")

-- an event as it stands in the file
unfoldable pub event_text : Calendar → Event → List ℕ
event_text c e = event_begin e ++ (event_times c e.utc ++ (event_words e ++ event_end))

-- ---- a calendar

-- so many events has a calendar at most
abbrev pub most_events : ℕ
most_events = 2_000

-- what is said where there are more
abbrev pub cut_text : ℕ → List ℕ
cut_text count = if nat_le count most_events then [] else codes " These are the first 2000 of " ++ (decimal count ++ codes " starts.")

-- what is said where cron ignores the whole file of some job
abbrev pub file_text : Bool → List ℕ
file_text has_ignored =
    if has_ignored then codes "cron ignores the files of some of these jobs, and starts none of those: their events say so\n" else []

-- what is told of a calendar: what is left out, and that cron ignores the files of some jobs, where it does
unfoldable pub description_text : Calendar → List ℕ
description_text c = (c.left_out.now ++ file_text c.has_ignored) ++ cut_text c.starts

-- the begin of a calendar: the version of the format, and who wrote it
unfoldable pub calendar_begin : List ℕ
calendar_begin =
    property_line (codes "BEGIN") (codes "VCALENDAR") ++ (property_line (codes "VERSION") (codes "2.0")
    ++ property_line (codes "PRODID") (codes "-//croncheck//plan//EN"))

-- its name, by the standard's property and by the one that programs knew before
unfoldable pub calendar_names : List ℕ → List ℕ
calendar_names name = text_line (codes "NAME") name ++ text_line (codes "X-WR-CALNAME") name

-- the head of a calendar
unfoldable pub calendar_head : Calendar → List ℕ
calendar_head c = calendar_begin ++ (calendar_names c.name.now ++ text_line (codes "DESCRIPTION") (description_text c))

-- some events
unfoldable pub events_text : Calendar → List Event → List ℕ
events_text c events = flat_map (event_text c) events

-- the file of a calendar
unfoldable pub calendar_text : Calendar → List Event → List ℕ
calendar_text c events =
    calendar_head c ++ (events_text c (take most_events events) ++ property_line (codes "END") (codes "VCALENDAR"))

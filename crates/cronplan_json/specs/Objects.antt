-- What stands in the JSON of a plan of its seconds, jobs, moments, windows and dates. The members of an object stand in the order of their
-- names. Source: this crate's documentation.
use Rattle.std.specs.Prelude.{ℕ, suc, ℤ, ◌==◌, ◌||◌, Bool, List, [], ◌∷◌, ◌++◌, codes, map, sum_by, if◌then◌else◌, Option, Some, None, is_some, unwrap_or}
use Rattle.std.specs.Borrow.{Bor}
use Rattle.serde_json.specs.Data.{Data, Members, null, boolean, number, unsigned, string, array, object, member, no_members, put}
use Rattle.serde_json.specs.Find.{of_integer}
use Rattle.serde_json.specs.View.{items_of}
use Rattle.croner_base.specs.declared.time.civil.CivilDateTime.{CivilDateTime}
use Rattle.croner_base.specs.CivilText.{date_text, datetime_text}
use Rattle.cronplan.specs.declared.days.HourCell.{HourCell}
use Rattle.cronplan.specs.declared.frequent.Frequent.{Frequent}
use Rattle.cronplan.specs.declared.start.JobStart.{JobStart}
use Rattle.cronplan.specs.Moments.{at_second}
use Rattle.cronplan.specs.Windows.{seconds_in}
use Rattle.cronplan_forms.specs.declared.beside.Beside.{Beside}
use Rattle.cronplan_forms.specs.declared.beside.Beside.TheVariants as besides
use Rattle.cronplan_forms.specs.declared.beside.ShownTime.{ShownTime}
use Rattle.cronplan_forms.specs.declared.clock.ClockTime.{ClockTime}
use Rattle.cronplan_forms.specs.declared.job.Job.{Job}
use Rattle.cronplan_forms.specs.declared.timed.TimedMoment.{TimedMoment}
use Rattle.cronplan_forms.specs.declared.timed.TimedWindow.{TimedWindow}
use Rattle.cronplan_forms.specs.declared.week.WeekDay.{WeekDay}
use Rattle.cronplan_forms.specs.Answers.{is_at_edge}
use Rattle.cronplan_forms.specs.Clocks.{ahead_text}
use Rattle.cronplan_forms.specs.Frequents.{frequent_count}

-- ---- numbers

-- a number that may be negative
abbrev pub integer : ℤ → Data
integer z = number (of_integer z)

-- a count, and a list of such
abbrev pub count : ℕ → Data
count n = number (unsigned n)

abbrev pub counts : List ℕ → Data
counts ns = array (items_of (map count ns))

-- ---- texts

-- a list of texts
abbrev pub texts : List (Bor (List ℕ)) → Data
texts ts = array (items_of (map (λ (t : Bor (List ℕ)). string t.now) ts))

-- ---- seconds

-- what the clock shows, and how far it is ahead of UTC, as `2027-03-28T03:00:00+02:00`
unfoldable pub time_text : ClockTime → List ℕ
time_text t =
    datetime_text t.civil.date.year t.civil.date.month t.civil.date.day t.civil.time.hour t.civil.time.minute t.civil.time.second
    ++ ahead_text t.ahead.seconds

-- members, with one more at its place, if there is one
abbrev pub with_optional : List ℕ → Option Data → Members → Members
with_optional name None members = members
with_optional name (Some d) members = put name d members

-- a second on one clock: how far the clock is ahead of UTC then, its number, and that text
abbrev pub clock_members : ClockTime → Members
clock_members t =
    member (codes "offset") (integer t.ahead.seconds)
    (member (codes "second") (integer t.second)
    (member (codes "time") (string (time_text t)) no_members))

-- the same on the clock of a second zone, if one is shown; null where that isn't followed
abbrev pub shown_data : Beside → Option Data
shown_data besides.Nothing = None
shown_data besides.Unfollowed = Some null
shown_data (besides.Shown t) = Some (object (clock_members t))

abbrev pub with_shown : Beside → Members → Members
with_shown beside members = with_optional (codes "shown") (shown_data beside) members

-- a second on both clocks
abbrev pub instant_object : ShownTime → Data
instant_object t = object (with_shown t.beside (clock_members t.own))

-- ---- jobs

-- how many starts of the job at a place one is, and how many all are
abbrev pub added_of : ℕ → JobStart → ℕ
added_of place s = if s.job == place then s.count else 0

abbrev pub starts_of : ℕ → List JobStart → ℕ
starts_of place starts = sum_by (added_of place) starts

-- how many starts the job at a place has: one of those that start too often, or of the plan
abbrev pub job_starts : List Frequent → List JobStart → ℕ → ℕ
job_starts frequent starts place = unwrap_or (frequent_count frequent place) (starts_of place starts)

-- a job with so many starts, which starts too often to be shown, or not; and whether cron ignores its whole file
abbrev pub job_members : Job → ℕ → Bool → Members
job_members job starts is_frequent =
    member (codes "file") (string job.file.now)
    (member (codes "frequent") (boolean is_frequent)
    (member (codes "ignored") (boolean job.is_ignored)
    (member (codes "line") (count job.line)
    (member (codes "starts") (count starts)
    (member (codes "times") (string job.times.now)
    (member (codes "title") (string job.title.now)
    (member (codes "words") (string job.words.now) no_members)))))))

-- the name of its user, where it has one
abbrev pub user_data : List ℕ → Option Data
user_data [] = None
user_data (c ∷ cs) = Some (string (c ∷ cs))

-- both
abbrev pub job_object : Job → ℕ → Bool → Data
job_object job starts is_frequent = object (with_optional (codes "user") (user_data job.user.now) (job_members job starts is_frequent))

-- each of the jobs from a place on
abbrev pub job_objects : List Frequent → List JobStart → ℕ → List Job → List Data
job_objects frequent starts place [] = []
job_objects frequent starts place (job ∷ jobs) =
    job_object job (job_starts frequent starts place) (is_some (frequent_count frequent place)) ∷ job_objects frequent starts (suc place) jobs

-- ---- moments

-- how many times each of the jobs of starts is started, and their places
abbrev pub counts_of : List JobStart → Data
counts_of starts = array (items_of (map (λ s. count s.count) starts))

abbrev pub places_of : List JobStart → Data
places_of starts = array (items_of (map (λ s. count s.job) starts))

-- a moment with these starts: those two, when it is, and how many starts there are
abbrev pub moment_members : List JobStart → TimedMoment → Members
moment_members starts m =
    member (codes "counts") (counts_of starts)
    (member (codes "jobs") (places_of starts)
    (member (codes "offset") (integer m.time.own.ahead.seconds)
    (member (codes "second") (integer m.moment.second)
    (member (codes "starts") (count m.moment.starts)
    (member (codes "time") (string (time_text m.time.own)) no_members)))))

abbrev pub starts_object : List JobStart → TimedMoment → Data
starts_object starts m = object (with_shown m.time.beside (moment_members starts m))

-- a moment of a plan with such starts
abbrev pub moment_object : List JobStart → TimedMoment → Data
moment_object starts m = starts_object (at_second m.moment.second starts) m

-- ---- windows

-- a window: where it begins, whether it may be longer, how many seconds it has, and where it ends
abbrev pub window_object : TimedWindow → Data
window_object w = object
    (member (codes "from") (instant_object w.from)
    (member (codes "open") (boolean (is_at_edge w.window))
    (member (codes "seconds") (count (seconds_in w.window))
    (member (codes "to") (instant_object w.until) no_members))))

-- ---- dates

-- the date with whose begin this is one, as a text; null where the calendar has none
abbrev pub date_data : Option CivilDateTime → Data
date_data None = null
date_data (Some c) = string (date_text c.date.year c.date.month c.date.day)

-- an hour: how many starts there are in it, or null where the clock skips it or the plan doesn't have it
abbrev pub hour_data : HourCell → Data
hour_data cell = if cell.skipped || cell.outside then null else count cell.starts

-- a date: which it is, its hours, and how many starts it has
abbrev pub day_object : WeekDay → Data
day_object d = object
    (member (codes "date") (date_data d.name.civil)
    (member (codes "hours") (array (items_of (map hour_data d.day.now.hours.items)))
    (member (codes "starts") (count d.day.now.starts) no_members)))

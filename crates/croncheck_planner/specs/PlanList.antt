-- A plan as a list. Source: docs/CRONTAB.md ("A plan").
use Rattle.std.specs.Prelude.{◌≡◌, ◌==◌, ◌&&◌, ℕ, ℤ, Bool, true, false, List, [], ◌∷◌, ◌++◌, codes, length, map, slice_get, Option, Some, None, string_bytes, if◌then◌else◌}
use Rattle.std.specs.List.{list_any}
use Rattle.std.specs.Fmt.{decimal}
use Rattle.jiff.specs.ZoneView.{plain_zone}
use Rattle.croner_base.specs.declared.time.table.ClockTable.{ClockTable}
use Rattle.croner_base.specs.declared.time.table.TableTime.{TableTime}
use Rattle.croner_base.specs.Table.{is_table_second}
use Rattle.crontab.specs.Checked.{TakesInTurn}
use Rattle.cronplan_jobs.specs.declared.listing.Schedule.{Schedule}
use Rattle.cronplan_jobs.specs.declared.listing.Schedule.TheVariants as schedules
use Rattle.cronplan.specs.declared.start.JobStart.{JobStart}
use Rattle.cronplan.specs.Starts.{most_starts}
use Rattle.croncheck_planner.specs.declared.plan.Ending.{Ending}
use Rattle.croncheck_planner.specs.declared.plan.Ending.TheVariants as endings
use Rattle.croncheck_planner.specs.declared.plan.Found.{Found}
use Rattle.croncheck_planner.specs.declared.planner.Planned.{Planned}
use Rattle.croncheck_runs.specs.declared.runs.Listing.{Listing}
use Rattle.croncheck_runs.specs.declared.runs.Listing.TheVariants as listings
use Rattle.croncheck_report.specs.declared.settings.Settings.{Settings}
use Rattle.croncheck_report.specs.declared.shared.Shared.{Shared}
use Rattle.croncheck_output.specs.Output.{Written, WritesText, WritesApart}
use Rattle.croncheck_planner.specs.Plan.{is_new, starts_listed, ending_of}
use Rattle.croncheck_report.specs.Settings.{start_of, window_end}
use Rattle.croncheck_shown.specs.Shown.{IsClockText, IsWindowEnd}

-- ---- whose starts these are

-- a job of a crontab
abbrev pub is_crontab : Schedule → Bool
is_crontab (schedules.Crontab job) = true
is_crontab (schedules.Pattern cron) = false

-- a pattern
abbrev pub is_pattern : Schedule → Bool
is_pattern (schedules.Crontab job) = false
is_pattern (schedules.Pattern cron) = true

-- those of a crontab's jobs are what cron starts, and those of patterns what croner runs
abbrev pub whose_by_kinds : Bool → Bool → List ℕ
whose_by_kinds has_crontab has_pattern =
    if has_crontab && has_pattern then codes "these are cron's starts of the crontabs, and croner's runs of the patterns\n"
    else if has_crontab then codes "these are cron's starts\n" else codes "these are croner's runs\n"

-- the same of jobs
abbrev pub whose_text : List Schedule → List ℕ
whose_text jobs = whose_by_kinds (list_any is_crontab jobs) (list_any is_pattern jobs)

-- what stands in front of the starts of a list: whose they are, where there are any
abbrev pub head_text : List ℕ → Bool → List ℕ
head_text text is_empty = if is_empty then [] else text

-- ---- the line of a start

-- what is shown of each job
abbrev pub labels : List Planned → List (List ℕ)
labels jobs = map (λ j. string_bytes j.label) jobs

-- it, or nothing where there is no such job
abbrev pub label_or_none : Option (List ℕ) → List ℕ
label_or_none None = []
label_or_none (Some label) = label

-- what is shown of the job at a place
abbrev pub label_at : List (List ℕ) → ℕ → List ℕ
label_at all k = label_or_none (slice_get all k)

-- how often a job is started at one second, where it isn't once
abbrev pub times_text : ℕ → List ℕ
times_text count = if count == 1 then [] else codes "  " ++ (decimal count ++ codes " times")

-- a start, as a line
abbrev pub line_text : List (List ℕ) → JobStart → List ℕ
line_text all s = label_at all s.job ++ (times_text s.count ++ 10 ∷ [])

-- ---- moments

-- what the zone's clock shows at a second of its table
abbrev pub IsClockAt : Shared → ClockTable → ℤ → List ℕ → Type 0
IsClockAt shared table second text =
    is_table_second second ≡ true → (time : TableTime) × (time.second ≡ second) × (time.table.now ≡ table) × IsClockText (plain_zone shared.zone) time text

-- what another zone's clock shows, in words that no definition says; nothing where none is to be shown
abbrev pub IsOtherClock : Shared → List ℕ → Type 0
IsOtherClock shared text = shared.other_zone ≡ None → text ≡ []

-- a moment: what the zone's clock shows, and another's, and this line below it
abbrev pub IsMomentText : Settings → Shared → ℤ → List ℕ → List ℕ → Type 0
IsMomentText s shared second line text =
    (clock : List ℕ) × (other : List ℕ) × IsClockAt shared (start_of s).table.now second clock × IsOtherClock shared other
    × (text ≡ clock ++ (other ++ 10 ∷ line))

-- it was written, set apart
abbrev pub WritesMoment : Settings → Shared → ℤ → List ℕ → Written → Written → Type 0
WritesMoment s shared second line old new = (text : List ℕ) × IsMomentText s shared second line text × WritesApart text old new

-- a start was written: with its moment, where it begins one, and else below the start before
abbrev pub WritesLine : Settings → Shared → List (List ℕ) → Bool → JobStart → Written → Written → Type 0
WritesLine s shared all true start old new = WritesMoment s shared start.second (line_text all start) old new
WritesLine s shared all false start old new = WritesText (line_text all start) old new

-- the second of the start before, if there is one, and what was written
pub record At : Type 0 where
  pub last : Option ℤ
  pub written : Written

-- the next one was, after the start before
abbrev pub WritesNext : Settings → Shared → List (List ℕ) → At → JobStart → At → Type 0
WritesNext s shared all old start new =
    WritesLine s shared all (is_new old.last start) start old.written new.written × (new.last ≡ Some start.second)

-- starts were written, in order
abbrev pub WritesStarts : Settings → Shared → List (List ℕ) → List JobStart → Written → Written → Type 0
WritesStarts s shared all starts old new =
    (last : Option ℤ) × TakesInTurn (WritesNext s shared all) (record { last = None; written = old }) starts (record { last = last; written = new })

-- ---- the end

-- where no start is left; it may be that no job starts at all
abbrev pub over_text : Bool → List ℕ
over_text is_empty =
    if is_empty then codes "no job starts: no start is left before year 5000\n" else codes "no more: no start is left before year 5000\n"

-- where more may come: nothing, but of a list up to a second that has no start
abbrev pub more_text : Listing → Bool → List ℕ
more_text (listings.Count count) is_empty = []
more_text (listings.Until until) is_empty = if is_empty then codes "no start up to then\n" else []

abbrev pub cut_text : List ℕ
cut_text = codes "and more: a plan ends after " ++ (decimal most_starts ++ codes " starts\n")

-- where the clock's window ends: before year 5000, or none is left
abbrev pub IsWholeEnd : Shared → Option ℤ → Bool → List ℕ → Type 0
IsWholeEnd shared None is_empty text = text ≡ over_text is_empty
IsWholeEnd shared (Some last) is_empty text = (said : List ℕ) × IsWindowEnd shared.stop said × (text ≡ said ++ 10 ∷ [])

-- what stands after the starts of a list, or after none
abbrev pub IsListEnd : Settings → Shared → Ending → Bool → List ℕ → Type 0
IsListEnd s shared endings.More is_empty text = text ≡ more_text s.listing is_empty
IsListEnd s shared endings.Cut is_empty text = text ≡ cut_text
IsListEnd s shared endings.Whole is_empty text = IsWholeEnd shared (window_end s) is_empty text

-- the list of what was found was written: whose its starts are, these in order, and how it ends
pub record WritesList (s : Settings) (shared : Shared) (front : List ℕ) (all : List (List ℕ)) (found : Found) (old new : Written) : Type 0 where
  pub begun : Written
  pub between : Written
  pub text : List ℕ
  pub head : WritesApart (head_text front (length (starts_listed s.listing found) == 0)) old begun
  pub starts : WritesStarts s shared all (starts_listed s.listing found) begun between
  pub end_is : IsListEnd s shared (ending_of s.listing (window_end s) found) (length (starts_listed s.listing found) == 0) text
  pub end : WritesApart text between new

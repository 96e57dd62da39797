-- What a plan answers, as lines of text. Source: this crate's documentation.
use Rattle.std.specs.Prelude.{◌≡◌, ◌==◌, ◌<◌, nat_lt, ◌||◌, ◌*◌, ℕ, suc, pos, Bool, true, false, List, [], ◌∷◌, ◌++◌, codes, length, map, slice_get, slice_index_or, Option, Some, None, if◌then◌else◌}
use Rattle.std.specs.Fmt.{decimal}
use Rattle.std.specs.List.{All, flat_map}
use Rattle.std.specs.List.Sorted.{IsSorted}
use Rattle.croner_base.specs.Excerpt.{excerpt, excerpt_characters}
use Rattle.croner_base.specs.Zone.{Zone}
use Rattle.cronplan.specs.declared.counts.Unit.TheVariants as units
use Rattle.cronplan.specs.declared.frequent.Frequent.{Frequent}
use Rattle.cronplan.specs.declared.plan.Plan.{Plan}
use Rattle.cronplan.specs.declared.start.JobStart.{JobStart}
use Rattle.cronplan.specs.declared.windows.Bound.{Bound}
use Rattle.cronplan.specs.declared.windows.Bound.TheVariants as bounds
use Rattle.cronplan.specs.declared.windows.Window.{Window}
use Rattle.cronplan.specs.Counts.{starts_at}
use Rattle.cronplan.specs.Moments.{AreFullest}
use Rattle.cronplan.specs.Starts.{most_starts}
use Rattle.cronplan.specs.Together.{AreTogether}
use Rattle.cronplan.specs.Windows.{AreWindows, longest_cmp, seconds_in}
use Rattle.cronplan_forms.specs.declared.answers.busy.ShownMoment.{ShownMoment}
use Rattle.cronplan_forms.specs.declared.answers.quiet.ShownWindow.{ShownWindow}
use Rattle.cronplan_forms.specs.declared.answers.together.ShownSet.{ShownSet}
use Rattle.cronplan_forms.specs.declared.job.Job.{Job}
use Rattle.cronplan_forms.specs.declared.view.View.{View}
use Rattle.cronplan_forms.specs.Clocks.{IsClockAt, clock_text, clock_time_text, lasting_text}

-- ---- when nothing starts

-- a window's sides are shown as the clock of a zone has them
pub record IsShownWindow (z : Zone) (s : ShownWindow) : Type 0 where
  pub from : IsClockAt z s.window.from.second s.from
  pub until : IsClockAt z s.window.until.second s.until

-- the windows of a plan that are so long at least: the longest first, and of equal ones the earlier
pub record IsQuiet (z : Zone) (p : Plan) (least : ℕ) (shown : List ShownWindow) : Type 0 where
  pub windows : List Window
  pub are_windows : AreWindows p.starts.items p.span least windows
  pub longest : IsSorted longest_cmp windows
  pub of_them : map (λ s. s.window) shown ≡ windows
  pub each : All (IsShownWindow z) shown

-- it may be longer than the plan has it
abbrev pub is_edge : Bound → Bool
is_edge bounds.Start = false
is_edge bounds.Span = true

-- a window that may be longer
abbrev pub is_at_edge : Window → Bool
is_at_edge w = is_edge w.from.bound || is_edge w.until.bound

-- from when to when it is, and how long
abbrev pub window_text : ShownWindow → List ℕ
window_text s =
    clock_time_text s.from ++ (codes " to " ++ (clock_time_text s.until ++ (codes "  " ++ (lasting_text (seconds_in s.window)
    ++ (if is_at_edge s.window then codes " or longer" else [])))))

-- as a line
unfoldable pub window_line : ShownWindow → List ℕ
window_line s = codes "  " ++ (window_text s ++ codes "\n")

-- a plan shows all jobs: none is left out
abbrev pub shows_all : View → Bool
shows_all v = length v.frequent.now == 0

-- nothing starts; or nothing of what is shown does, where jobs are left out
abbrev pub silence_text : Bool → List ℕ
silence_text is_whole = if is_whole then codes "nothing starts" else codes "nothing starts but what is left out"

-- what stands in front of these lines, or where there is none
unfoldable pub no_window : Bool → ℕ → List ℕ
no_window is_whole least = codes "no window of " ++ (lasting_text least ++ (codes " or longer in which " ++ (silence_text is_whole ++ codes "\n")))

unfoldable pub some_windows : Bool → ℕ → List ℕ
some_windows is_whole least = codes "windows of " ++ (lasting_text least ++ (codes " or longer in which " ++ (silence_text is_whole ++ codes ":\n")))

abbrev pub quiet_head : Bool → Bool → ℕ → List ℕ
quiet_head is_empty is_whole least = if is_empty then no_window is_whole least else some_windows is_whole least

-- ---- when most starts

-- a moment is shown as the clock of a zone has it
abbrev pub IsShownMoment : Zone → ShownMoment → Type 0
IsShownMoment z s = IsClockAt z s.moment.second s.at

-- for each hour of the day, how many starts come in it
abbrev pub AreHourCounts : List JobStart → List ℕ → Type 0
AreHourCounts starts hours = (length hours ≡ 24) × ((k : ℕ) (d : ℕ) → k < 24 → slice_index_or hours k d ≡ starts_at units.HourOfDay (pos k) starts)

-- the fullest moments of a plan, so many at most, and those counts
pub record IsBusy (z : Zone) (p : Plan) (most : ℕ) (shown : List ShownMoment) (hours : List ℕ) : Type 0 where
  pub fullest : AreFullest p.starts.items most (map (λ s. s.moment) shown)
  pub each : All (IsShownMoment z) shown
  pub counts : AreHourCounts p.starts.items hours

-- so many starts
abbrev pub starts_text : ℕ → List ℕ
starts_text n = if n == 1 then codes "1 start" else decimal n ++ codes " starts"

-- when it is, and how many starts there are
abbrev pub moment_text : ShownMoment → List ℕ
moment_text s = clock_time_text s.at ++ (codes "  " ++ starts_text s.moment.starts)

-- as a line
unfoldable pub moment_line : ShownMoment → List ℕ
moment_line s = codes "  " ++ (moment_text s ++ codes "\n")

unfoldable pub moment_lines : List ShownMoment → List ℕ
moment_lines shown = flat_map moment_line shown

-- an hour of the day, and how many starts come in it
unfoldable pub counted_hour : ℕ → ℕ → List ℕ
counted_hour hour count = codes "  " ++ (clock_text (hour * 3_600) ++ (codes "  " ++ (starts_text count ++ codes "\n")))

-- the same as a line of its own; nothing where nothing starts in it
abbrev pub hour_line : ℕ → ℕ → List ℕ
hour_line hour count = if count == 0 then [] else counted_hour hour count

-- the hours from one on
abbrev pub hour_lines : ℕ → List ℕ → List ℕ
hour_lines hour [] = []
hour_lines hour (n ∷ ns) = hour_line hour n ++ hour_lines (suc hour) ns

-- all of these, each with what stands in front
unfoldable pub busy_lines : List ShownMoment → List ℕ → List ℕ
busy_lines shown hours =
    codes "the fullest moments:\n" ++ (moment_lines shown ++ (codes "starts by the hour of the day:\n" ++ hour_lines 0 hours))

-- there is no moment
unfoldable pub no_moment : Bool → List ℕ
no_moment is_whole = codes "no moment: " ++ (silence_text is_whole ++ codes "\n")

-- the same, or what is said where nothing starts
abbrev pub busy_text : Bool → List ShownMoment → List ℕ → List ℕ
busy_text is_whole [] hours = no_moment is_whole
busy_text is_whole (s ∷ ss) hours = busy_lines (s ∷ ss) hours

-- ---- jobs by their titles and lines, and what a plan leaves out

-- the titles of jobs, and that of the job at a place
abbrev pub titles_of : List Job → List (List ℕ)
titles_of jobs = map (λ j. j.title.now) jobs

abbrev pub title_or_none : Option (List ℕ) → List ℕ
title_or_none None = []
title_or_none (Some title) = title

abbrev pub title_at : List (List ℕ) → ℕ → List ℕ
title_at titles k = title_or_none (slice_get titles k)

-- a job by its file and line
abbrev pub label_text : Job → List ℕ
label_text job = job.file.now ++ (codes ":" ++ decimal job.line)

-- the same of each
abbrev pub labels_of : List Job → List (List ℕ)
labels_of jobs = map label_text jobs

-- that of the job at a place
abbrev pub label_at : List (List ℕ) → ℕ → List ℕ
label_at labels k = title_or_none (slice_get labels k)

-- a job by its file and line, and its title: that at a place
unfoldable pub quoted_title : List ℕ → List ℕ
quoted_title title = codes " " ++ excerpt excerpt_characters title

unfoldable pub job_name : List Job → ℕ → List ℕ
job_name jobs k = label_at (labels_of jobs) k ++ quoted_title (title_at (titles_of jobs) k)

-- a job has so many starts, or more: more than a plan keeps are not counted to the end
abbrev pub or_more : ℕ → List ℕ
or_more starts = if nat_lt most_starts starts then codes " or more" else []

-- a job that starts too often, as a line: this, and how many starts it has
unfoldable pub starts_line : ℕ → List ℕ
starts_line starts = codes ", " ++ (starts_text starts ++ (or_more starts ++ codes "\n"))

unfoldable pub left_out_line : List Job → Frequent → List ℕ
left_out_line jobs job = codes "left out, since it starts too often (--most-a-day): " ++ (job_name jobs job.job ++ starts_line job.starts)

-- each of these as a line
unfoldable pub left_out_lines : List Job → List Frequent → List ℕ
left_out_lines jobs frequent = flat_map (left_out_line jobs) frequent

-- where the plan ends before what was asked for
abbrev pub cut_line : Bool → List ℕ
cut_line is_cut = if is_cut then codes "the plan ends after " ++ (decimal most_starts ++ codes " starts, before what was asked for\n") else []

-- all that a plan leaves out
abbrev pub left_out_text : View → List ℕ
left_out_text v = left_out_lines v.jobs.now v.frequent.now ++ cut_line v.is_cut

-- ---- what starts together

-- when these jobs start together first is shown as the clock of a zone has it
abbrev pub IsShownSet : Zone → ShownSet → Type 0
IsShownSet z s = IsClockAt z s.set.now.first.second s.first

-- the sets of jobs of a plan that start together
pub record IsTogetherShown (z : Zone) (p : Plan) (shown : List ShownSet) : Type 0 where
  pub sets : AreTogether p.starts.items (map (λ s. s.set.now) shown)
  pub each : All (IsShownSet z) shown

-- what the jobs at these places are called, a plus sign between two of them
unfoldable pub added_name : List Job → ℕ → List ℕ
added_name jobs k = codes " + " ++ job_name jobs k

unfoldable pub joined_after : List Job → List ℕ → List ℕ
joined_after jobs places = flat_map (added_name jobs) places

abbrev pub joined : List Job → List ℕ → List ℕ
joined jobs [] = []
joined jobs (k ∷ ks) = job_name jobs k ++ joined_after jobs ks

-- how many moments there are
abbrev pub times_text : ℕ → List ℕ
times_text n = if n == 1 then codes "  once" else codes "  " ++ (decimal n ++ codes " times")

-- a set as a line
unfoldable pub set_line : List Job → ShownSet → List ℕ
set_line jobs s =
    codes "  " ++ (joined jobs s.set.now.jobs.items ++ (times_text s.set.now.moments ++ (codes ", first " ++ (clock_time_text s.first ++ codes "\n"))))

unfoldable pub set_lines : List Job → List ShownSet → List ℕ
set_lines jobs shown = flat_map (set_line jobs) shown

-- all sets, and what stands in front of them, or where there is none
abbrev pub together_text : List Job → List ShownSet → List ℕ
together_text jobs [] = codes "no two jobs start together\n"
together_text jobs (s ∷ ss) = codes "jobs that start together:\n" ++ set_lines jobs (s ∷ ss)

-- The object of a plan has no float, so that its text is known.
use Rattle.std.proofs.Common.{◌≡◌, ◌∙◌, ℕ, suc, ℤ, pos, negsuc, List, [], ◌∷◌, ◌||◌, Bool, true, false, if◌then◌else◌, Option, Some, None, map, ap, refl}
use Rattle.std.specs.Borrow.{Bor}
use Rattle.std.specs.Prelude.{codes, is_some}
use Rattle.croner_base.specs.declared.time.civil.CivilDateTime.{CivilDateTime}
use Rattle.cronplan.specs.declared.days.HourCell.{HourCell}
use Rattle.cronplan.specs.declared.frequent.Frequent.{Frequent}
use Rattle.cronplan.specs.declared.start.JobStart.{JobStart}
use Rattle.cronplan_forms.specs.declared.beside.Beside.{Beside}
use Rattle.cronplan_forms.specs.declared.beside.Beside.TheVariants as besides
use Rattle.cronplan_forms.specs.declared.beside.OtherClock.{OtherClock}
use Rattle.cronplan_forms.specs.declared.beside.ShownTime.{ShownTime}
use Rattle.cronplan_forms.specs.declared.clock.ClockTime.{ClockTime}
use Rattle.cronplan_forms.specs.declared.job.Job.{Job}
use Rattle.cronplan_forms.specs.declared.timed.TimedMoment.{TimedMoment}
use Rattle.cronplan_forms.specs.declared.timed.TimedWindow.{TimedWindow}
use Rattle.cronplan_forms.specs.declared.view.View.{View}
use Rattle.cronplan_forms.specs.declared.week.WeekDay.{WeekDay}
use Rattle.cronplan.specs.Moments.{at_second}
use Rattle.serde_json.specs.Data.{Data, Members, null, string, array, object, put}
use Rattle.serde_json.specs.Find.{is_float, of_integer}
use Rattle.serde_json.specs.View.{items_of}
use Rattle.serde_json.specs.Written.{has_float, items_have_float, members_have_float, compact_text}
use Rattle.cronplan_forms.specs.Frequents.{frequent_count}
use Rattle.cronplan_json.specs.Objects.{count, counts, clock_members, instant_object, job_starts, job_members, user_data, with_optional, with_shown, job_object, job_objects, moment_object, moment_members, window_object, date_data, hour_data, day_object}
use Rattle.cronplan_json.specs.PlanJson.{Told, other_zone, plan_members, plan_object, view_members, IsPlanData, IsPlanJson}

integer_whole : (z : ℤ) → is_float (of_integer z) ≡ false
integer_whole (pos n) = refl
integer_whole (negsuc n) = refl

counts_whole : (ns : List ℕ) → items_have_float (items_of (map count ns)) ≡ false
counts_whole [] = refl
counts_whole (n ∷ ns) = counts_whole ns

texts_whole : (ts : List (Bor (List ℕ))) → items_have_float (items_of (map (λ (t : Bor (List ℕ)). string t.now) ts)) ≡ false
texts_whole [] = refl
texts_whole (t ∷ ts) = texts_whole ts

clock_whole : (t : ClockTime) → members_have_float (clock_members t) ≡ false
clock_whole t = rw (integer_whole t.ahead.seconds, integer_whole t.second) refl

instant_whole : (t : ShownTime) → has_float (instant_object t) ≡ false
instant_whole t = at t.beside where
  at : (b : Beside) → members_have_float (with_shown b (clock_members t.own)) ≡ false
  at besides.Nothing = clock_whole t.own
  at besides.Unfollowed = rw (integer_whole t.own.ahead.seconds, integer_whole t.own.second) refl
  at (besides.Shown s) = rw (integer_whole t.own.ahead.seconds, integer_whole t.own.second, integer_whole s.ahead.seconds, integer_whole s.second) refl

user_whole : (user : List ℕ) (job : Job) (starts : ℕ) (is_frequent : Bool) → members_have_float (with_optional (codes "user") (user_data user) (job_members job starts is_frequent)) ≡ false
user_whole [] job starts is_frequent = refl
user_whole (c ∷ cs) job starts is_frequent = refl

job_whole : (job : Job) (starts : ℕ) (is_frequent : Bool) → has_float (job_object job starts is_frequent) ≡ false
job_whole job starts is_frequent = user_whole job.user.now job starts is_frequent

jobs_whole : (frequent : List Frequent) (starts : List JobStart) (place : ℕ) (jobs : List Job) → items_have_float (items_of (job_objects frequent starts place jobs)) ≡ false
jobs_whole frequent starts place [] = refl
jobs_whole frequent starts place (job ∷ jobs) =
    rw (job_whole job (job_starts frequent starts place) (is_some (frequent_count frequent place))) (jobs_whole frequent starts (suc place) jobs)

own_whole : (f : JobStart → ℕ) (starts : List JobStart) → items_have_float (items_of (map (λ (s : JobStart). count (f s)) starts)) ≡ false
own_whole f [] = refl
own_whole f (s ∷ ss) = own_whole f ss

moment_whole : (starts : List JobStart) (m : TimedMoment) → has_float (moment_object starts m) ≡ false
moment_whole starts m = at m.time.beside where
  starts_then : List JobStart
  starts_then = at_second m.moment.second starts

  at : (b : Beside) → members_have_float (with_shown b (moment_members starts_then m)) ≡ false
  at besides.Nothing = rw (own_whole (λ (t : JobStart). t.count) starts_then, own_whole (λ (t : JobStart). t.job) starts_then, integer_whole m.time.own.ahead.seconds, integer_whole m.moment.second) refl
  at besides.Unfollowed = rw (own_whole (λ (t : JobStart). t.count) starts_then, own_whole (λ (t : JobStart). t.job) starts_then, integer_whole m.time.own.ahead.seconds, integer_whole m.moment.second) refl
  at (besides.Shown s) = rw (own_whole (λ (t : JobStart). t.count) starts_then, own_whole (λ (t : JobStart). t.job) starts_then, integer_whole m.time.own.ahead.seconds, integer_whole m.moment.second, integer_whole s.ahead.seconds, integer_whole s.second) refl

moments_whole : (starts : List JobStart) (timed : List TimedMoment) → items_have_float (items_of (map (moment_object starts) timed)) ≡ false
moments_whole starts [] = refl
moments_whole starts (s ∷ ss) = rw (moment_whole starts s) (moments_whole starts ss)

window_whole : (s : TimedWindow) → has_float (window_object s) ≡ false
window_whole s = rw (instant_whole s.from, instant_whole s.until) refl

windows_whole : (timed : List TimedWindow) → items_have_float (items_of (map window_object timed)) ≡ false
windows_whole [] = refl
windows_whole (s ∷ ss) = rw (window_whole s) (windows_whole ss)

hour_whole : (cell : HourCell) → has_float (hour_data cell) ≡ false
hour_whole cell = at (cell.skipped || cell.outside) where
  at : (b : Bool) → has_float (if b then null else count cell.starts) ≡ false
  at true = refl
  at false = refl

hours_whole : (cells : List HourCell) → items_have_float (items_of (map hour_data cells)) ≡ false
hours_whole [] = refl
hours_whole (cell ∷ cells) = rw (hour_whole cell) (hours_whole cells)

date_whole : (begin : Option CivilDateTime) → has_float (date_data begin) ≡ false
date_whole None = refl
date_whole (Some c) = refl

day_whole : (d : WeekDay) → has_float (day_object d) ≡ false
day_whole d = rw (date_whole d.name.civil, hours_whole d.day.now.hours.items) refl

days_whole : (shown : List WeekDay) → items_have_float (items_of (map day_object shown)) ≡ false
days_whole [] = refl
days_whole (d ∷ ds) = rw (day_whole d) (days_whole ds)

plan_whole : (v : View) (lines : List (Bor (List ℕ))) (told : Told) → has_float (plan_object v lines told) ≡ false
plan_whole v lines told = at v.other where
  days : Data
  days = array (items_of (map day_object told.days))

  moments : Data
  moments = array (items_of (map (moment_object v.plan.now.starts.items) told.moments))

  quiet : Data
  quiet = array (items_of (map window_object told.quiet))

  at : (o : Option OtherClock)
      → members_have_float (with_optional (codes "shown_zone") (other_zone o) (plan_members v lines told.first told.end days (counts told.hours) moments quiet)) ≡ false
  at None =
      rw (
        days_whole told.days,
        instant_whole told.first,
        counts_whole told.hours,
        jobs_whole v.frequent.now v.plan.now.starts.items 0 v.jobs.now,
        moments_whole v.plan.now.starts.items told.moments,
        windows_whole told.quiet,
        texts_whole lines,
        instant_whole told.end,
      ) refl
  at (Some other) =
      rw (
        days_whole told.days,
        instant_whole told.first,
        counts_whole told.hours,
        jobs_whole v.frequent.now v.plan.now.starts.items 0 v.jobs.now,
        moments_whole v.plan.now.starts.items told.moments,
        windows_whole told.quiet,
        texts_whole lines,
        instant_whole told.end,
      ) refl

-- the members of a view, with such lists put at their places and with the second zone, are those of what is told
pub with_lists : (v : View) (lines : List (Bor (List ℕ))) (told : Told) (own dated hourly momentary quieted all : Members) (days hours moments quiet : Data) → own ≡ view_members v lines told.first told.end
    → dated ≡ put (codes "days") days own → hourly ≡ put (codes "hours") hours dated → momentary ≡ put (codes "moments") moments hourly
    → quieted ≡ put (codes "quiet") quiet momentary → all ≡ with_optional (codes "shown_zone") (other_zone v.other) quieted
    → days ≡ array (items_of (map day_object told.days)) → hours ≡ counts told.hours
    → moments ≡ array (items_of (map (moment_object v.plan.now.starts.items) told.moments)) → quiet ≡ array (items_of (map window_object told.quiet))
    → object all ≡ plan_object v lines told
with_lists v lines told own dated hourly momentary quieted all days hours moments quiet own_is dated_is hourly_is momentary_is quieted_is all_is days_are hours_are moments_are quiet_are =
    ap (λ (m : Members). object m)
    (all_is ∙ ap (λ (m : Members). with_optional (codes "shown_zone") (other_zone v.other) m)
    (quieted_is ∙ ap (λ (m : Members). put (codes "quiet") quiet m)
    (momentary_is ∙ ap (λ (m : Members). put (codes "moments") moments m)
    (hourly_is ∙ ap (λ (m : Members). put (codes "hours") hours m) (dated_is ∙ ap (λ (m : Members). put (codes "days") days m) own_is)))))
    ∙ rw (days_are, hours_are, moments_are, quiet_are) refl

-- so its text is that of the object
pub text_of_plan : (v : View) (lines : List (Bor (List ℕ))) (d : Data) (text : List ℕ) → IsPlanData v lines d → (has_float d ≡ false → text ≡ compact_text d) → IsPlanJson v lines text
text_of_plan v lines d text is text_is = record {
  told = is.told;
  is_told = is.is_told;
  text_is = text_is (ap has_float is.data_is ∙ plan_whole v lines is.told) ∙ ap compact_text is.data_is;
}

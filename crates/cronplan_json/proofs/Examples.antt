-- Worked objects of a plan, written by hand from this crate's documentation, and computed from the definitions.
use Rattle.std.proofs.Common.{◌≡◌, ℕ, pos, List, [], ◌∷◌, ◌++◌, true, false, None, Some, map, refl}
use Rattle.std.specs.Borrow.{Bor}
use Rattle.std.specs.Fmt.{digits}
use Rattle.std.specs.Prelude.{codes}
use Rattle.serde_json.proofs.OnLiterals.{serde_json_on_literals}
use Rattle.serde_json.specs.Data.{Data, boolean, number, unsigned, string, array, object, no_items, item, member, no_members}
use Rattle.serde_json.specs.View.{items_of}
use Rattle.serde_json.specs.Written.{compact_text}
use Rattle.croner_base.specs.CivilText.{datetime_text}
use Rattle.cronplan.specs.declared.days.HourCell.{HourCell}
use Rattle.cronplan.specs.declared.start.JobStart.{JobStart}
use Rattle.cronplan.specs.declared.windows.Bound.TheVariants as bounds
use Rattle.cronplan_forms.specs.declared.beside.Beside.TheVariants as besides
use Rattle.cronplan_forms.specs.declared.beside.OtherClock.{OtherClock}
use Rattle.cronplan_forms.specs.declared.beside.ShownTime.{ShownTime}
use Rattle.cronplan_forms.specs.declared.clock.ClockTime.{ClockTime}
use Rattle.cronplan_forms.specs.declared.job.Job.{Job}
use Rattle.cronplan_forms.specs.declared.view.View.{View}
use Rattle.cronplan_forms.specs.declared.week.WeekDay.{WeekDay}
use Rattle.cronplan_forms.specs.Clocks.{ahead_text}
use Rattle.cronplan_json.specs.Objects.{time_text, instant_object, starts_of, job_starts, job_object, moment_object, window_object, date_data, hour_data, day_object}
use Rattle.cronplan_json.specs.PlanJson.{other_zone, plan_object}

-- ---- seconds

-- when Stockholm's clock is put forward in 2027
a_time : datetime_text (pos 2027) 3 28 3 0 0 ++ ahead_text (pos 7_200) ≡ codes "2027-03-28T03:00:00+02:00"
unfolding digits
a_time = refl

abbrev at : ℕ → List ℕ → Data
at second text = object (member (codes "offset") (number (unsigned 7_200)) (member (codes "second") (number (unsigned second)) (member (codes "time") (string text) no_members)))

-- on the plan's own clock alone
abbrev own : ClockTime → ShownTime
own t = record { own = t; beside = besides.Nothing }

a_second : (t : ClockTime) → t.second ≡ pos 1_806_195_600 → t.ahead.seconds ≡ pos 7_200 → time_text t ≡ codes "t" → instant_object (own t) ≡ at 1_806_195_600 (codes "t")
a_second t second ahead text = rw (text, second, ahead) refl

-- beside a clock that is an hour further ahead, and beside one that isn't followed
a_second_on_both : (t s : ClockTime) → t.second ≡ pos 1_806_195_600 → t.ahead.seconds ≡ pos 7_200 → time_text t ≡ codes "t" → s.second ≡ pos 1_806_195_600
    → s.ahead.seconds ≡ pos 10_800 → time_text s ≡ codes "s"
    → compact_text (instant_object (record { own = t; beside = besides.Shown s }))
    ≡ codes "{\"offset\":7200,\"second\":1806195600,\"shown\":{\"offset\":10800,\"second\":1806195600,\"time\":\"s\"},\"time\":\"t\"}"
unfolding serde_json_on_literals digits
a_second_on_both t s second ahead text other_second other_ahead other_text = rw (text, other_text, second, ahead, other_second, other_ahead) refl

a_second_unfollowed : (t : ClockTime) → t.second ≡ pos 1_806_195_600 → t.ahead.seconds ≡ pos 7_200 → time_text t ≡ codes "t"
    → compact_text (instant_object (record { own = t; beside = besides.Unfollowed })) ≡ codes "{\"offset\":7200,\"second\":1806195600,\"shown\":null,\"time\":\"t\"}"
unfolding serde_json_on_literals digits
a_second_unfollowed t second ahead text = rw (text, second, ahead) refl

-- ---- starts of jobs

-- then the first job is started once, and the second one twice
abbrev starts_then : List JobStart
starts_then =
    record { second = pos 1_806_195_600; job = 0; count = 1; wall = pos 1_806_202_800 }
    ∷ record { second = pos 1_806_195_600; job = 1; count = 2; wall = pos 1_806_202_800 } ∷ []

own_starts : starts_of 1 starts_then ≡ 2
own_starts = refl

frequent_starts : job_starts (record { job = 2; starts = 2_016 } ∷ []) starts_then 2 ≡ 2_016
frequent_starts = refl

no_starts : job_starts [] starts_then 2 ≡ 0
no_starts = refl

a_moment : (t : ClockTime) → t.ahead.seconds ≡ pos 7_200 → time_text t ≡ codes "t"
    → moment_object starts_then (record { moment = record { second = pos 1_806_195_600; wall = pos 1_806_202_800; starts = 3 }; time = own t })
    ≡ object
    (member (codes "counts") (array (item (number (unsigned 1)) (item (number (unsigned 2)) no_items)))
    (member (codes "jobs") (array (item (number (unsigned 0)) (item (number (unsigned 1)) no_items)))
    (member (codes "offset") (number (unsigned 7_200))
    (member (codes "second") (number (unsigned 1_806_195_600))
    (member (codes "starts") (number (unsigned 3))
    (member (codes "time") (string (codes "t")) no_members))))))
a_moment t ahead text = rw (text, ahead) refl

-- ---- jobs

-- a job of a user's crontab that cron ignores, and one of the system's
a_job : (job : Job) → job.file.now ≡ codes "f" → job.line ≡ 3 → job.times.now ≡ codes "@daily" → job.title.now ≡ codes "t" → job.user.now ≡ [] → job.words.now ≡ codes "w"
    → job.is_ignored ≡ true → compact_text (job_object job 7 false)
    ≡ codes "{\"file\":\"f\",\"frequent\":false,\"ignored\":true,\"line\":3,\"starts\":7,\"times\":\"@daily\",\"title\":\"t\",\"words\":\"w\"}"
unfolding serde_json_on_literals digits
a_job job file line times title user words ignored = rw (file, line, times, title, user, words, ignored) refl

a_job_with_user : (job : Job) → job.file.now ≡ codes "f" → job.line ≡ 3 → job.times.now ≡ codes "@daily" → job.title.now ≡ codes "t" → job.user.now ≡ codes "root"
    → job.words.now ≡ codes "w" → job.is_ignored ≡ false
    → compact_text (job_object job 2_016 true)
    ≡ codes "{\"file\":\"f\",\"frequent\":true,\"ignored\":false,\"line\":3,\"starts\":2016,\"times\":\"@daily\",\"title\":\"t\",\"user\":\"root\",\"words\":\"w\"}"
unfolding serde_json_on_literals digits
a_job_with_user job file line times title user words ignored = rw (file, line, times, title, user, words, ignored) refl

-- ---- windows

-- a window at the end of a span, from a start on
a_window : (from until : ClockTime) → from.second ≡ pos 0 → from.ahead.seconds ≡ pos 7_200 → time_text from ≡ codes "a" → until.second ≡ pos 3_600
    → until.ahead.seconds ≡ pos 7_200 → time_text until ≡ codes "b"
    → window_object (record {
      window = record { from = record { second = pos 0; bound = bounds.Start }; until = record { second = pos 3_600; bound = bounds.Span } };
      from = own from;
      until = own until;
    })
    ≡ object
    (member (codes "from") (at 0 (codes "a"))
    (member (codes "open") (boolean true)
    (member (codes "seconds") (number (unsigned 3_600))
    (member (codes "to") (at 3_600 (codes "b")) no_members))))
a_window from until from_second from_ahead from_text until_second until_ahead until_text =
    rw (from_text, until_text, from_second, from_ahead, until_second, until_ahead) refl

-- ---- dates

-- an hour that the clock skips, and one that it shows
abbrev skipped : HourCell
skipped = record { starts = 0; skipped = true; repeated = false; outside = false }

abbrev shown : HourCell
shown = record { starts = 2; skipped = false; repeated = false; outside = false }

-- one that the plan doesn't have
abbrev outside : HourCell
outside = record { starts = 0; skipped = false; repeated = false; outside = true }

three_hours : compact_text (array (items_of (map hour_data (shown ∷ skipped ∷ outside ∷ [])))) ≡ codes "[2,null,null]"
unfolding serde_json_on_literals digits
three_hours = refl

a_date : (d : WeekDay) → date_data d.name.civil ≡ string (codes "2027-03-28") → d.day.now.hours.items ≡ shown ∷ skipped ∷ [] → d.day.now.starts ≡ 2
    → compact_text (day_object d) ≡ codes "{\"date\":\"2027-03-28\",\"hours\":[2,null],\"starts\":2}"
unfolding serde_json_on_literals digits
a_date d date hours starts = rw (date, hours, starts) refl

-- ---- a plan

-- a plan without a job, where two hours of the day are told, and a line is to be read first
a_plan : (v : View) (line : Bor (List ℕ)) (first end : ClockTime) → v.is_cut ≡ false → v.zone.now ≡ codes "UTC" → v.other ≡ None → v.jobs.now ≡ [] → line.now ≡ codes "f:1  l" → first.second ≡ pos 0 → first.ahead.seconds ≡ pos 7_200
    → time_text first ≡ codes "a" → end.second ≡ pos 7_200 → end.ahead.seconds ≡ pos 7_200 → time_text end ≡ codes "b"
    → plan_object v (line ∷ []) (record { first = own first; end = own end; moments = []; quiet = []; days = []; hours = 0 ∷ 3 ∷ [] })
    ≡ object
    (member (codes "cut") (boolean false)
    (member (codes "days") (array no_items)
    (member (codes "from") (at 0 (codes "a"))
    (member (codes "hours") (array (item (number (unsigned 0)) (item (number (unsigned 3)) no_items)))
    (member (codes "jobs") (array no_items)
    (member (codes "kind") (string (codes "plan"))
    (member (codes "moments") (array no_items)
    (member (codes "quiet") (array no_items)
    (member (codes "read_first") (array (item (string (codes "f:1  l")) no_items))
    (member (codes "to") (at 7_200 (codes "b"))
    (member (codes "version") (number (unsigned 1))
    (member (codes "zone") (string (codes "UTC")) no_members))))))))))))
a_plan v line first end cut zone other jobs line_is first_second first_ahead first_text end_second end_ahead end_text =
    rw (first_text, end_text, cut, zone, other, jobs, line_is, first_second, first_ahead, end_second, end_ahead) refl

-- what a second zone is called, and that none is shown
a_second_zone : (other : OtherClock) → other.zone.now ≡ codes "Asia/Tokyo" → other_zone (Some other) ≡ Some (string (codes "Asia/Tokyo"))
a_second_zone other zone = rw (zone) refl

no_second_zone : other_zone None ≡ None
no_second_zone = refl

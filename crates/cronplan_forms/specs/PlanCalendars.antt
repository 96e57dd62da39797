-- The calendar of a plan. Source: this crate's documentation of `plan_calendar`.
use Rattle.std.specs.Prelude.{◌≡◌, ◌&&◌, ◌^◌, ◌-◌, ℕ, min, pos, Bool, true, List, [], length, map, take, slice_get, bytes_eq, IfSome}
use Rattle.std.specs.List.{All, count_by, list_any}
use Rattle.croner_base.specs.declared.time.table.ClockTable.{ClockTable}
use Rattle.croner_base.specs.Civil.{wall_second}
use Rattle.croner_base.specs.Table.{is_table_second}
use Rattle.cronplan_forms.specs.declared.calendar.Calendar.{Calendar}
use Rattle.cronplan_forms.specs.declared.calendar.event.Event.{Event}
use Rattle.cronplan_forms.specs.declared.calendar.of_plan.Naming.{Naming}
use Rattle.cronplan_forms.specs.declared.job.Job.{Job}
use Rattle.cronplan_forms.specs.declared.view.View.{View}
use Rattle.cronplan_forms.specs.Answers.{left_out_text}
use Rattle.cronplan_forms.specs.Calendars.{most_events}

-- cron ignores the whole file of a job
abbrev pub is_ignored : Job → Bool
is_ignored job = job.is_ignored

-- the clock of a table shows UTC
pub record IsUtcTable (table : ClockTable) : Type 0 where
  pub offset : table.first_offset ≡ pos 0
  pub changes : table.changes.items ≡ []

-- two jobs are the same: the user, the times and the command
abbrev pub is_same_job : Job → Job → Bool
is_same_job a b = bytes_eq a.command.now b.command.now && bytes_eq a.times.now b.times.now && bytes_eq a.user.now b.user.now

-- how many of the jobs before a place are the same as one, 2^32 - 1 at most
abbrev pub equal_before : ℕ → Job → List Job → ℕ
equal_before place job jobs = min (count_by (is_same_job job) (take place jobs)) (2 ^ 32 - 1)

-- it is the event of a start: its job is the one at the place that the start has, numbered among equal ones, and its time that of the second
pub record IsEventOf (jobs : List Job) (e : Event) : Type 0 where
  pub job : IfSome (slice_get jobs e.start.job) (λ job. e.job ≡ record job { equal = equal_before e.start.job job jobs })
  pub utc : is_table_second e.start.second ≡ true → wall_second e.utc ≡ e.start.second

-- it is the calendar of a plan, with the events of its first starts
pub record IsPlanCalendar (v : View) (n : Naming) (c : Calendar) (events : List Event) : Type 0 where
  pub name : c.name.now ≡ n.name.now
  pub left_out : c.left_out.now ≡ left_out_text v
  pub has_ignored : c.has_ignored ≡ list_any is_ignored v.jobs.now
  pub stamp : c.stamp ≡ n.stamp
  pub lasts : c.lasts ≡ n.lasts
  pub starts : c.starts ≡ length v.plan.now.starts.items
  pub events_are : map (λ e. e.start) events ≡ take most_events v.plan.now.starts.items
  pub each : All (IsEventOf v.jobs.now) events

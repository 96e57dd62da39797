-- The jobs of a plan that lack a start where the clock is put forward. Sources: docs/CRONTAB.md ("What a plan answers", "Where the clock
-- changes").
use Rattle.std.specs.Prelude.{◌≡◌, ◌<◌, ℕ, ◌+◌, List, [], ◌∷◌, ◌++◌, Option, Some, None, length, get_or, if◌then◌else◌}
use Rattle.croner_base.specs.declared.time.table.TableTime.{TableTime}
use Rattle.croner_base.specs.TableZone.{table_moment}
use Rattle.croner.specs.Views.{job_of}
use Rattle.cronplan_forms.specs.declared.view.Dropped.{Dropped}
use Rattle.cronplan_jobs.specs.declared.listing.Schedule.{Schedule}
use Rattle.cronplan_jobs.specs.declared.listing.Schedule.TheVariants as schedules
use Rattle.croncheck_changes.specs.declared.changes.Range.TheVariants as ranges
use Rattle.croncheck_changes.specs.declared.changes.meetings.Met.{Met}
use Rattle.croncheck_changes.specs.Changes.{TellsFirst, is_warned}
use Rattle.croncheck_runs.specs.declared.runs.Runner.TheVariants as runners

-- the first change after a start that skips a second of a job, if one does
abbrev pub IsGapOf : TableTime → Schedule → Option Met → Type 0
IsGapOf start (schedules.Crontab job) met =
    TellsFirst (table_moment start).zone (table_moment start).instant (runners.Cron job.is_starred) (job_of job.cron) ranges.Gap met
IsGapOf start (schedules.Pattern cron) met = TellsFirst (table_moment start).zone (table_moment start).instant runners.Croner (job_of cron) ranges.Gap met

-- the job at a place lacks a start there if there is a warning of it: then what is skipped isn't made up for
abbrev pub dropped_by : ℕ → Option Met → List Dropped
dropped_by place None = []
dropped_by place (Some met) = if is_warned met then record { job = place; second = met.meeting.change.instant } ∷ [] else []

-- of the jobs from a place on, by their first changes
abbrev pub dropped_from : ℕ → List (Option Met) → List Dropped
dropped_from place [] = []
dropped_from place (met ∷ mets) = dropped_by place met ++ dropped_from (place + 1) mets

-- each job has its first change, at the same place
pub record AreGapsOf (start : TableTime) (jobs : List Schedule) (mets : List (Option Met)) : Type 0 where
  pub beside : length mets ≡ length jobs
  pub gaps_are : (place : ℕ) (job : Schedule) (met : Option Met) → place < length jobs → IsGapOf start (get_or jobs place job) (get_or mets place met)

-- the jobs that lack a start, in their order
abbrev pub AreDropped : TableTime → List Schedule → List Dropped → Type 0
AreDropped start jobs dropped = (mets : List (Option Met)) × AreGapsOf start jobs mets × (dropped ≡ dropped_from 0 mets)

use Rattle.std.proofs.Common.{◌∙◌, ◌-ℤ◌, pos, false, ℤ, List, map, Option, Some, ap, sym, subst, rules, w64, FitsSigned}
use Rattle.std.proofs.lemmas.Int.{to_z-of_z}
use Rattle.croner_base.specs.declared.time.Direction.TheVariants.{Forward}
use Rattle.croner_base.specs.declared.time.table.TableTime.{TableTime}
use Rattle.croner_base.specs.TableZone.{table_zone, table_moment}
use Rattle.croner_base.specs.Zone.{Zone}
use Rattle.croner.specs.declared.job.Cron.{Cron}
use Rattle.croner.specs.iterator.Listing.{Standing, standing_of, new_standing}
use Rattle.croner.specs.laws.Until.{ListsUntil}
use Rattle.croner.specs.Views.{job_of}
use Rattle.cronplan_jobs.specs.declared.listing.Schedule.TheVariants as schedules
use Rattle.cronplan.specs.declared.start.JobStart.{JobStart}
use Rattle.cronplan_jobs.specs.Listed.{ListsJob}
use Rattle.cronplan_jobs.specs.Private.Placed.{placed_run, IsPatternEnd}
use Rattle.cronplan_jobs.proofs.JobListings.{pattern_lists}
use Rattle.cronplan.proofs.SpanSeconds.{span_at}
use Rattle.cronplan_jobs.proofs.listing.runs_from.Goals as goal

pub returns-clause-lists : goal.returns-clause-lists
returns-clause-lists c = λ (cron : Cron) (after : TableTime) second stands.
    let fits : FitsSigned w64 c.pattern_end-end.result = search rules in
    let zone : Zone = table_zone after.table.now in
    let begin : Standing = new_standing (job_of cron) (table_moment after) false Forward in
    let new : Standing = standing_of table_moment c.next_runs_until.new.iterator in
    let times : List TableTime = c.in_ok-times.times.items in
    let listed : ListsUntil begin new (Some (c.args.span.end -ℤ pos 1)) 100_001 times c.in_ok-times.ending =
    subst (λ (u : Option ℤ). ListsUntil begin new u 100_001 times c.in_ok-times.ending) c.until.ensures
    (subst (λ (s : Standing). ListsUntil s new c.until.result 100_001 times c.in_ok-times.ending) stands c.in_ok-times.ensures.lists) in
    let end : IsPatternEnd times c.in_ok-times.ending c.args.span c.pattern_end-end.result =
    subst (λ (xs : List TableTime). IsPatternEnd xs c.in_ok-times.ending c.args.span c.pattern_end-end.result) c.as_slice.ensures.value c.pattern_end-end.ensures in
    subst (λ (i : ℤ). ListsJob (schedules.Pattern cron) zone c.args.span c.args.place c.in_ok-starts.starts.items i) (sym (to_z-of_z w64 c.pattern_end-end.result fits))
    (subst (λ (xs : List JobStart). ListsJob (schedules.Pattern cron) zone c.args.span c.args.place xs c.pattern_end-end.result)
    (sym (c.in_ok-starts.ensures ∙ ap (map (placed_run c.args.place)) c.as_slice-2.ensures.value))
    (pattern_lists cron after c.args.span c.args.place second times c.in_ok-times.ending new c.pattern_end-end.result (span_at c.args.span.first c.args.span.end c.args.span.held).order listed c.in_default.not-Refused end))

use Rattle.std.proofs.Common.{◌≡◌, ◌∙◌, ◌-ℤ◌, pos, true, ℤ, List, map, Option, Some, ap, sym, subst, rules, w64, FitsSigned}
use Rattle.std.proofs.lemmas.Int.{to_z-of_z}
use Rattle.std.specs.List.{All}
use Rattle.croner_base.specs.Table.{is_table_second}
use Rattle.croner_base.specs.TableZone.{table_zone, table_moment}
use Rattle.croner_base.specs.Zone.{Zone}
use Rattle.crontab_runs.specs.declared.job.Start.{Start}
use Rattle.crontab_runs.specs.Listing.{ListsStarts}
use Rattle.crontab_runs.specs.Views.{cron_job_of}
use Rattle.cronplan_jobs.specs.declared.listing.Schedule.TheVariants as schedules
use Rattle.cronplan.specs.declared.start.JobStart.{JobStart}
use Rattle.cronplan_jobs.specs.Listed.{ListsJob}
use Rattle.cronplan_jobs.specs.Private.Placed.{placed, IsCronEnd}
use Rattle.cronplan_jobs.proofs.JobListings.{starts_held, cron_lists}
use Rattle.cronplan.proofs.SpanSeconds.{span_at}
use Rattle.cronplan_jobs.proofs.listing.cron_starts.Goals as goal

pub placed_starts-requires : goal.placed_starts-requires
placed_starts-requires c =
    let listed : ListsStarts (cron_job_of c.args.job.now) (table_moment c.args.after) (Some (c.args.span.end -ℤ pos 1)) 100_001 c.in_ok-starts.starts.items c.in_ok-starts.ending =
    subst (λ (u : Option ℤ). ListsStarts (cron_job_of c.args.job.now) (table_moment c.args.after) u 100_001 c.in_ok-starts.starts.items c.in_ok-starts.ending) c.until.ensures c.in_ok-starts.ensures in
    subst (λ (xs : List Start). All (λ (s : Start). is_table_second s.second ≡ true) xs) (sym c.as_slice-2.ensures.value)
    (starts_held c.args.job.now (table_moment c.args.after) c.args.span c.args.place c.requires c.in_ok-starts.starts.items c.in_ok-starts.ending 100_001
    (span_at c.args.span.first c.args.span.end c.args.span.held) listed)

pub returns-clause-lists : goal.returns-clause-lists
returns-clause-lists c =
    let fits : FitsSigned w64 c.cron_end-end.result = search rules in
    let zone : Zone = table_zone c.args.after.table.now in
    let listed : ListsStarts (cron_job_of c.args.job.now) (table_moment c.args.after) (Some (c.args.span.end -ℤ pos 1)) 100_001 c.in_ok-starts.starts.items c.in_ok-starts.ending =
    subst (λ (u : Option ℤ). ListsStarts (cron_job_of c.args.job.now) (table_moment c.args.after) u 100_001 c.in_ok-starts.starts.items c.in_ok-starts.ending) c.until.ensures c.in_ok-starts.ensures in
    let end : IsCronEnd c.in_ok-starts.starts.items c.in_ok-starts.ending c.args.span c.cron_end-end.result =
    subst (λ (xs : List Start). IsCronEnd xs c.in_ok-starts.ending c.args.span c.cron_end-end.result) c.as_slice.ensures.value c.cron_end-end.ensures in
    subst (λ (i : ℤ). ListsJob (schedules.Crontab c.args.job.now) zone c.args.span c.args.place c.in_ok-starts-2.starts.items i) (sym (to_z-of_z w64 c.cron_end-end.result fits))
    (subst (λ (xs : List JobStart). ListsJob (schedules.Crontab c.args.job.now) zone c.args.span c.args.place xs c.cron_end-end.result)
    (sym (c.in_ok-starts-2.ensures ∙ ap (map (placed zone c.args.place)) c.as_slice-2.ensures.value))
    (cron_lists c.args.job.now (table_moment c.args.after) c.args.span c.args.place c.requires c.in_ok-starts.starts.items c.in_ok-starts.ending c.cron_end-end.result (span_at c.args.span.first c.args.span.end c.args.span.held).order listed end))

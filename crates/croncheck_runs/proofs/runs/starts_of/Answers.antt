use Rattle.std.proofs.Common.{◌≡◌, ◌∙◌, true, ℤ, List, map, w64, FitsSigned, to_z, of_z, ap, sym, subst, rules}
use Rattle.std.proofs.lemmas.Int.{to_z-of_z}
use Rattle.std.specs.List.{All}
use Rattle.croner_base.specs.Table.{is_table_second}
use Rattle.croner.specs.Views.{job_of}
use Rattle.crontab_runs.specs.declared.job.Start.{Start}
use Rattle.crontab_runs.specs.Views.{cron_job_of}
use Rattle.croncheck_runs.specs.Private.Ends.{bound}
use Rattle.croncheck_runs.specs.Private.Listed.{seen_on}
use Rattle.croncheck_runs.proofs.Listings.{starts_listed_by, starts_held}
use Rattle.croncheck_runs.proofs.runs.starts_of.Goals as goal

pub runs_at-requires : goal.runs_at-requires
runs_at-requires c =
    subst (λ (starts : List Start). All (λ s. is_table_second s.second ≡ true) starts) (sym c.as_slice.ensures.value)
    (starts_held (job_of c.args.job.now.cron) c.args.job.now.is_starred c.args.start c.in_ok-starts.starts.items c.in_ok-starts.ensures.each)

pub returns-clause-listed : goal.returns-clause-listed
returns-clause-listed c =
    let start = c.args.start in
    let until = c.bound_of-until.result in
    let fits : FitsSigned w64 c.second.result = search rules in
    let second : to_z w64 (of_z w64 c.second.result) ≡ start.second = to_z-of_z w64 c.second.result fits ∙ c.second.ensures.value in
    let up_to = subst (λ (s : ℤ). until ≡ bound s c.args.last c.args.listing) second c.bound_of-until.ensures in
    starts_listed_by (cron_job_of c.args.job.now) start until c.limit_of-most.result c.args.last c.args.listing c.in_ok-starts.starts.items
    (record { items = c.in_ok-items.items; end = c.end_of_starts-end.result }) c.in_ok-starts.ending up_to c.limit_of-most.ensures
    (c.in_ok-items.ensures.seen ∙ ap (map (seen_on start.table.now)) c.as_slice.ensures.value) c.in_ok-items.ensures.made_up
    c.in_ok-starts.ensures c.end_of_starts-end.ensures

use Rattle.std.proofs.Common.{◌≡◌, ◌∙◌, true, Some, List, map, ap, w64, FitsSigned, refl, sym, subst, rules}
use Rattle.std.proofs.lemmas.Int.{to_z-of_z}
use Rattle.std.specs.List.{All}
use Rattle.croner_base.specs.Table.{is_table_second}
use Rattle.croner.specs.Views.{job_of}
use Rattle.crontab_runs.specs.declared.job.Start.{Start}
use Rattle.crontab_runs.specs.Views.{cron_job_of}
use Rattle.croncheck_runs.specs.Private.Listed.{seen_on}
use Rattle.croncheck_runs.proofs.Listings.{starts_held}
use Rattle.croncheck_runs.proofs.PreviousRuns.{starts_listed_back}
use Rattle.croncheck_runs.proofs.previous.starts_before.Goals as goal

pub runs_at-requires : goal.runs_at-requires
runs_at-requires c =
    subst (λ (starts : List Start). All (λ s. is_table_second s.second ≡ true) starts) (sym c.as_slice.ensures.value)
    (starts_held (job_of c.args.job.now.cron) c.args.job.now.is_starred c.args.asked.start c.in_ok-starts.starts.items c.in_ok-starts.ensures.each)

pub returns-clause-listed : goal.returns-clause-listed
returns-clause-listed c =
    let asked = c.args.asked in
    let fits : FitsSigned w64 asked.from = search rules in
    starts_listed_back (cron_job_of c.args.job.now) asked _ _ c.in_ok-starts.starts.items (record { items = c.in_ok-items.items; end = c.end_of_starts-end.result })
    c.in_ok-starts.ending (ap Some (to_z-of_z w64 asked.from fits)) refl (c.in_ok-items.ensures.seen ∙ ap (map (seen_on asked.start.table.now)) c.as_slice.ensures.value) c.in_ok-items.ensures.made_up
    c.in_ok-starts.ensures c.end_of_starts-end.ensures

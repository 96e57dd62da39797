use Rattle.std.proofs.Common.{◌≡◌, true, sym, subst}
use Rattle.std.specs.Prelude.{IfSome, MatchOption}
use Rattle.croner_base.specs.declared.time.Direction.{Direction}
use Rattle.croner_base.specs.declared.time.Direction.TheVariants.{Forward, Backward}
use Rattle.croner_base.specs.Table.{is_table_second}
use Rattle.croner_base.specs.TableZone.{table_moment}
use Rattle.crontab_runs.specs.Listing.{onward_from}
use Rattle.crontab_runs.specs.Searches.{IsStartFound, NoStartLeft}
use Rattle.crontab_runs.specs.Views.{cron_job_of}
use Rattle.crontab_runs.proofs.StartBounds.{onward_held}
use Rattle.crontab_runs.proofs.listing.StartIterator.nearest_start.Goals as goal

pub returns-in-Forward-clause-found : goal.returns-in-Forward-clause-found
returns-in-Forward-clause-found c =
    let i = c.args.self.now in
    subst (λ (d : Direction). MatchOption c.next_after.result (NoStartLeft d (cron_job_of i.job.now) (table_moment i.position)) (IsStartFound d (cron_job_of i.job.now) (table_moment i.position)))
    (sym c.in-Forward.is) c.next_after.ensures

pub returns-in-Forward-clause-held : goal.returns-in-Forward-clause-held
returns-in-Forward-clause-held c =
    let i = c.args.self.now in
    subst (λ (d : Direction). IfSome c.next_after.result (λ s. is_table_second (onward_from d s.second) ≡ true)) (sym c.in-Forward.is)
    (onward_held Forward i.job.now i.position c.next_after.result c.next_after.ensures)

pub returns-in-Backward-clause-found : goal.returns-in-Backward-clause-found
returns-in-Backward-clause-found c =
    let i = c.args.self.now in
    subst (λ (d : Direction). MatchOption c.last_until.result (NoStartLeft d (cron_job_of i.job.now) (table_moment i.position)) (IsStartFound d (cron_job_of i.job.now) (table_moment i.position)))
    (sym c.in-Backward.is) c.last_until.ensures

pub returns-in-Backward-clause-held : goal.returns-in-Backward-clause-held
returns-in-Backward-clause-held c =
    let i = c.args.self.now in
    subst (λ (d : Direction). IfSome c.last_until.result (λ s. is_table_second (onward_from d s.second) ≡ true)) (sym c.in-Backward.is)
    (onward_held Backward i.job.now i.position c.last_until.result c.last_until.ensures)

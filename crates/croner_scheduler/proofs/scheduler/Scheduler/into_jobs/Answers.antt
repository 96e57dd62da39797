use Rattle.std.proofs.Common.{sym, subst, nat_cmp, option_map}
use Rattle.std.specs.BTreeMap.{is_at}
use Rattle.std.specs.List.Sorted.{IsStrictlySortedBy}
use Rattle.std.specs.Map.{lookup, keys_of}
use Rattle.croner_scheduler.proofs.PartsLists.{parts_given_back, parts_keys}
use Rattle.croner_scheduler.specs.Calls.{IsGivenBack}
use Rattle.croner_scheduler.specs.Ids.{job_of}
use Rattle.croner_scheduler.specs.Kept.{standing_of}
use Rattle.croner_scheduler.proofs.scheduler.Scheduler.into_jobs.Goals as goal

pub returns-clause-jobs : goal.returns-clause-jobs
returns-clause-jobs g c id =
    let moment = g.T.CronDateTime.moment in
    subst (λ items. IsGivenBack moment (option_map (standing_of moment) (job_of c.args.self.jobs id)) (lookup (is_at (nat_cmp id)) items))
    (sym c.into_jobs.ensures.entries) (parts_given_back moment id c.args.self.jobs.entries)

pub returns-clause-ordered : goal.returns-clause-ordered
returns-clause-ordered g c =
    subst (λ items. IsStrictlySortedBy nat_cmp (keys_of items)) (sym c.into_jobs.ensures.entries)
    (subst (λ ids. IsStrictlySortedBy nat_cmp ids) (sym (parts_keys c.args.self.jobs.entries)) c.into_jobs.ensures.ordered)

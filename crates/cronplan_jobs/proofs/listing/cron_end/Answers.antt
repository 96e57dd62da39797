use Rattle.std.proofs.Common.{◌≡◌, ◌-◌, ℤ, Some, inr, map, length, sym, subst, rules, w64, FitsSigned, to_z, of_z}
use Rattle.std.specs.Prelude.{slice_get}
use Rattle.std.proofs.lemmas.Int.{to_z-of_z}
use Rattle.crontab_runs.specs.declared.job.Start.{Start}
use Rattle.crontab_runs.specs.declared.listing.StartsEnd.{StartsEnd}
use Rattle.cronplan_jobs.specs.Private.Placed.{IsCronEnd}
use Rattle.cronplan_jobs.proofs.JobListings.{at_place}
use Rattle.cronplan_jobs.proofs.listing.cron_end.Goals as goal

pub returns-in-Full-Some : goal.returns-in-Full-Some
returns-in-Full-Some c =
    let last : Start = c.in-Full-Some.last.now in
    let fits : FitsSigned w64 last.second = search rules in
    let at : slice_get (map (λ (s : Start). s.second) c.args.starts.now) (length c.args.starts.now - 1) ≡ Some last.second =
    at_place (λ (s : Start). s.second) c.args.starts.now (length c.args.starts.now - 1) last (sym c.in-Full-Some.ensures.value) in
    subst (λ (e : StartsEnd). IsCronEnd c.args.starts.now e c.args.span (to_z w64 (of_z w64 last.second))) (sym c.in-Full-Some.is-0)
    (inr (subst (λ (i : ℤ). slice_get (map (λ (s : Start). s.second) c.args.starts.now) (length c.args.starts.now - 1) ≡ Some i) (sym (to_z-of_z w64 last.second fits)) at))

use Rattle.std.proofs.Common.{rules, w64, to_z, of_z, eqb-true, eq-eqb, sym, ap, ◌∙◌, FitsSigned}
use Rattle.std.proofs.lemmas.Int.{to_z-of_z}
use Rattle.croner.specs.Views.{job_of}
use Rattle.crontab_runs.proofs.NearestNamed.{named_if_nearest, not_named}
use Rattle.crontab_runs.proofs.job.CrontabJob.names.Goals as goal

pub returns-in-Some : goal.returns-in-Some
returns-in-Some c =
    let minute : FitsSigned w64 c.args.minute = c.ranges.minute in
    let nearest : FitsSigned w64 c.in-Some.nearest = search rules in
    let near = simp to_z-of_z at c.in-Some.ensures in
    let is = named_if_nearest (job_of c.args.self.now.cron) c.towards_1970.result c.args.minute c.in-Some.nearest near in (
      λ t. is.0 (sym (to_z-of_z w64 c.in-Some.nearest nearest) ∙ ap (to_z w64) (eqb-true (of_z w64 c.in-Some.nearest) (of_z w64 c.args.minute) t) ∙ to_z-of_z w64 c.args.minute minute),
      λ named. eq-eqb (of_z w64 c.in-Some.nearest) (of_z w64 c.args.minute) (ap (of_z w64) (is.1 named)),
    )

pub returns-in-None : goal.returns-in-None
returns-in-None c =
    let minute : FitsSigned w64 c.args.minute = c.ranges.minute in
    let none = simp to_z-of_z at c.in-None.ensures in
    let within = simp to_z-of_z at c.towards_1970.ensures in
    ((λ t. absurd (cc)), λ named. absurd (not_named (job_of c.args.self.now.cron) c.towards_1970.result c.args.minute none within named))

use Rattle.std.proofs.Common.{◌≡◌, sym, subst, rules, ◌∙◌, w64, to_z, of_z, FitsSigned}
use Rattle.std.proofs.lemmas.Int.{to_z-of_z}
use Rattle.croner.specs.Views.{job_of}
use Rattle.crontab_runs.specs.Private.Known.{AreAllFrom}
use Rattle.crontab_runs.proofs.KnownMinutes.{nearest_known, none_known, all_from_nearest, all_past, nearest_small}
use Rattle.crontab_runs.proofs.minutes.NearestMinute.first.Goals as goal

pub returns-in-Some-clause-all : goal.returns-in-Some-clause-all
returns-in-Some-clause-all c =
    let k = c.args.self.now in
    let fits : FitsSigned w64 c.in-Some.minute = search rules in
    let near = nearest_known (job_of c.args.cron.now) k c.in-Some.minute c.requires c.in-Some.is in
    simp to_z-of_z (all_from_nearest (job_of c.args.cron.now) k.direction k.from c.in-Some.minute near)

pub returns-in-Some-clause-low : goal.returns-in-Some-clause-low
returns-in-Some-clause-low c =
    let k = c.args.self.now in
    let fits : FitsSigned w64 c.in-Some.minute = search rules in
    let near = nearest_known (job_of c.args.cron.now) k c.in-Some.minute c.requires c.in-Some.is in
    simp to_z-of_z (nearest_small (job_of c.args.cron.now) k.direction k.from c.in-Some.minute near).0

pub returns-in-Some-clause-high : goal.returns-in-Some-clause-high
returns-in-Some-clause-high c =
    let k = c.args.self.now in
    let fits : FitsSigned w64 c.in-Some.minute = search rules in
    let near = nearest_known (job_of c.args.cron.now) k c.in-Some.minute c.requires c.in-Some.is in
    simp to_z-of_z (nearest_small (job_of c.args.cron.now) k.direction k.from c.in-Some.minute near).1

pub returns-in-None-clause-all : goal.returns-in-None-clause-all
returns-in-None-clause-all c =
    let k = c.args.self.now in
    let fits : FitsSigned w64 c.first_past.result = search rules in
    let at : to_z w64 (of_z w64 c.first_past.result) ≡ _ = to_z-of_z w64 c.first_past.result fits ∙ c.first_past.ensures in
    subst (AreAllFrom k.direction (job_of c.args.cron.now) k.from) (sym at) (all_past (job_of c.args.cron.now) k.direction k.from (none_known (job_of c.args.cron.now) k c.requires c.in-None.is))

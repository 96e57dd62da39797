use Rattle.std.proofs.Common.{SFits, w64}
use Rattle.std.proofs.lemmas.Int.{to_z-of_z}
use Rattle.std.proofs.Common.{subst}
use Rattle.croner_jobs.specs.Private.Sought.{IsAround, IsSought}
use Rattle.croner_jobs.proofs.Nearer.{around_start}
use Rattle.croner_jobs.proofs.Passing.{ok_passed, none_kept}
use Rattle.croner_jobs.proofs.on_dates.OnDatesSeek.seek.Goals as goal

pub seek_job-requires : goal.seek_job-requires
seek_job-requires g c =
    let second : SFits w64 c.args.second = c.ranges.second in
    simp to_z-of_z (around_start c.args.second c.requires)

pub returns-in-Some-clause-found : goal.returns-in-Some-clause-found
returns-in-Some-clause-found g c =
    let moment = g.T.CronDateTime.moment in
    let runs = g.J.Recurring.runs c.args.self.now.job in
    let z = (moment c.args.start.now).zone in
    let second : SFits w64 c.args.second = c.ranges.second in
    let sought = subst (λ o. IsSought moment IsAround c.args.direction runs z c.args.second o) c.in-Some.is (simp to_z-of_z at c.in-Ok.ensures.found) in
    ok_passed moment c.args.direction runs c.args.self.now.dates z c.args.second c.in-Some.first sought c.pass_over.result c.pass_over.ensures.found

pub returns-in-None-clause-found : goal.returns-in-None-clause-found
returns-in-None-clause-found g c =
    let moment = g.T.CronDateTime.moment in
    let runs = g.J.Recurring.runs c.args.self.now.job in
    let z = (moment c.args.start.now).zone in
    let second : SFits w64 c.args.second = c.ranges.second in
    let none = subst (λ o. IsSought moment IsAround c.args.direction runs z c.args.second o) c.in-None.is (simp to_z-of_z at c.in-Ok.ensures.found) in
    none_kept moment c.args.direction runs c.args.self.now.dates z c.args.second none

pub pass_over-requires-clause-whole : goal.pass_over-requires-clause-whole
pass_over-requires-clause-whole g c =
    let moment = g.T.CronDateTime.moment in
    let second : SFits w64 c.args.second = c.ranges.second in
    let sought = subst (λ o. IsSought moment IsAround c.args.direction (g.J.Recurring.runs c.args.self.now.job) (moment c.args.start.now).zone c.args.second o)
    c.in-Some.is (simp to_z-of_z at c.in-Ok.ensures.found) in
    sought.1

pub pass_over-requires-clause-zone : goal.pass_over-requires-clause-zone
pass_over-requires-clause-zone g c =
    let moment = g.T.CronDateTime.moment in
    let second : SFits w64 c.args.second = c.ranges.second in
    let sought = subst (λ o. IsSought moment IsAround c.args.direction (g.J.Recurring.runs c.args.self.now.job) (moment c.args.start.now).zone c.args.second o)
    c.in-Some.is (simp to_z-of_z at c.in-Ok.ensures.found) in
    sought.0

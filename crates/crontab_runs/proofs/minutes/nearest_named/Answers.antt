use Rattle.std.proofs.Common.{◌≡◌, ◌∙◌, refl, rules, Some, None, w64, FitsSigned}
use Rattle.std.proofs.lemmas.Int.{to_z-of_z}
use Rattle.croner_base.specs.Civil.{wall_second}
use Rattle.croner.specs.Views.{job_of}
use Rattle.crontab_runs.specs.Starts.{minute_of}
use Rattle.crontab_runs.specs.Private.Nearest.{IsSearchStart}
use Rattle.crontab_runs.proofs.NearestNamed.{named_answer, named_beyond}
use Rattle.crontab_runs.proofs.minutes.nearest_named.Goals as goal

pub returns-in_default : goal.returns-in_default
returns-in_default c = let from : FitsSigned w64 c.args.from = c.ranges.from in named_beyond (job_of c.args.cron.now) c.args.direction c.args.from (simp to_z-of_z at c.in_default.ensures)

pub returns-in-Some-next_scheduled : goal.returns-in-Some-next_scheduled
returns-in-Some-next_scheduled c =
    let found = c.in-Some-next_scheduled.found in
    let from : FitsSigned w64 c.args.from = c.ranges.from in
    let second : FitsSigned w64 c.in-Some.second = search rules in
    let wall : FitsSigned w64 c.wall_second.result = search rules in
    let answer : FitsSigned w64 c.minute_of.result = search rules in
    let start : IsSearchStart c.args.direction c.args.from c.in-Some.second = simp to_z-of_z at c.in-Some.ensures in
    let at : wall_second c.civil_of.result ≡ c.in-Some.second = simp to_z-of_z at c.civil_of.ensures in
    let minute : c.minute_of.result ≡ minute_of (wall_second found) = (simp to_z-of_z at c.minute_of.ensures) ∙ rw c.wall_second.ensures refl in
    let nearest = named_answer (job_of c.args.cron.now) c.args.direction c.args.from c.in-Some.second c.civil_of.result (Some found) c.args.cron.now.shaped at start
    c.in-Some-next_scheduled.ensures.reached c.in-Some-next_scheduled.ensures.nearest in
    simp to_z-of_z (rw minute nearest)

pub returns-in-None : goal.returns-in-None
returns-in-None c =
    let from : FitsSigned w64 c.args.from = c.ranges.from in
    let second : FitsSigned w64 c.in-Some.second = search rules in
    let start : IsSearchStart c.args.direction c.args.from c.in-Some.second = simp to_z-of_z at c.in-Some.ensures in
    let at : wall_second c.civil_of.result ≡ c.in-Some.second = simp to_z-of_z at c.civil_of.ensures in
    named_answer (job_of c.args.cron.now) c.args.direction c.args.from c.in-Some.second c.civil_of.result None c.args.cron.now.shaped at start
    c.in-None.ensures.reached c.in-None.ensures.nearest

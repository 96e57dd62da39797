use Rattle.std.proofs.Common.{◌≡◌, false, IsTrue}
use Rattle.std.proofs.lemmas.Result.{IfOk-weaker, IfErr-weaker}
use Rattle.croner_base.specs.declared.errors.CronError.TheVariants.{TimeSearchLimitExceeded, OutOfMemory}
use Rattle.croner_base.specs.declared.time.Direction.TheVariants.{Backward}
use Rattle.croner.specs.search.PatternJob.{timetable_of}
use Rattle.croner.specs.search.Searches.{IsFound, IsRefused}
use Rattle.croner.specs.Views.{job_of}
use Rattle.croner.proofs.iterator.ThereAndBack.{returns_to, no_limit, only_memory}
use Rattle.croner.proofs.laws.listing.there_and_back.Goals as goal

pub returns-clause-same : goal.returns-clause-same
returns-clause-same g c r =
    let moment = g.T.CronDateTime.moment in
    let m = job_of c.args.job.now in
    let run = moment c.args.run.now in
    let next = moment c.in_ok-next.next in
    IfOk-weaker c.find_previous_occurrence-back.result (λ b. IsFound Backward false (timetable_of m) next (moment b)) (λ b. moment b ≡ run)
    (λ b found. returns_to m run next r c.in_ok-next.ensures.found (moment b) found) c.find_previous_occurrence-back.ensures.found

pub returns-clause-no_limit : goal.returns-clause-no_limit
returns-clause-no_limit g c r =
    let moment = g.T.CronDateTime.moment in
    let lack = g.T.CronDateTime.can_lack_memory in
    let m = job_of c.args.job.now in
    let run = moment c.args.run.now in
    let next = moment c.in_ok-next.next in
    IfErr-weaker c.find_previous_occurrence-back.result (IsRefused lack Backward false (timetable_of m) next) (λ e. ¬ (e ≡ TimeSearchLimitExceeded))
    (λ e refused. no_limit m run next r c.in_ok-next.ensures.found lack e refused) c.find_previous_occurrence-back.ensures.refused

pub returns-clause-held : goal.returns-clause-held
returns-clause-held g c r p =
    let moment = g.T.CronDateTime.moment in
    let lack = g.T.CronDateTime.can_lack_memory in
    let m = job_of c.args.job.now in
    let run = moment c.args.run.now in
    let next = moment c.in_ok-next.next in
    IfErr-weaker c.find_previous_occurrence-back.result (IsRefused lack Backward false (timetable_of m) next) (λ e. (e ≡ OutOfMemory) × IsTrue lack)
    (λ e refused. only_memory m run next r c.in_ok-next.ensures.found lack e refused p) c.find_previous_occurrence-back.ensures.refused

use Rattle.std.proofs.Common.{◌≡◌, rules, arith, sym, subst, ◌∙◌, refl, ℤ, SFits, w64}
use Rattle.std.proofs.lemmas.Bool.{false≢true}
use Rattle.std.proofs.lemmas.Int.{ints, to_z-of_z}
use Rattle.croner_jobs.specs.Private.Passed.{IsBeyond}
use Rattle.croner_jobs.proofs.Passing.{ends, ends_none, goes_on, turns, not_on, falls}
use Rattle.croner_jobs.proofs.on_dates.OnDates.pass_over.Goals as goal

pub returns-in-None-clause-found : goal.returns-in-None-clause-found
returns-in-None-clause-found g c =
    let moment = g.T.CronDateTime.moment in
    let runs = g.J.Recurring.runs c.args.self.now.job in
    let z = (moment c.args.start.now).zone in
    let run = moment c.passed.run in
    let from : SFits w64 c.second-from.result = search rules in
    let P : ℤ → Type 0 = λ i. IsBeyond moment c.args.direction runs z i c.in-Ok.found in
    let none = subst (λ o. IsBeyond moment c.args.direction runs z run.instant o) c.in-None.is
    (subst P c.second-from.ensures (simp to_z-of_z at c.in-Ok.ensures.found)) in
    ends_none c.args.direction runs c.args.self.now.dates z (moment c.args.first).instant run c.passed.invariant moment
    (λ kept. false≢true (sym c.passed-test.true ∙ c.is_kept.ensures.1 kept)) none

pub returns-else-is_beyond-clause-unknown : goal.returns-else-is_beyond-clause-unknown
returns-else-is_beyond-clause-unknown g c =
    let moment = g.T.CronDateTime.moment in
    let runs = g.J.Recurring.runs c.args.self.now.job in
    let start = moment c.args.start.now in
    let run = moment c.passed.run in
    let from : SFits w64 c.second-from.result = search rules in
    let to : SFits w64 c.second-to.result = search rules in
    let P : ℤ → Type 0 = λ i. IsBeyond moment c.args.direction runs start.zone i c.in-Ok.found in
    let found = subst (λ o. IsBeyond moment c.args.direction runs start.zone run.instant o) c.in-Some.is
    (subst P c.second-from.ensures (simp to_z-of_z at c.in-Ok.ensures.found)) in
    turns moment c.args.direction runs g.T.CronDateTime.can_lack_memory start run.instant c.in-Some.next found
    (not_on c.args.direction run.instant (moment c.in-Some.next).instant c.second-from.result c.second-to.result c.second-from.ensures c.second-to.ensures
    c.is_beyond.result (simp to_z-of_z at c.is_beyond.ensures) c.if-is_beyond.false)

pub passed-smaller : goal.passed-smaller
passed-smaller g c =
    let moment = g.T.CronDateTime.moment in
    let from : SFits w64 c.second-from.result = search rules in
    let to : SFits w64 c.second-to.result = search rules in
    let test = simp to_z-of_z at c.is_beyond.ensures in
    falls c.args.direction (moment c.passed.run).instant (moment c.in-Some.next).instant c.second-from.result c.second-to.result c.second-from.ensures
    c.second-to.ensures (omega (arith, ints)) (omega (arith, ints)) (test.0 c.if-is_beyond.true)

pub passed-preserved : goal.passed-preserved
passed-preserved g c =
    let moment = g.T.CronDateTime.moment in
    let runs = g.J.Recurring.runs c.args.self.now.job in
    let z = (moment c.args.start.now).zone in
    let run = moment c.passed.run in
    let from : SFits w64 c.second-from.result = search rules in
    let P : ℤ → Type 0 = λ i. IsBeyond moment c.args.direction runs z i c.in-Ok.found in
    let found = subst (λ o. IsBeyond moment c.args.direction runs z run.instant o) c.in-Some.is
    (subst P c.second-from.ensures (simp to_z-of_z at c.in-Ok.ensures.found)) in
    goes_on c.args.direction runs c.args.self.now.dates z (moment c.args.first).instant run c.passed.invariant moment
    (λ kept. false≢true (sym c.passed-test.true ∙ c.is_kept.ensures.1 kept)) c.in-Some.next found

pub returns-clause-found : goal.returns-clause-found
returns-clause-found g c =
    let moment = g.T.CronDateTime.moment in
    let run = moment c.passed.run in
    ends c.args.direction (g.J.Recurring.runs c.args.self.now.job) c.args.self.now.dates (moment c.args.start.now).zone (moment c.args.first).instant run
    c.passed.invariant moment c.passed.run refl (c.is_kept.ensures.0 c.passed-test.false)

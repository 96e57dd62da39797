use Rattle.std.proofs.Common.{rules, sym, subst, ℤ, pos, ◌+ℤ◌, IfOk, IfErr, SFits, w64}
use Rattle.std.proofs.lemmas.Int.{to_z-of_z}
use Rattle.croner_jobs.specs.Private.Sought.{IsThere, IsUnheld}
use Rattle.croner_jobs.specs.Private.Later.{IsLaterOf, IsUnheldLater}
use Rattle.croner_jobs.proofs.spread.later_of.Goals as goal

pub returns-in-Some-clause-found : goal.returns-in-Some-clause-found
returns-in-Some-clause-found g c =
    let moment = g.T.CronDateTime.moment in
    let second : SFits w64 c.second.result = search rules in
    let P : ℤ → Type 0 = λ i. IfOk c.run_later.result (IsThere moment (moment c.args.start.now).zone (i +ℤ pos c.args.seconds)) in
    subst (λ o. IfOk c.run_later.result (IsLaterOf moment (moment c.args.start.now).zone c.args.seconds o)) (sym c.in-Some.is) (subst P c.second.ensures (simp to_z-of_z at c.run_later.ensures.there))

pub returns-in-Some-clause-unheld : goal.returns-in-Some-clause-unheld
returns-in-Some-clause-unheld g c =
    let moment = g.T.CronDateTime.moment in
    let second : SFits w64 c.second.result = search rules in
    let P : ℤ → Type 0 = λ i. IfErr c.run_later.result (IsUnheld (moment c.args.start.now).zone (i +ℤ pos c.args.seconds)) in
    subst (λ o. IfErr c.run_later.result (IsUnheldLater moment (moment c.args.start.now).zone c.args.seconds o)) (sym c.in-Some.is)
    (subst P c.second.ensures (simp to_z-of_z at c.run_later.ensures.unheld))

use Rattle.std.proofs.Common.{◌≡◌, subst, List}
use Rattle.std.specs.List.{IsAnyAnswer}
use Rattle.croner_base.specs.declared.time.civil.CivilDate.{CivilDate}
use Rattle.croner_jobs.proofs.ListedDates.{same_date, is_listed}
use Rattle.croner_jobs.proofs.dates.lists.Goals as goal

pub returns : goal.returns
returns c =
    let Q : List CivilDate → Type 0 = λ dates. IsAnyAnswer (λ y b. same_date y c.args.date ≡ b) dates c.contains.result in
    is_listed c.args.dates.now.items c.args.date c.contains.result (subst Q c.deref.ensures.value c.contains.ensures.cases)

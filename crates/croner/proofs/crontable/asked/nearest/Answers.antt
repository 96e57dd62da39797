use Rattle.std.proofs.Common.{◌≡◌, Option, Result, Ok, refl, sym, subst}
use Rattle.std.specs.Prelude.{IfSome}
use Rattle.std.specs.BinaryHeap.{heap_items}
use Rattle.croner_base.specs.declared.errors.CronError.{CronError}
use Rattle.croner.specs.crontable.Tables.{patterns_of}
use Rattle.croner.specs.Private.crontable.Kept.{IsHeld}
use Rattle.croner.proofs.crontable.asked.nearest.Goals as goal

pub returns-in-Some-clause-held : goal.returns-in-Some-clause-held
returns-in-Some-clause-held g c =
    let moment = g.T.CronDateTime.moment in
    let old = c.args.kept.now in
    let P : Option g.row.T.Denot → Type 0 = λ o. IfSome o (λ run. IsHeld moment (patterns_of c.args.table.now) c.args.direction c.args.inclusive (moment c.args.position.now) run (heap_items old.dues) old.waiting.items) in
    subst P (sym c.in-Some.ensures.value) c.requires.held

pub returns-in-Some-clause-again : goal.returns-in-Some-clause-again
returns-in-Some-clause-again g c =
    let given : Result g.row.T.Denot CronError = Ok c.in-Some.run' in
    let P : Option g.row.T.Denot → Type 0 = λ o. IfSome o (λ run. (given ≡ Ok run) × (c.args.kept.now.waiting.items ≡ c.args.kept.now.waiting.items)) in
    subst P c.in-Some.ensures.value (refl, refl)

pub returns-in-None-clause-again : goal.returns-in-None-clause-again
returns-in-None-clause-again g c =
    let P : Option g.row.T.Denot → Type 0 = λ o. IfSome o (λ run. (c.take_nearest.result ≡ Ok run) × (c.take_nearest.new.kept.waiting.items ≡ c.args.kept.now.waiting.items)) in
    subst P c.in-None.ensures.value tt

use Rattle.std.proofs.Common.{sym, subst, rules, Err, FitsSigned, w64}
use Rattle.std.proofs.lemmas.Int.{to_z-of_z}
use Rattle.croner.specs.Views.{job_of}
use Rattle.croner_c.specs.Clocks.{zone_of}
use Rattle.croner_c.specs.Searches.{IsRunIn}
use Rattle.croner_c.specs.declared.status.Reason.{Reason}
use Rattle.croner_c.proofs.Times.{run_in, none_found}
use Rattle.croner_c.proofs.search.run_from.Goals as goal

pub returns-in-Ok : goal.returns-in-Ok
returns-in-Ok c =
    let fits : FitsSigned w64 c.second.result = search rules in
    run_in c.args.clock.now c.args.direction c.args.inclusive (job_of c.args.job.now) c.args.start.now c.in-Ok.run' c.second.result c.within.result c.requires
    c.in-Ok.ensures.found c.second.ensures.value (simp to_z-of_z at c.within.ensures)

pub returns-in-Err : goal.returns-in-Err
returns-in-Err c =
    let none = none_found c.args.clock.now c.args.direction c.args.inclusive (job_of c.args.job.now) c.args.start.now c.in-Err.error c.requires c.in-Err.ensures.refused in
    subst (λ (r : Reason). IsRunIn c.args.direction c.args.inclusive (job_of c.args.job.now) c.args.clock.now c.args.start.now.second (zone_of c.args.clock.now) (Err r)) (sym c.limit_of.ensures) none

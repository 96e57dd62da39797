use Rattle.std.proofs.Common.{subst, refl, ℤ, Ok, Err, FitsSigned, w64}
use Rattle.std.proofs.lemmas.Int.{to_z-of_z}
use Rattle.croner.specs.Views.{job_of}
use Rattle.croner_c.specs.Answers.{seen}
use Rattle.croner_c.specs.Clocks.{zone_of}
use Rattle.croner_c.specs.Listings.{AreRunsIn}
use Rattle.croner_c.proofs.Times.{outside, zone_at}
use Rattle.croner_c.proofs.listing.listed_on_table.Goals as goal

pub returns-in-Ok : goal.returns-in-Ok
returns-in-Ok c =
    let f : FitsSigned w64 c.args.start = c.ranges.start in
    let u : FitsSigned w64 c.args.until = c.ranges.until in
    let e = simp to_z-of_z at c.in-Ok.ensures in
    let z = zone_of c.args.clock.now in
    let from_time = simp to_z-of_z at c.listed_from.ensures in
    let runs = subst (λ (i : ℤ). AreRunsIn c.args.inclusive (job_of c.args.job) c.args.clock.now i c.args.until c.args.room z (seen (λ r. (r.0.items, r.1)) c.listed_from.result)) e.0 from_time in
    (Ok z, zone_at c.args.clock.now c.args.start c.in-Ok.time e.0 e.1, runs)

pub returns-in-Err : goal.returns-in-Err
returns-in-Err c =
    let f : FitsSigned w64 c.args.start = c.ranges.start in
    let e = simp to_z-of_z at c.in-Err.ensures in
    (Err c.in-Err.reason, outside c.args.clock.now c.args.start c.in-Err.reason c.requires.table.calm e.0 e.1, refl)

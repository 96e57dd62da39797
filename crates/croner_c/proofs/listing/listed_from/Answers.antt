use Rattle.std.proofs.Common.{rules, FitsSigned, w64}
use Rattle.std.proofs.lemmas.Int.{to_z-of_z}
use Rattle.croner_base.specs.TableZone.{table_moment}
use Rattle.croner.specs.Views.{job_of}
use Rattle.croner.specs.iterator.Listing.{standing_of}
use Rattle.croner_c.proofs.Listed.{listed}
use Rattle.croner_c.proofs.listing.listed_from.Goals as goal

pub returns-in-Ok-runs_of : goal.returns-in-Ok-runs_of
returns-in-Ok-runs_of c =
    let u : FitsSigned w64 c.args.until = c.ranges.until in
    let l : FitsSigned w64 c.args.clock.now.last = search rules in
    let b : FitsSigned w64 c.bound.result = search rules in
    listed c.args.clock.now (job_of c.args.job) c.args.inclusive c.args.start c.args.until c.args.room (standing_of table_moment c.next_runs_until.new.iterator) c.in-Ok.times.items c.requires
    (standing_of table_moment c.new-left.result) c.in-Ok.end c.bound.result c.as_slice.result.now c.in-Ok-runs_of.runs.items c.end_of.result c.new-left.ensures
    (simp to_z-of_z at c.bound.ensures) (simp to_z-of_z at c.in-Ok.ensures.lists) c.as_slice.ensures.value c.in-Ok-runs_of.ensures (simp to_z-of_z at c.end_of.ensures)

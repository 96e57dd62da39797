use Rattle.std.proofs.Common.{arith, FitsSigned, w64}
use Rattle.std.proofs.lemmas.Int.{ints, to_z-of_z}
use Rattle.croner_base.proofs.calendar.JiffSeconds.{near_second}
use Rattle.croner_base.proofs.tables.TableMoments.{unheld, resolved_to}
use Rattle.croner_base.proofs.clocks.ZonedResolved.{is_near_year-true, is_near_year-low, is_near_year-high}
use Rattle.croner_base.proofs.time.table.TableTimeCronDateTime.resolve_civil.Goals as goal
use Rattle.croner_base.proofs.time.table.TableTimeCronDateTime.resolve_civil.Goals.{then-year-via-then-year, then-year-via-else-year+then-year-gt-YEAR_LIMIT}

pub returns-then-year-clause-err : goal.returns-then-year-clause-err
returns-then-year-clause-err c =
    elim c.then-year.branch [
      | then-year-via-then-year w ↦ unheld c.args.self.now.table.now c.args.civil (is_near_year-low c.args.civil.date.year (omega (arith, ints)))
      | then-year-via-else-year+then-year-gt-YEAR_LIMIT w ↦ unheld c.args.self.now.table.now c.args.civil (is_near_year-high c.args.civil.date.year (omega (arith, ints)))
    ]

pub resolution_of-requires-clause-low : goal.resolution_of-requires-clause-low
resolution_of-requires-clause-low c =
    let b = near_second c.args.civil (omega (arith, ints)) (omega (arith, ints)) in
    omega (arith, ints, b)

pub resolution_of-requires-clause-high : goal.resolution_of-requires-clause-high
resolution_of-requires-clause-high c =
    let b = near_second c.args.civil (omega (arith, ints)) (omega (arith, ints)) in
    omega (arith, ints, b)

pub returns-clause-value : goal.returns-clause-value
returns-clause-value c =
    let b = near_second c.args.civil (omega (arith, ints)) (omega (arith, ints)) in
    let near = is_near_year-true c.args.civil.date.year (omega (arith, ints)) (omega (arith, ints)) in
    let f : FitsSigned w64 c.wall_second.result = omega (arith, ints, b) in
    let e = simp to_z-of_z at c.resolution_of.ensures.value in
    resolved_to c.args.self.now.table.now c.args.civil c.resolution_of.result near c.resolution_of.ensures.table (rw c.wall_second.ensures at e)

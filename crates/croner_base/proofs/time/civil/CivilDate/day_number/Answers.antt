use Rattle.std.proofs.Common.{arith, FitsSigned, w32, rules}
use Rattle.std.proofs.lemmas.Int.{ints, to_z-of_z}
use Rattle.croner_base.proofs.calendar.CalendarPeriods.{number_by_period, year_periods}
use Rattle.croner_base.proofs.time.civil.CivilDate.day_number.Goals as goal

pub returns-clause-value : goal.returns-clause-value
returns-clause-value c =
    let y = c.args.self.year in
    let f : FitsSigned w32 y = search rules in
    let q = simp to_z-of_z at c.div_euclid-periods.ensures in
    let r = simp to_z-of_z at c.rem_euclid.ensures.value in
    let e = number_by_period y _ c.div_euclid-periods.result c.to_unix_epoch_day.result c.args.self.month c.args.self.day c.to_unix_epoch_day.ensures.value (omega (arith, ints, r, c.rem_euclid.ensures)) q c.args.self.real.1.0 in
    let b = year_periods y c.div_euclid-periods.result f q in
    omega (arith, ints, c.to_unix_epoch_day.ensures.bound, e, b)

pub returns-clause-bound : goal.returns-clause-bound
returns-clause-bound c =
    let f : FitsSigned w32 c.args.self.year = search rules in
    let q = simp to_z-of_z at c.div_euclid-periods.ensures in
    let b = year_periods c.args.self.year c.div_euclid-periods.result f q in
    (omega (arith, ints, c.to_unix_epoch_day.ensures.bound, b), omega (arith, ints, c.to_unix_epoch_day.ensures.bound, b))

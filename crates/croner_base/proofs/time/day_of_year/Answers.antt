use Rattle.std.proofs.Common.{◌∙◌, FitsSigned, w32}
use Rattle.std.proofs.lemmas.Int.{to_z-of_z}
use Rattle.croner_base.proofs.calendar.DayNumbers.{place_late, place_early, not_late}
use Rattle.croner_base.proofs.time.day_of_year.Goals as goal
use Rattle.croner_base.proofs.time.day_of_year.Goals.{then-month-gt2, else-month-gt2}

pub returns : goal.returns
returns c =
    let f : FitsSigned w32 c.args.year = c.ranges.year in
    elim c.if-month-gt2.branch [
      | then-month-gt2 w ↦
          let e = simp to_z-of_z at w.is_leap_year.ensures in
          place_late c.args.year c.args.month c.args.day c.from-leap_day.result c.if-month-gt2.from c.requires.0 w.if-month-gt2.true (w.from-is ∙ e) c.from-leap_day.ensures
      | else-month-gt2 w ↦ place_early c.args.year c.args.month c.args.day c.from-leap_day.result c.if-month-gt2.from c.requires.0 w.if-month-gt2.false (w.from-is ∙ not_late c.args.month w.if-month-gt2.false) c.from-leap_day.ensures
    ]

use Rattle.std.proofs.Common.{◌∙◌, rules, w64, FitsSigned}
use Rattle.std.proofs.lemmas.Int.{ints, to_z-of_z}
use Rattle.cronplan_forms.specs.PlanMonths.{place_in_year, year_of}
use Rattle.cronplan_forms.proofs.DateSteps.{first_day_is}
use Rattle.cronplan_forms.proofs.month.number.MonthNumber.first_date.Goals as goal

pub returns-clause-value : goal.returns-clause-value
returns-clause-value c =
    let fits : FitsSigned w64 c.div_euclid.result = search rules in
    to_z-of_z w64 c.div_euclid.result fits
    ∙ first_day_is c.new-begin.result c.first_day-date.result (year_of c.args.self.number) (place_in_year c.args.self.number) c.div_euclid.result c.new-begin.ensures.date
    c.first_day-date.ensures (search (rules, ints, to_z-of_z))

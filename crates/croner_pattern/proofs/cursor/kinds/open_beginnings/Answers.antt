use Rattle.std.proofs.Common.{◌≡◌, ◌↔◌, ℕ, ◌+◌, ◌-◌, ◌%◌, sym, ap, subst, ◌∙◌, rules, FitsSigned, w32}
use Rattle.std.proofs.lemmas.Int.{to_z-of_z}
use Rattle.std.specs.Int.{bit_at}
use Rattle.jiff_core.specs.Calendar.{days_in_month, day_of_year}
use Rattle.croner_pattern.specs.Schedule.{first_weekday}
use Rattle.croner_pattern.specs.Private.Cursor.{HasOpenDay}
use Rattle.croner_pattern.proofs.civil.MonthKinds.{open-beginning}
use Rattle.croner_pattern.proofs.civil.Weekdays.{same-month, same-place, weekday-month, weekday_bound}
use Rattle.croner_pattern.proofs.cursor.kinds.open_beginnings.Goals as goal

pub returns-clause-value : goal.returns-clause-value
returns-clause-value c = λ m kinds year e.
    let mo : ℕ = c.args.month in
    let f : FitsSigned w32 c.example_year-year.result = search rules in
    let long = simp to_z-of_z at c.days_in_month.ensures.value in
    let placed = simp to_z-of_z at c.day_of_year.ensures in
    let like = e ∙ sym c.example_year-year.ensures in
    let length : days_in_month year mo ≡ c.days_in_month.result = same-month year c.example_year-year.result mo like ∙ sym long in
    let place : day_of_year year mo 1 ≡ c.day_of_year.result = same-place year c.example_year-year.result mo 1 like ∙ sym placed in
    let weekday : first_weekday year mo ≡ (first_weekday year 1 + (c.day_of_year.result - 1) % 7) % 7 = weekday-month year mo ∙ ap (λ n. (first_weekday year 1 + (n - 1) % 7) % 7) place in
    subst (λ (n : ℕ). (bit_at c.turn_week.result (first_weekday year 1) ≡ 1) ↔ HasOpenDay m n (first_weekday year mo)) (sym length)
    (open-beginning m c.args.months c.kinds_of_length-week.result c.turn_week.result ((c.day_of_year.result - 1) % 7) c.days_in_month.result (first_weekday year 1) (first_weekday year mo)
    kinds c.days_in_month.ensures.bound (weekday_bound year 1) weekday c.turn_week.ensures.value c.kinds_of_length-week.ensures.value)

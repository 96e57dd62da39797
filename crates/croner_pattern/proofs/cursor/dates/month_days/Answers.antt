use Rattle.std.proofs.Common.{◌≡◌, ℕ, ℤ, true, sym, ap, ◌∙◌, subst}
use Rattle.jiff_core.specs.Calendar.{days_in_month}
use Rattle.croner_pattern.specs.Schedule.{is_plain, first_weekday, IsDayMask}
use Rattle.croner_pattern.proofs.civil.DateSearch.{named_days}
use Rattle.croner_pattern.proofs.cursor.dates.month_days.Goals as goal

pub returns-in-Some : goal.returns-in-Some
returns-in-Some g c =
    let m = g.P.PatternWords.meaning c.args.pattern.now in
    let n = c.in-Some.ensures in
    let days = c.named_days.result in
    let month : is_plain m.months c.args.date.month ≡ true = sym (ap (is_plain m.months) c.month.ensures) ∙ sym c.is_plain.ensures ∙ c.if-is_plain.true in
    let there = subst (λ (z : ℤ). IsDayMask m (days_in_month z c.month-in-Some.result) (first_weekday z c.month-in-Some.result) days) n.is c.named_days.ensures in
    named_days m c.args.date.year c.args.date.month days n.named month
    (subst (λ (n : ℕ). IsDayMask m (days_in_month c.args.date.year n) (first_weekday c.args.date.year n) days) c.month-in-Some.ensures there)

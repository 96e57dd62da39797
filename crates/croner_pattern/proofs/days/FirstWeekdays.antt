-- The weekday of the first of a month, counted back from that of a date.
use Rattle.std.proofs.Common.{◌≡◌, ℕ, ◌+◌, ◌*◌, ◌-◌, ◌%◌, ◌≤◌, ap, sym, ◌∙◌, arith, ℤ, pos, ◌+ℤ◌}
use Rattle.jiff_core.proofs.SignedLemmas.{signed_arith}
use Rattle.croner_base.specs.Calendar.{day_number, weekday_of_day}
use Rattle.croner_base.proofs.calendar.DayNumbers.{day_number-day}
use Rattle.croner_pattern.specs.Questions.{first_from}
use Rattle.croner_pattern.specs.Schedule.{first_weekday}

weekday-back : (n : ℤ) (k : ℕ) → (weekday_of_day (n +ℤ pos k) + 6 * k) % 7 ≡ weekday_of_day n
unfolding weekday_of_day
weekday-back n k = omega (arith, signed_arith)

pub first_from-date : (y : ℤ) (m d : ℕ) → 1 ≤ d → first_from (weekday_of_day (day_number y m d)) d ≡ first_weekday y m
first_from-date y m d low =
    let e : 1 + (d - 1) ≡ d = omega arith in
    ap (λ n. first_from (weekday_of_day (day_number y m n)) d) (sym e)
    ∙ ap (λ n. first_from (weekday_of_day n) d) (day_number-day y m 1 (d - 1))
    ∙ weekday-back (day_number y m 1) (d - 1)

-- A summary of exact phrases says exactly the schedule.
use Rattle.std.proofs.Common.{◌≡◌, Bool, true, false, ◌&&◌, ap, ◌∙◌, refl, arith, ℤ, pos, int_le, unsigned_abs}
use Rattle.std.proofs.lemmas.Bool.{and_parts}
use Rattle.std.proofs.lemmas.Bool.Decides.{nat_tests}
use Rattle.jiff_core.specs.Calendar.{days_in_month}
use Rattle.jiff_core.proofs.CalendarLemmas.{days_in_month_bounds}
use Rattle.jiff_core.proofs.SignedLemmas.{signed_arith}
use Rattle.croner_base.specs.Field.{Field}
use Rattle.croner_pattern.specs.Meaning.{Meaning}
use Rattle.croner_pattern.specs.Schedule.{is_plain, first_weekday}
use Rattle.croner_pattern.proofs.civil.Weekdays.{weekday_bound}
use Rattle.croner_summary.specs.declared.phrase.Phrase.{Phrase}
use Rattle.croner_summary.specs.declared.summary.Summary.{Summary}
use Rattle.croner_summary.specs.Says.{names, is_year}
use Rattle.croner_summary.specs.Summaries.{SaysTheSchedule}
use Rattle.croner_summary.specs.Private.Exact.{IsExact}
use Rattle.croner_summary.specs.Private.ExactDays.{AreDays}
use Rattle.croner_summary.proofs.ExactDays.{exact_within}

-- each part of a summary is exact
pub record AllExact (m : Meaning) (s : Summary) : Type 0 where
  pub seconds : IsExact 0 59 1 m.seconds s.seconds
  pub minutes : IsExact 0 59 1 m.minutes s.minutes
  pub hours : IsExact 0 23 1 m.hours s.hours
  pub days : AreDays m s.days
  pub months : IsExact 1 12 1 m.months s.months
  pub years : IsExact 1 5000 1 m.years s.years

and_same : (a b c : Bool) → (a ≡ true → b ≡ c) → (a && b) ≡ (a && c)
and_same true b c h = h refl
and_same false b c h = refl

two_ands : (a b c d : Bool) → a ≡ b → c ≡ d → (a && c) ≡ (b && d)
two_ands a b c d e h = ap (λ x. x && c) e ∙ ap (λ x. b && x) h

year_exact : (f : Field) (phrase : Phrase) (year : ℤ) → IsExact 1 5000 1 f phrase → is_year phrase year ≡ ((int_le (pos 1) year && int_le year (pos 5000)) && is_plain f (unsigned_abs year))
year_exact f phrase year exact =
    and_same (int_le (pos 1) year && int_le year (pos 5000)) (names 1 5000 phrase (unsigned_abs year)) (is_plain f (unsigned_abs year))
    (λ h.
    let parts = and_parts (int_le (pos 1) year) (int_le year (pos 5000)) h in
    exact_within 1 5000 1 f phrase (unsigned_abs year) exact (grind (arith, signed_arith, nat_tests, parts.0, parts.1)) (grind (arith, signed_arith, nat_tests, parts.0, parts.1)))

pub says_exactly : (m : Meaning) (s : Summary) → AllExact m s → SaysTheSchedule s m
says_exactly m s e c =
    let long = days_in_month_bounds c.date.year c.date.month in
    let real = c.date.real in
    two_ands _ _ _ _ (exact_within 0 59 1 m.seconds s.seconds c.time.second e.seconds (omega arith) (let h = c.time.second_in in omega arith))
    (two_ands _ _ _ _ (exact_within 0 59 1 m.minutes s.minutes c.time.minute e.minutes (omega arith) (let h = c.time.minute_in in omega arith))
    (two_ands _ _ _ _ (exact_within 0 23 1 m.hours s.hours c.time.hour e.hours (omega arith) (let h = c.time.hour_in in omega arith))
    (two_ands _ _ _ _ (year_exact m.years s.years c.date.year e.years)
    (two_ands _ _ _ _ (exact_within 1 12 1 m.months s.months c.date.month e.months real.0.0 real.0.1)
    (e.days (days_in_month c.date.year c.date.month) (first_weekday c.date.year c.date.month) c.date.day long.0 (weekday_bound c.date.year c.date.month) real.1.0 (omega (arith, real.1.1, long.0)))))))

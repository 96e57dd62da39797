-- Worked rows of the date that a clock shows, and of the ends of its week and its month.
use Rattle.std.proofs.Common.{◌≡◌, ◌≤◌, ℕ, pos, Some, None, refl, inl, inr, arith}
use Rattle.std.proofs.lemmas.Int.{ints}
use Rattle.jiff_core.specs.Calendar.{day_count, days_from_civil, days_in_month, days_of_months, days_of_years}
use Rattle.jiff_core.specs.Date.{epoch_day}
use Rattle.jiff_core.specs.DateTime.{civil_nanos}
use Rattle.jiff_core.specs.declared.civil.date.Date.{Date}
use Rattle.jiff_core.specs.declared.civil.datetime.DateTime.{DateTime}
use Rattle.jiff_tz.specs.Zone.{ambiguous_at, offset_at}
use Rattle.jiff_tz.specs.declared.timezone.TimeZone.{TimeZone}
use Rattle.jiff_tz.specs.declared.timezone.TimeZone.TheVariants.{UTC, Fixed}
use Rattle.croncheck_moments.specs.declared.moment.Moment.TheVariants as moments
use Rattle.croncheck_moments.specs.Moment.{IsBegin, IsDateAt, IsEndOfMonth, IsEndOfWeek, plan_from, shown_at, start_from}

-- a date of the years 2027 and 2028
abbrev of_2027 : (month : ℕ) → 1 ≤ month → month ≤ 12 → (day : ℕ) → 1 ≤ day → day ≤ days_in_month (pos 2_027) month → Date
of_2027 month a b day c d = record { year = pos 2_027; month = month; day = day; year_in = (omega (arith, ints), omega (arith, ints)); month_in = (a, b); day_in = (c, d) }

abbrev of_2028 : (month : ℕ) → 1 ≤ month → month ≤ 12 → (day : ℕ) → 1 ≤ day → day ≤ days_in_month (pos 2_028) month → Date
of_2028 month a b day c d = record { year = pos 2_028; month = month; day = day; year_in = (omega (arith, ints), omega (arith, ints)); month_in = (a, b); day_in = (c, d) }

abbrev midnight : Date → DateTime
midnight date = record { date = date; time = record { hour = 0; minute = 0; second = 0; subsec_nanosecond = 0; hour_in = omega arith; minute_in = omega arith; second_in = omega arith; subsec_in = omega arith } }

-- a clock that is two hours ahead of UTC
abbrev two_ahead : TimeZone
two_ahead = Fixed (record { seconds = pos 7_200; in_range = (omega (arith, ints), omega (arith, ints)) })

abbrev march_26 : Date
march_26 = of_2027 3 (omega arith) (omega arith) 26 (omega arith) (omega arith)

abbrev march_28 : Date
march_28 = of_2027 3 (omega arith) (omega arith) 28 (omega arith) (omega arith)

abbrev march_29 : Date
march_29 = of_2027 3 (omega arith) (omega arith) 29 (omega arith) (omega arith)

abbrev april_1 : Date
april_1 = of_2027 4 (omega arith) (omega arith) 1 (omega arith) (omega arith)

abbrev april_2 : Date
april_2 = of_2027 4 (omega arith) (omega arith) 2 (omega arith) (omega arith)

numbers : (epoch_day march_26 ≡ pos 20_903) × (epoch_day march_28 ≡ pos 20_905) × (epoch_day march_29 ≡ pos 20_906) × (epoch_day april_1 ≡ pos 20_909) × (epoch_day april_2 ≡ pos 20_910)
unfolding days_from_civil day_count days_of_years days_of_months
numbers = (refl, refl, refl, refl, refl)

shown : (shown_at two_ahead (pos 1_806_271_199) ≡ pos 1_806_278_399) × (shown_at two_ahead (pos 1_806_271_200) ≡ pos 1_806_278_400) × (shown_at UTC (pos 1_806_062_400) ≡ pos 1_806_062_400)
unfolding offset_at
shown = (refl, refl, refl)

-- 2027-03-28T21:59:59Z is the last second of March 28 there, and a second later it is March 29
the_last_second : IsDateAt two_ahead (pos 1_806_271_199) (Some march_28)
the_last_second = ((omega (arith, ints), omega (arith, ints)), (omega (arith, ints, numbers, shown), omega (arith, ints, numbers, shown)))

the_next_date : IsDateAt two_ahead (pos 1_806_271_200) (Some march_29)
the_next_date = ((omega (arith, ints), omega (arith, ints)), (omega (arith, ints, numbers, shown), omega (arith, ints, numbers, shown)))

-- the date of UTC isn't that of the clock, and there is one
not_that_of_utc : ¬ (IsDateAt two_ahead (pos 1_806_271_200) (Some march_28))
not_that_of_utc h = absurd (omega (arith, ints, numbers, shown, h.1.1))

not_none : ¬ (IsDateAt two_ahead (pos 1_806_271_200) None)
not_none h = h (omega (arith, ints), omega (arith, ints))

-- jiff holds no second after 9999-12-30T22:00:00Z
none_held : IsDateAt UTC (pos 253_402_207_201) None
none_held h = absurd (omega (arith, ints, h.1))

-- ---- the end of the week

-- where April 2 begins in UTC
begins : IsBegin UTC april_2 (pos 1_806_624_000)
unfolding days_from_civil day_count days_of_years days_of_months civil_nanos ambiguous_at offset_at
begins = (midnight april_2, record { of_date = refl; at_midnight = refl }, inl (inl (refl, (((omega (arith, ints), omega (arith, ints)), refl), refl))))

-- seven dates from March 26 on end with April 1
to_the_first_of_april : IsEndOfWeek UTC (pos 1_806_062_400) (Some (pos 1_806_623_999))
to_the_first_of_april =
    inr (
      march_26,
      ((omega (arith, ints), omega (arith, ints)), (omega (arith, ints, numbers, shown), omega (arith, ints, numbers, shown))),
      inr (
        april_1,
        omega (arith, ints, numbers),
        (april_2, record { follows = omega (arith, ints, numbers); begins = begins }),
      ),
    )

-- ---- the end of the month

abbrev february_10 : Date
february_10 = of_2028 2 (omega arith) (omega arith) 10 (omega arith) (omega arith)

abbrev february_29 : Date
february_29 = of_2028 2 (omega arith) (omega arith) 29 (omega arith) (omega arith)

abbrev march_1 : Date
march_1 = of_2028 3 (omega arith) (omega arith) 1 (omega arith) (omega arith)

days_of_2028 : (epoch_day february_10 ≡ pos 21_224) × (epoch_day february_29 ≡ pos 21_243) × (epoch_day march_1 ≡ pos 21_244)
unfolding days_from_civil day_count days_of_years days_of_months
days_of_2028 = (refl, refl, refl)

begins_in_2028 : IsBegin UTC march_1 (pos 1_835_481_600)
unfolding days_from_civil day_count days_of_years days_of_months civil_nanos ambiguous_at offset_at
begins_in_2028 = (midnight march_1, record { of_date = refl; at_midnight = refl }, inl (inl (refl, (((omega (arith, ints), omega (arith, ints)), refl), refl))))

utc_in_2028 : shown_at UTC (pos 1_833_796_800) ≡ pos 1_833_796_800
unfolding offset_at
utc_in_2028 = refl

-- February of a leap year ends with the 29th
to_the_29th : IsEndOfMonth UTC (pos 1_833_796_800) (Some (pos 1_835_481_599))
to_the_29th =
    inr (
      february_10,
      february_29,
      ((omega (arith, ints), omega (arith, ints)), (omega (arith, ints, days_of_2028, utc_in_2028), omega (arith, ints, days_of_2028, utc_in_2028))),
      (refl, refl, refl),
      (march_1, record { follows = omega (arith, ints, days_of_2028); begins = begins_in_2028 }),
    )

-- ---- the second after which runs come, and starts of a plan

runs_after_a_time : start_from (moments.Civil (midnight march_26)) (pos 100) ≡ pos 100
runs_after_a_time = refl

a_plan_from_a_time_on : plan_from (moments.Civil (midnight march_26)) (pos 100) ≡ pos 99
a_plan_from_a_time_on = refl

a_plan_from_a_date_on : plan_from (moments.Date march_26) (pos 100) ≡ pos 99
a_plan_from_a_date_on = refl

a_plan_after_a_second : plan_from (moments.Second (pos 100)) (pos 100) ≡ pos 100
a_plan_after_a_second = refl

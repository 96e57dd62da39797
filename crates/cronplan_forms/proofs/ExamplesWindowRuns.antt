-- Worked rows of windows that come again from day to day, computed from the definitions.
use Rattle.std.proofs.Common.{◌≡◌, ◌≤◌, ◌<◌, ◌+◌, ◌*◌, ℕ, pos, true, false, [], ◌∷◌, ◌++◌, arith, ap, sym, refl}
use Rattle.std.proofs.lemmas.Bool.{true≢false}
use Rattle.std.specs.Fmt.{digits}
use Rattle.std.specs.Ordering.{ordering_index}
use Rattle.std.specs.Prelude.{codes}
use Rattle.std.specs.declared.cmp.Ordering.TheVariants.{Less}
use Rattle.jiff_core.specs.Calendar.{days_of_months}
use Rattle.croner_base.specs.declared.time.civil.Weekday.{Weekday}
use Rattle.croner_base.specs.declared.time.civil.Weekday.TheVariants as weekdays
use Rattle.croner_base.specs.Calendar.{day_number, days_since_zero, year_start}
use Rattle.croner_base.specs.Civil.{wall_second}
use Rattle.croner_base.specs.Zone.{Zone}
use Rattle.cronplan.specs.declared.plan.Plan.{Plan}
use Rattle.cronplan.specs.declared.windows.Bound.{Bound}
use Rattle.cronplan.specs.declared.windows.Bound.TheVariants as bounds
use Rattle.cronplan_forms.specs.declared.answers.quiet.ShownWindow.{ShownWindow}
use Rattle.cronplan_forms.specs.declared.clock.ClockTime.{ClockTime}
use Rattle.cronplan_forms.specs.Clocks.{lasting_text}
use Rattle.cronplan_forms.specs.WindowRuns.{AreTold, IsRun, comes_again, day_times_text, days_line, is_regular, longest_text, run_line, told_cmp, window_runs}

-- an hour of a day of March 2027, whose first second is given, on a clock that is so many hours ahead
abbrev hour_of : Weekday → (day : ℕ) → 1 ≤ day → day ≤ 31 → (hour : ℕ) → hour < 24 → ℕ → ℕ → ClockTime
hour_of weekday day from until hour held begin ahead = record {
  second = pos (begin + hour * 3_600);
  weekday = weekday;
  civil = record {
    date = record { year = pos 2_027; month = 3; day = day; real = ((omega arith, omega arith), (from, until)) };
    time = record { hour = hour; minute = 0; second = 0; hour_in = held; minute_in = omega arith; second_in = omega arith };
  };
  ahead = record { seconds = pos (ahead * 3_600) };
}

abbrev between : ClockTime → ClockTime → Bound → ShownWindow
between from until end = record {
  window = record { from = record { second = from.second; bound = bounds.Start }; until = record { second = until.second; bound = end } };
  from = from;
  until = until;
}

-- from 06:00 to 18:00 of a day, an hour ahead of UTC
abbrev by_day : Weekday → (day : ℕ) → 1 ≤ day → day ≤ 31 → ℕ → Bound → ShownWindow
by_day weekday day from until begin end = between (hour_of weekday day from until 6 (omega arith) begin 1) (hour_of weekday day from until 18 (omega arith) begin 1) end

abbrev monday : ShownWindow
monday = by_day weekdays.Monday 22 (omega arith) (omega arith) 1_805_670_000 bounds.Start

abbrev tuesday : ShownWindow
tuesday = by_day weekdays.Tuesday 23 (omega arith) (omega arith) 1_805_756_400 bounds.Start

abbrev friday : ShownWindow
friday = by_day weekdays.Friday 26 (omega arith) (omega arith) 1_806_015_600 bounds.Start

abbrev next_monday : ShownWindow
next_monday = by_day weekdays.Monday 29 (omega arith) (omega arith) 1_806_274_800 bounds.Start

-- that of Tuesday, where the plan ends with it
abbrev open_tuesday : ShownWindow
open_tuesday = by_day weekdays.Tuesday 23 (omega arith) (omega arith) 1_805_756_400 bounds.Span

-- that of Tuesday on a clock that was put forward in the night
abbrev summer_tuesday : ShownWindow
summer_tuesday =
    between (hour_of weekdays.Tuesday 23 (omega arith) (omega arith) 6 (omega arith) 1_805_752_800 2)
    (hour_of weekdays.Tuesday 23 (omega arith) (omega arith) 18 (omega arith) 1_805_752_800 2) bounds.Start

-- from 20:00 of Monday to 03:00 of Tuesday; and where the clock is put forward in between
abbrev night : ShownWindow
night =
    between (hour_of weekdays.Monday 22 (omega arith) (omega arith) 20 (omega arith) 1_805_670_000 1)
    (hour_of weekdays.Tuesday 23 (omega arith) (omega arith) 3 (omega arith) 1_805_756_400 1) bounds.Start

abbrev short_night : ShownWindow
short_night =
    between (hour_of weekdays.Monday 22 (omega arith) (omega arith) 20 (omega arith) 1_805_670_000 1)
    (hour_of weekdays.Tuesday 23 (omega arith) (omega arith) 3 (omega arith) 1_805_752_800 2) bounds.Start

on_the_next_day : comes_again monday tuesday ≡ true
unfolding wall_second day_number year_start days_since_zero days_of_months
on_the_next_day = refl

after_a_weekend : comes_again friday next_monday ≡ false
unfolding wall_second day_number year_start days_since_zero days_of_months
after_a_weekend = refl

perhaps_longer : comes_again monday open_tuesday ≡ false
unfolding wall_second day_number year_start days_since_zero days_of_months
perhaps_longer = refl

in_summer : comes_again monday summer_tuesday ≡ false
unfolding wall_second day_number year_start days_since_zero days_of_months
in_summer = refl

in_a_change : is_regular short_night ≡ false
in_a_change = refl

of_some_days : window_runs (monday ∷ tuesday ∷ friday ∷ []) ≡ (monday ∷ tuesday ∷ []) ∷ (friday ∷ []) ∷ []
unfolding wall_second day_number year_start days_since_zero days_of_months
of_some_days = refl

in_one_line : run_line (monday ∷ tuesday ∷ [])
    ≡ codes "  Mon 2027-03-22 to Tue 2027-03-23, each day 06:00:00 to 18:00:00 +01:00  " ++ (lasting_text 43_200 ++ codes "\n")
unfolding digits days_line wall_second day_number year_start days_since_zero days_of_months
in_one_line = refl

over_midnight : day_times_text night ≡ codes "20:00:00 to next day 03:00:00 +01:00  " ++ lasting_text 25_200
unfolding digits wall_second day_number year_start days_since_zero days_of_months
over_midnight = refl

-- of windows as long the one that begins earlier in the day, though on a later date
earlier_in_the_day : told_cmp tuesday (between monday.until (hour_of weekdays.Tuesday 23 (omega arith) (omega arith) 6 (omega arith) 1_805_756_400 1) bounds.Start) ≡ Less
unfolding wall_second day_number year_start days_since_zero days_of_months
earlier_in_the_day = refl

-- a window that is told twice is no answer
not_twice : (z : Zone) (p : Plan) (least : ℕ) → ¬ AreTold z p least (monday ∷ monday ∷ [])
unfolding wall_second day_number year_start days_since_zero days_of_months
not_twice z p least told = omega (arith, ap ordering_index (told.order 0 1 monday (omega arith) (omega arith)))

-- windows of a weekend between are no run
no_run_of_these : ¬ IsRun (monday ∷ friday ∷ [])
unfolding wall_second day_number year_start days_since_zero days_of_months
no_run_of_these run = true≢false (sym run.0)

no_run : longest_text true [] ≡ []
no_run = refl

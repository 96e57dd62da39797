-- The order of civil date-times is that of their wall seconds, and a wall second has one date and time.
use Rattle.std.proofs.Common.{◌≡◌, ◌↔◌, ℕ, ◌+◌, ◌-◌, ◌%◌, ◌<◌, true, refl, ap, sym, ◌∙◌, arith, ℤ, pos, neg_ℤ, ◌+ℤ◌, ◌*ℤ◌, ◌<ℤ◌, ◌≤ℤ◌, nat_cmp, int_cmp}
use Rattle.std.proofs.lemmas.Int.{by_lt_z}
use Rattle.std.proofs.Props.{props}
use mathlib.Core.HLevel.{is_prop→PathP}
use Rattle.std.specs.declared.cmp.Ordering.{Ordering}
use Rattle.std.specs.declared.cmp.Ordering.TheVariants.{Less, Equal, Greater}
use Rattle.std.specs.Ordering.{MatchOrdering, ordering_then, is_eq}
use Rattle.std.specs.Cmp.{int_ranks, ranks, int_cmp_is, nat_cmp_is}
use Rattle.jiff_core.proofs.CalendarLemmas.{days_of_months-zero}
use Rattle.jiff_core.proofs.SignedLemmas.{signed_arith}
use Rattle.croner_base.specs.declared.time.civil.CivilDate.{CivilDate}
use Rattle.croner_base.specs.declared.time.civil.CivilTime.{CivilTime}
use Rattle.croner_base.specs.declared.time.civil.CivilDateTime.{CivilDateTime}
use Rattle.croner_base.specs.Calendar.{IsRealDate, day_number, weekday_of_day, day_seconds}
use Rattle.croner_base.specs.Civil.{wall_second, day_of_date, seconds_of_time}
use Rattle.croner_base.specs.Limits.{first_year, last_year, year_limit}
use Rattle.croner_base.specs.Calm.{IsSearched, IsInReach, IsStart}
use Rattle.croner_base.specs.Written.{tie, nat_tie}
use Rattle.croner_base.proofs.calendar.ExamplesCalendar.{first_needed_year, first_searched_year, after_searched_years, after_needed_years, first_start_year, after_start_years}
use Rattle.croner_base.proofs.calendar.DayNumbers.{day_number-parts, day_number-lt_year, day_number-lt_month}
use Rattle.croner_base.proofs.calendar.JiffSeconds.{wall_second-parts}

-- what a comparison says, said of other things
mapped : (P Q R L E G : Type 0) (o : Ordering) → MatchOrdering o P Q R → (P → L) → (Q → E) → (R → G) → MatchOrdering o L E G
mapped P Q R L E G Less h less equal greater = less h
mapped P Q R L E G Equal h less equal greater = equal h
mapped P Q R L E G Greater h less equal greater = greater h

-- one comparison, and at a tie another
tied : (P Q R L E G : Type 0) (o next : Ordering) → MatchOrdering o P Q R → (P → L) → (Q → MatchOrdering next L E G) → (R → G) → MatchOrdering (ordering_then o next) L E G
tied P Q R L E G Less next h less equal greater = less h
tied P Q R L E G Equal next h less equal greater = equal h
tied P Q R L E G Greater next h less equal greater = greater h

-- no day of a year comes before its first
day_number-first : (y : ℤ) (m d : ℕ) → IsRealDate y m d → day_number y 1 1 ≤ℤ day_number y m d
day_number-first y m d h =
    omega (arith, signed_arith, day_number-parts y 1 1, day_number-parts y m d, days_of_months-zero y, h.1.0)

-- within a month by days, within a year by months, and then by years
day_ranks : (y : ℤ) (m d d₂ : ℕ) → MatchOrdering (nat_cmp d d₂) (day_number y m d <ℤ day_number y m d₂) (day_number y m d ≡ day_number y m d₂) (day_number y m d₂ <ℤ day_number y m d)
day_ranks y m d d₂ =
    mapped (d < d₂) (d ≡ d₂) (d₂ < d) _ _ _ (nat_cmp d d₂) (ranks d d₂)
    (λ lt. omega (arith, signed_arith, day_number-parts y m d, day_number-parts y m d₂, lt))
    (λ e. rw e)
    (λ gt. omega (arith, signed_arith, day_number-parts y m d, day_number-parts y m d₂, gt))

month_ranks : (y : ℤ) (m d m₂ d₂ : ℕ) → IsRealDate y m d → IsRealDate y m₂ d₂ → MatchOrdering (ordering_then (nat_cmp m m₂) (nat_cmp d d₂)) (day_number y m d <ℤ day_number y m₂ d₂) (day_number y m d ≡ day_number y m₂ d₂) (day_number y m₂ d₂ <ℤ day_number y m d)
month_ranks y m d m₂ d₂ h h₂ =
    tied (m < m₂) (m ≡ m₂) (m₂ < m) _ _ _ (nat_cmp m m₂) (nat_cmp d d₂) (ranks m m₂)
    (λ lt. day_number-lt_month y m d m₂ d₂ h h₂.1.0 lt)
    (λ e. rw e (day_ranks y m₂ d d₂))
    (λ gt. day_number-lt_month y m₂ d₂ m d h₂ h.1.0 gt)

date_ranks : (y : ℤ) (m d : ℕ) (y₂ : ℤ) (m₂ d₂ : ℕ) → IsRealDate y m d → IsRealDate y₂ m₂ d₂ → MatchOrdering (ordering_then (int_cmp y y₂) (ordering_then (nat_cmp m m₂) (nat_cmp d d₂))) (day_number y m d <ℤ day_number y₂ m₂ d₂) (day_number y m d ≡ day_number y₂ m₂ d₂) (day_number y₂ m₂ d₂ <ℤ day_number y m d)
date_ranks y m d y₂ m₂ d₂ h h₂ =
    tied (y <ℤ y₂) (y ≡ y₂) (y₂ <ℤ y) _ _ _ (int_cmp y y₂) (ordering_then (nat_cmp m m₂) (nat_cmp d d₂)) (int_ranks y y₂)
    (λ lt. day_number-lt_year y m d y₂ m₂ d₂ h h₂ lt)
    (λ e. rw e (month_ranks y₂ m d m₂ d₂ (rw e at h) h₂))
    (λ gt. day_number-lt_year y₂ m₂ d₂ y m d h₂ h gt)

pub date_cmp-chronological : (a b : CivilDate) → ordering_then (int_cmp a.year b.year) (ordering_then (nat_cmp a.month b.month) (nat_cmp a.day b.day)) ≡ int_cmp (day_of_date a) (day_of_date b)
date_cmp-chronological a b =
    int_cmp_is (day_of_date a) (day_of_date b) _ (date_ranks a.year a.month a.day b.year b.month b.day a.real b.real)

-- times of day by hours, minutes and seconds
time_ranks : (a b : CivilTime) → MatchOrdering (ordering_then (nat_cmp a.hour b.hour) (ordering_then (nat_cmp a.minute b.minute) (nat_cmp a.second b.second))) (seconds_of_time a < seconds_of_time b) (seconds_of_time a ≡ seconds_of_time b) (seconds_of_time b < seconds_of_time a)
time_ranks a b =
    tied (a.hour < b.hour) (a.hour ≡ b.hour) (b.hour < a.hour) _ _ _ (nat_cmp a.hour b.hour) (ordering_then (nat_cmp a.minute b.minute) (nat_cmp a.second b.second)) (ranks a.hour b.hour)
    (λ lt. omega (arith, lt, a.minute_in, a.second_in))
    (λ e. tied (a.minute < b.minute) (a.minute ≡ b.minute) (b.minute < a.minute) _ _ _ (nat_cmp a.minute b.minute) (nat_cmp a.second b.second) (ranks a.minute b.minute)
    (λ lt. omega (arith, e, lt, a.second_in))
    (λ f. mapped (a.second < b.second) (a.second ≡ b.second) (b.second < a.second) _ _ _ (nat_cmp a.second b.second) (ranks a.second b.second)
    (λ lt. omega (arith, e, f, lt)) (λ same. omega (arith, e, f, same)) (λ gt. omega (arith, e, f, gt)))
    (λ gt. omega (arith, e, gt, b.second_in)))
    (λ gt. omega (arith, gt, b.minute_in, b.second_in))

pub time_cmp-chronological : (a b : CivilTime) → ordering_then (nat_cmp a.hour b.hour) (ordering_then (nat_cmp a.minute b.minute) (nat_cmp a.second b.second)) ≡ nat_cmp (seconds_of_time a) (seconds_of_time b)
time_cmp-chronological a b = nat_cmp_is (seconds_of_time a) (seconds_of_time b) _ (time_ranks a b)

-- the order of the parts
abbrev pub parts_cmp : CivilDateTime → CivilDateTime → Ordering
parts_cmp a b =
    ordering_then
    (ordering_then (int_cmp a.date.year b.date.year) (ordering_then (nat_cmp a.date.month b.date.month) (nat_cmp a.date.day b.date.day)))
    (ordering_then (nat_cmp a.time.hour b.time.hour) (ordering_then (nat_cmp a.time.minute b.time.minute) (nat_cmp a.time.second b.time.second)))

second_ranks : (a b : CivilDateTime) → MatchOrdering (parts_cmp a b) (wall_second a <ℤ wall_second b) (wall_second a ≡ wall_second b) (wall_second b <ℤ wall_second a)
second_ranks a b =
    tied _ _ _ _ _ _ (ordering_then (int_cmp a.date.year b.date.year) (ordering_then (nat_cmp a.date.month b.date.month) (nat_cmp a.date.day b.date.day))) _
    (date_ranks a.date.year a.date.month a.date.day b.date.year b.date.month b.date.day a.date.real b.date.real)
    (λ lt. omega (arith, signed_arith, wall_second-parts a, wall_second-parts b, lt, a.time.hour_in, a.time.minute_in, a.time.second_in))
    (λ e. mapped _ _ _ _ _ _ (ordering_then (nat_cmp a.time.hour b.time.hour) (ordering_then (nat_cmp a.time.minute b.time.minute) (nat_cmp a.time.second b.time.second))) (time_ranks a.time b.time)
    (λ lt. omega (arith, signed_arith, wall_second-parts a, wall_second-parts b, e, lt))
    (λ same. omega (arith, signed_arith, wall_second-parts a, wall_second-parts b, e, same))
    (λ gt. omega (arith, signed_arith, wall_second-parts a, wall_second-parts b, e, gt)))
    (λ gt. omega (arith, signed_arith, wall_second-parts a, wall_second-parts b, gt, b.time.hour_in, b.time.minute_in, b.time.second_in))

pub parts_cmp-chronological : (a b : CivilDateTime) → parts_cmp a b ≡ int_cmp (wall_second a) (wall_second b)
parts_cmp-chronological a b = int_cmp_is (wall_second a) (wall_second b) (parts_cmp a b) (second_ranks a b)

int_tie : (m n : ℤ) → is_eq (int_cmp m n) ≡ true → m ≡ n
int_tie m n h = grind (arith, signed_arith)

-- dates with the same parts are the same, and so are times
same_date : (a b : CivilDate) → a.year ≡ b.year → a.month ≡ b.month → a.day ≡ b.day → a ≡ b
same_date a b y m d = λ i. record {
  year = y i;
  month = m i;
  day = d i;
  real = is_prop→PathP (λ j. IsRealDate (y j) (m j) (d j)) (λ j. hlevel props) a.real b.real i;
}

same_time : (a b : CivilTime) → a.hour ≡ b.hour → a.minute ≡ b.minute → a.second ≡ b.second → a ≡ b
same_time a b h m s = λ i. record {
  hour = h i;
  minute = m i;
  second = s i;
  hour_in = is_prop→PathP (λ j. h j < 24) (λ j. hlevel props) a.hour_in b.hour_in i;
  minute_in = is_prop→PathP (λ j. m j < 60) (λ j. hlevel props) a.minute_in b.minute_in i;
  second_in = is_prop→PathP (λ j. s j < 60) (λ j. hlevel props) a.second_in b.second_in i;
}

-- a wall second has one date and time
pub wall_second-injective : (a b : CivilDateTime) → wall_second a ≡ wall_second b → a ≡ b
wall_second-injective a b e =
    let all = tie _ _ (ap is_eq (parts_cmp-chronological a b ∙ sym (int_cmp_is (wall_second a) (wall_second b) Equal e))) in
    let date = tie (int_cmp a.date.year b.date.year) _ all.0 in
    let days = tie (nat_cmp a.date.month b.date.month) (nat_cmp a.date.day b.date.day) date.1 in
    let time = tie (nat_cmp a.time.hour b.time.hour) _ all.1 in
    let seconds = tie (nat_cmp a.time.minute b.time.minute) (nat_cmp a.time.second b.time.second) time.1 in
    let d : a.date ≡ b.date = same_date a.date b.date (int_tie _ _ date.0) (nat_tie _ _ days.0) (nat_tie _ _ days.1) in
    let t : a.time ≡ b.time = same_time a.time b.time (nat_tie _ _ time.0) (nat_tie _ _ seconds.0) (nat_tie _ _ seconds.1) in
    λ i. record { date = d i; time = t i }

first_of_year : (y : ℤ) (d : CivilDate) → y ≡ d.year → day_number y 1 1 ≤ℤ day_of_date d
first_of_year y d e = rw e (day_number-first d.year d.month d.day d.real)

-- a year is reached with the first second of its first day
pub year_reached : (c : CivilDateTime) (y : ℤ) → (y ≤ℤ c.date.year) ↔ ((day_number y 1 1 *ℤ pos day_seconds) ≤ℤ wall_second c)
year_reached c y =
    let first : IsRealDate y 1 1 = ((omega arith, omega arith), (omega arith, omega arith)) in (
      λ le. by_lt_z y c.date.year
          (λ lt. omega (arith, signed_arith, wall_second-parts c, day_number-lt_year y 1 1 c.date.year c.date.month c.date.day first c.date.real lt))
          (λ ge. omega (arith, signed_arith, wall_second-parts c, first_of_year y c.date (omega (arith, signed_arith, le, ge)))),
      λ le. by_lt_z c.date.year y
          (λ lt. absurd (omega (arith, signed_arith, le, wall_second-parts c, c.time.hour_in, c.time.minute_in, c.time.second_in, day_number-lt_year c.date.year c.date.month c.date.day y 1 1 c.date.real first lt)))
          (λ ge. ge),
    )

-- the weekday goes on with the day
pub weekday_of_day-next : (n : ℤ) → weekday_of_day (n +ℤ pos 1) ≡ (weekday_of_day n + 1) % 7
unfolding weekday_of_day
weekday_of_day-next n = omega (arith, signed_arith)

pub weekday_of_day-epoch : weekday_of_day (pos 0) ≡ 4
unfolding weekday_of_day
weekday_of_day-epoch = refl

-- years from one to another are the wall seconds from the first of the one to the last of the other
years_between : (c : CivilDateTime) (y z a b : ℤ) → day_number y 1 1 *ℤ pos day_seconds ≡ a → day_number (z +ℤ pos 1) 1 1 *ℤ pos day_seconds ≡ b +ℤ pos 1 → ((a ≤ℤ wall_second c) × (wall_second c ≤ℤ b)) ↔ ((y ≤ℤ c.date.year) × (c.date.year ≤ℤ z))
years_between c y z a b first next =
    let low = year_reached c y in
    let high = year_reached c (z +ℤ pos 1) in (
      λ h. (
        low.1 (omega (arith, signed_arith, first, h)),
        by_lt_z z c.date.year
            (λ lt. absurd (omega (arith, signed_arith, next, h, high.0 (omega (arith, signed_arith, lt)))))
            (λ le. le),
      ),
      λ h. (
        omega (arith, signed_arith, first, low.0 h.0),
        by_lt_z b (wall_second c)
            (λ lt. absurd (omega (arith, signed_arith, h, high.1 (omega (arith, signed_arith, next, lt)))))
            (λ le. le),
      ),
    )

pub searched_years : (c : CivilDateTime) → IsSearched (wall_second c) ↔ ((pos first_year ≤ℤ c.date.year) × (c.date.year ≤ℤ pos last_year))
searched_years c = years_between c (pos first_year) (pos last_year) _ _ first_searched_year after_searched_years

pub needed_years : (c : CivilDateTime) → IsInReach (wall_second c) ↔ ((pos (first_year - 1) ≤ℤ c.date.year) × (c.date.year ≤ℤ pos (last_year + 1)))
needed_years c = years_between c (pos (first_year - 1)) (pos (last_year + 1)) _ _ first_needed_year after_needed_years

pub start_years : (c : CivilDateTime) → IsStart (wall_second c) ↔ ((neg_ℤ (pos (year_limit - 1)) ≤ℤ c.date.year) × (c.date.year ≤ℤ pos (year_limit - 1)))
start_years c = years_between c (neg_ℤ (pos (year_limit - 1))) (pos (year_limit - 1)) _ _ first_start_year after_start_years

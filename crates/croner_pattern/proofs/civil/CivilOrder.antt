-- The order of civil dates, and of date-times: by the date, and on one date by the time.
use Rattle.std.proofs.Common.{◌≡◌, inl, inr, ◌+◌, ◌<◌, ◌↔◌, refl, sym, subst, ◌∙◌, arith, pos, ◌+ℤ◌, ◌<ℤ◌, true, false}
use Rattle.jiff_core.proofs.SignedLemmas.{signed_arith}
use Rattle.jiff_core.proofs.CalendarLemmas.{days_in_month_bounds}
use Rattle.croner_base.specs.declared.time.civil.CivilDate.{CivilDate}
use Rattle.croner_base.specs.declared.time.civil.CivilTime.{CivilTime}
use Rattle.croner_base.specs.declared.time.civil.CivilDateTime.{CivilDateTime}
use Rattle.croner_base.specs.Calendar.{day_number}
use Rattle.croner_base.specs.Civil.{HasYmd, wall_second, day_of_date, seconds_of_time}
use Rattle.croner_base.specs.declared.time.Direction.{Direction}
use Rattle.croner_base.specs.declared.time.Direction.TheVariants.{Forward, Backward}
use Rattle.croner_pattern.specs.Directions.{Precedes, Reaches}
use Rattle.croner_pattern.specs.Private.Cursor.{one_on, first_year, last_year, has_room, edge_day, place_in_day, year_of, month_of, day_of}
use Rattle.croner_pattern.proofs.civil.Ahead.{along-offset, along-gap, reaches-equal, same_or_ahead, both_ways}
use Rattle.croner_pattern.proofs.civil.Foremost.{same_number, Order, Start, reach-high, reach-middle, place-reach}
use Rattle.croner_base.proofs.calendar.DayNumbers.{day_number-day, day_number-lt_year, day_number-lt_month}
use Rattle.croner_base.proofs.calendar.JiffSeconds.{wall_second-parts}

day-number : (d : CivilDate) → day_of_date d ≡ day_number d.year d.month 0 +ℤ pos d.day
day-number d = let zeros : 0 + d.day ≡ d.day = omega arith in rw zeros at (day_number-day d.year d.month 0 d.day)

lt_month : (a b : CivilDate) → b.year ≡ a.year → a.month < b.month → day_of_date a <ℤ day_of_date b
lt_month a b e lt = rw e (day_number-lt_month a.year a.month a.day b.month b.day a.real b.real.1.0 lt)

lt_year : (a b : CivilDate) → a.year <ℤ b.year → day_of_date a <ℤ day_of_date b
lt_year a b lt = day_number-lt_year a.year a.month a.day b.year b.month b.day a.real b.real lt

pub dates : (dir : Direction) → Order dir day_of_date year_of month_of day_of
dates dir = record {
  by_high = λ a b h. grind (arith, signed_arith, lt_year a b, lt_year b a);
  by_middle = λ a b e h. grind (arith, signed_arith, lt_month a b e, lt_month b a (sym e));
  by_low = λ a b e f.
      let g = same_number b.month a.month f in
      let same : day_number b.year b.month 0 ≡ day_number a.year a.month 0 = rw (e, g) refl in
      along-gap dir (day_of_date a) (day_of_date b) (pos a.day) (pos b.day) (omega (arith, signed_arith, day-number a, day-number b, same));
}

-- the day after a date
pub date_start : (dir : Direction) (d : CivilDate) → Start (dates dir) d (one_on dir (day_of_date d)) d.year (pos d.month) (one_on dir (pos d.day))
date_start dir d = record {
  high_is = refl;
  middle_is = refl;
  low_is = omega (arith, signed_arith, along-offset dir (day_of_date d) 1, along-offset dir (pos d.day) 1);
  on = omega (arith, signed_arith, along-offset dir (day_of_date d) 1);
  at_most_one = omega (arith, signed_arith);
}

-- there is one date a day
pub same_date : (a b : CivilDate) → day_of_date a ≡ day_of_date b → HasYmd b.year b.month b.day a
same_date a b h =
    let o = dates Forward in
    let le : Reaches Forward (day_of_date a) (day_of_date b) = omega (arith, signed_arith) in
    let ge : Reaches Forward (day_of_date b) (day_of_date a) = omega (arith, signed_arith) in
    let year = both_ways Forward a.year b.year (reach-high o a b le) (reach-high o b a ge) in
    let month = both_ways Forward (pos a.month) (pos b.month) (reach-middle o a b (sym year) le) (reach-middle o b a year ge) in
    record { year_is = year; month_is = same_number a.month b.month month; day_is = omega (arith, signed_arith, o.by_low a b (sym year) (sym month)) }

-- ---- the first day of the year from which no step leads on

abbrev edge : Direction → CivilDate
edge Forward = record { year = pos last_year; month = 1; day = 1; real = ((omega arith, omega arith), (omega arith, omega arith)) }
edge Backward = record { year = pos first_year; month = 12; day = 31; real = ((omega arith, omega arith), (omega arith, omega arith)) }

edge_is : (dir : Direction) → day_of_date (edge dir) ≡ edge_day dir
edge_is Forward = refl
edge_is Backward = refl

pub room_before : (dir : Direction) (d : CivilDate) → has_room dir d.year ≡ true → Precedes dir (day_of_date d) (edge_day dir)
room_before Forward d h = (dates Forward).by_high d (edge Forward) (omega (arith, signed_arith))
room_before Backward d h = (dates Backward).by_high d (edge Backward) (omega (arith, signed_arith))

pub no_room-past : (dir : Direction) (d : CivilDate) → has_room dir d.year ≡ false → Reaches dir (edge_day dir) (day_of_date d)
no_room-past Forward d h =
    place-reach (dates Forward) (edge Forward) d (omega (arith, signed_arith)) (λ _. omega (arith, signed_arith, d.real.0.0)) (λ _ _. omega (arith, signed_arith, d.real.1.0))
no_room-past Backward d h =
    place-reach (dates Backward) (edge Backward) d (omega (arith, signed_arith)) (λ _. omega (arith, signed_arith, d.real.0.1))
    (λ _ _. omega (arith, signed_arith, d.real.1.1, days_in_month_bounds d.year d.month))

-- with no room a search comes to it alone
pub at_edge : (dir way : Direction) (d : CivilDate) → dir ≡ way → has_room dir d.year ≡ false → HasYmd (edge way).year (edge way).month (edge way).day d ↔ Reaches dir (day_of_date d) (edge_day dir)
at_edge dir way d same none = subst (λ x. HasYmd (edge x).year (edge x).month (edge x).day d ↔ Reaches dir (day_of_date d) (edge_day dir)) same (
  λ is. let e = is.year_is in let f = is.month_is in let g = is.day_is in rw (e, f, g) (reaches-equal dir (day_of_date (edge dir)) (edge_day dir) (edge_is dir)),
  λ r. same_date d (edge dir) (both_ways dir (day_of_date d) (edge_day dir) r (no_room-past dir d none) ∙ sym (edge_is dir)),
)

-- ---- wall seconds: by the date, and on one date by the time

pub seconds_bound : (t : CivilTime) → seconds_of_time t < 86_400
seconds_bound t = omega (arith, t.hour_in, t.minute_in, t.second_in)

pub reach-date : (dir : Direction) (a b : CivilDateTime) → Reaches dir (wall_second a) (wall_second b) → Reaches dir (day_of_date a.date) (day_of_date b.date)
reach-date dir a b h = grind (arith, signed_arith, wall_second-parts a, wall_second-parts b, seconds_bound a.time, seconds_bound b.time)

pub reach-time : (dir : Direction) (a b : CivilDateTime) → day_of_date b.date ≡ day_of_date a.date → Reaches dir (wall_second a) (wall_second b) → Reaches dir (place_in_day a.time) (place_in_day b.time)
reach-time dir a b e h = grind (arith, signed_arith, wall_second-parts a, wall_second-parts b)

pub wall-reach : (dir : Direction) (a b : CivilDateTime) → Reaches dir (day_of_date a.date) (day_of_date b.date) → (day_of_date b.date ≡ day_of_date a.date → Reaches dir (place_in_day a.time) (place_in_day b.time)) → Reaches dir (wall_second a) (wall_second b)
wall-reach dir a b h time = elim (same_or_ahead dir (day_of_date a.date) (day_of_date b.date) h) [
  | inl same ↦ wall-reach_time dir a b (sym same) (time (sym same))
  | inr later ↦ grind (arith, signed_arith, wall_second-parts a, wall_second-parts b, seconds_bound a.time, seconds_bound b.time)
]
  where
    wall-reach_time : (dir : Direction) (a b : CivilDateTime) → day_of_date b.date ≡ day_of_date a.date → Reaches dir (place_in_day a.time) (place_in_day b.time) → Reaches dir (wall_second a) (wall_second b)
    wall-reach_time Forward a b e h = omega (arith, signed_arith, wall_second-parts a, wall_second-parts b)
    wall-reach_time Backward a b e h = omega (arith, signed_arith, wall_second-parts a, wall_second-parts b)

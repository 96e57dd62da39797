-- Wall seconds and years, the seconds next to a second, and what the limit of the civil search means for wall seconds.
use Rattle.std.proofs.Common.{◌≡◌, inl, inr, ℕ, ◌+◌, ◌-◌, ◌*◌, ◌/◌, Bool, true, false, IsTrue, ◌↔◌, ◌⊎◌, Option, Some, None, IfSome, MatchOption, refl, sym, subst, ◌∙◌, arith, ℤ, pos, ◌+ℤ◌, ◌-ℤ◌, ◌*ℤ◌, ◌<ℤ◌, ◌≤ℤ◌}
use Rattle.std.proofs.lemmas.Bool.{cases_Bool}
use Rattle.std.proofs.lemmas.Int.{ints, by_lt_z}
use Rattle.jiff_core.specs.Calendar.{days_of_months}
use Rattle.jiff_core.proofs.SignedLemmas.{signed_arith}
use Rattle.croner_base.specs.declared.time.civil.CivilDateTime.{CivilDateTime}
use Rattle.croner_base.specs.Calendar.{day_seconds, day_number, year_start, days_since_zero, days_until_zero}
use Rattle.croner_base.specs.Civil.{wall_second, day_of_date, seconds_of_time}
use Rattle.croner_base.specs.Ends.{IsLastDate, IsFirstDate}
use Rattle.croner_base.specs.Limits.{first_year, last_year, first_needed, last_needed}
use Rattle.croner_base.proofs.calendar.DayNumbers.{day_number-next_year}
use Rattle.croner_base.proofs.calendar.Chronology.{year_reached}
use Rattle.croner_base.proofs.calendar.JiffSeconds.{wall_second-parts}
use Rattle.croner_pattern.specs.Meaning.{Meaning}
use Rattle.croner_pattern.specs.NextSecond.{has_room, edge_day, IsMove, IsOpen, IsOnSchedule, IsNearest, FindsNearest}
use Rattle.croner_pattern.specs.Schedule.{IsScheduled, DateMatches, is_scheduled, is_date_matching, is_fixed_time}
use Rattle.croner_pattern.specs.Shapes.{has_field_shapes}
use Rattle.croner_pattern.specs.Private.Cursor.{IsMatchingTime}
use Rattle.croner_pattern.proofs.civil.CivilOrder.{seconds_bound, same_date, reach-date, no_room-past}
use Rattle.croner_pattern.proofs.civil.DateSearch.{same_match, last_day-room, last_day-no_room}
use Rattle.croner_pattern.proofs.civil.Scheduled.{scheduled_parts}
use Rattle.croner_pattern.proofs.civil.SingleValues.{single-value, single_time}
use Rattle.croner_pattern.proofs.questions.FieldShapes.{field_shapes}
use Rattle.croner.specs.search.Limit.{IsWithin, year_5000, year_2}
use Rattle.croner.specs.Private.search.Schedule.{IsCovered, NextScheduled, NoneScheduled}
use Rattle.croner.specs.Private.search.Wall.{IsLastYear}
use Rattle.croner.proofs.zone.Ahead.{Direction, Forward, Backward, Precedes, Reaches, one_on, not_both, reaches-trans}

-- a step of one second, by the direction
pub step_forward : (dir : Direction) (c : CivilDateTime) (r : Option CivilDateTime) → dir ≡ Forward
    → MatchOption r (IsLastDate c.date × (seconds_of_time c.time ≡ day_seconds - 1)) (λ moved. wall_second moved ≡ wall_second c +ℤ pos 1)
    → MatchOption r (IsLastYear dir c.date.year) (λ moved. wall_second moved ≡ one_on dir (wall_second c))
step_forward dir c None is h = let last = h.0 in rw is last.year_is
step_forward dir c (Some moved) is h = rw is h

pub step_backward : (dir : Direction) (c : CivilDateTime) (r : Option CivilDateTime) → dir ≡ Backward
    → MatchOption r (IsFirstDate c.date × (seconds_of_time c.time ≡ 0)) (λ moved. wall_second moved ≡ wall_second c -ℤ pos 1)
    → MatchOption r (IsLastYear dir c.date.year) (λ moved. wall_second moved ≡ one_on dir (wall_second c))
step_backward dir c None is h = let last = h.0 in rw is last.year_is
step_backward dir c (Some moved) is h = rw is h

-- the day on which a year from 0 on begins
abbrev first_day : ℕ → ℤ
first_day y = pos (365 * y + (y + 3) / 4 - (y + 99) / 100 + (y + 399) / 400) -ℤ pos 719_528

-- the years at which a search's span ends, and those far outside, begin at these days
abbrev Begins : ℕ → Type 0
Begins y = day_number (pos y) 1 1 ≡ first_day y

begins : Begins last_year × Begins (first_year + 1) × Begins (last_year + 2) × Begins (first_year - 1)
unfolding day_number year_start days_since_zero days_until_zero days_of_months
begins = (refl, refl, refl, refl)

last_of_1 : day_number (pos first_year) 12 31 ≡ first_day (first_year + 1) -ℤ pos 1
last_of_1 = omega (arith, ints, begins.1, day_number-next_year (pos first_year))

-- a date-time is of a year or a later one from the year's first second on
year_from : (c : CivilDateTime) (y : ℕ) (first : ℤ) → Begins y → first ≡ first_day y *ℤ pos day_seconds → (pos y ≤ℤ c.date.year) ↔ (first ≤ℤ wall_second c)
year_from c y first e f = rw (f, ← e) (year_reached c (pos y))

pub within_forward : (direction : Direction) (c : CivilDateTime) (b : Bool) → direction ≡ Forward → (IsTrue b ↔ c.date.year <ℤ pos last_year)
    → IsTrue b ↔ IsWithin direction (wall_second c)
within_forward direction c b e f =
    let at = year_from c last_year year_5000 begins.0 refl in
    rw e (
      λ t. by_lt_z (wall_second c) year_5000 (λ lt. lt) (λ le. let late = at.1 le in let early = f.0 t in absurd (omega (arith, ints))),
      λ h. by_lt_z c.date.year (pos last_year) (λ lt. f.1 lt) (λ le. let late = at.0 le in absurd (omega (arith, ints))),
    )

pub within_backward : (direction : Direction) (c : CivilDateTime) (b : Bool) → direction ≡ Backward → (IsTrue b ↔ pos first_year <ℤ c.date.year)
    → IsTrue b ↔ IsWithin direction (wall_second c)
within_backward direction c b e f =
    let at = year_from c (first_year + 1) year_2 begins.1 refl in
    rw e (λ t. let late = f.0 t in at.0 (omega (arith, ints)), λ h. let late = at.1 h in f.1 (omega (arith, ints)))

-- a wall second that no search comes to
abbrev pub IsFar : Direction → ℤ → Type 0
IsFar Forward w = last_needed <ℤ w
IsFar Backward w = w <ℤ first_needed

-- the last years that a date can have lie far outside
pub last_year_far : (direction : Direction) (c : CivilDateTime) → IsLastYear direction c.date.year → IsFar direction (wall_second c)
last_year_far Forward c e =
    let late = (year_from c (last_year + 2) (last_needed +ℤ pos 1) begins.2 refl).0 (omega (arith, ints)) in
    omega (arith, ints)
last_year_far Backward c e =
    by_lt_z (wall_second c) first_needed (λ lt. lt)
    (λ le. let late = (year_from c (first_year - 1) first_needed begins.3 refl).1 le in absurd (omega (arith, ints)))

-- ---- the civil search

-- the day of a covered second lies before the edge, or there backward for a fixed-time job
covered_day : (dir : Direction) (fixed : Bool) (y : CivilDateTime) → IsCovered dir fixed (wall_second y)
    → Reaches dir (day_of_date y.date) (edge_day dir) × (Precedes dir (day_of_date y.date) (edge_day dir) ⊎ (fixed ≡ true))
covered_day Forward fixed y h =
    let before : Precedes Forward (day_of_date y.date) (edge_day Forward) = omega (arith, signed_arith, begins.0, wall_second-parts y) in
    (omega (arith, signed_arith), inl before)
covered_day Backward false y h =
    let before : Precedes Backward (day_of_date y.date) (edge_day Backward) = omega (arith, signed_arith, last_of_1, wall_second-parts y, seconds_bound y.time) in
    (omega (arith, signed_arith), inl before)
covered_day Backward true y h = (omega (arith, signed_arith, last_of_1, wall_second-parts y, seconds_bound y.time), inr refl)

-- a job at one time of the day needs no step
fixed_move : (m : Meaning) (from y : CivilDateTime) → has_field_shapes m ≡ true → is_fixed_time m ≡ true → IsMatchingTime m y.time → IsMove m from.time y.time
fixed_move m from y shapes fixed is =
    let s = single_time m fixed in
    let fields = field_shapes m shapes in
    let h = fields.hours in
    let n = fields.minutes in
    record {
      hour = λ p. single-value m.hours 23 y.time.hour from.time.hour s.hours h.min h.max (omega (arith, y.time.hour_in)) (omega (arith, from.time.hour_in)) is.hour p;
      minute = λ _ p. single-value m.minutes 59 y.time.minute from.time.minute s.minutes n.min n.max (omega (arith, y.time.minute_in)) (omega (arith, from.time.minute_in)) is.minute p;
    }

-- a covered second is open: from a year without room none lies before the edge
open_covered : (m : Meaning) (dir : Direction) (from y : CivilDateTime) → has_field_shapes m ≡ true → Reaches dir (wall_second from) (wall_second y)
    → is_scheduled m y ≡ true → IsCovered dir (is_fixed_time m) (wall_second y) → IsOpen m dir from y
open_covered m dir from y shapes r is covered =
    let (reach, near) = covered_day dir (is_fixed_time m) y covered in
    let day = day_of_date y.date in
    record {
      scheduled = is;
      within = elim (cases_Bool (has_room dir from.date.year)) [
        | inl room ↦ subst (Reaches dir day) (sym (last_day-room dir from.date room)) reach
        | inr none ↦
            let past = reaches-trans dir day (edge_day dir) (day_of_date from.date) reach (no_room-past dir from.date none) in
            subst (Reaches dir day) (sym (last_day-no_room dir from.date none)) past
      ];
      move = λ lacks. elim near [
        | inl before ↦ absurd (not_both dir day (edge_day dir) before (reaches-trans dir (edge_day dir) (day_of_date from.date) day (no_room-past dir from.date lacks) (reach-date dir from y r)))
        | inr is_fixed ↦ let p = scheduled_parts m y is in fixed_move m from y shapes is_fixed p.time
      ];
    }

-- what the civil search answers
pub search_answer : (m : Meaning) (dir : Direction) (from : CivilDateTime) (r : Option CivilDateTime) → has_field_shapes m ≡ true
    → FindsNearest wall_second (IsOpen m dir from) dir (wall_second from) r → IfSome r (IsNearest wall_second (IsOnSchedule m) dir (wall_second from))
    → MatchOption r (NoneScheduled dir (is_fixed_time m) (IsScheduled m) (wall_second from)) (λ w. NextScheduled dir (IsScheduled m) (wall_second from) (wall_second w))
search_answer m dir from None shapes f n = λ w r covered is.
    let reach = subst (Reaches dir (wall_second from)) (sym is.shows) r in
    f is.shown reach (open_covered m dir from is.shown shapes reach is.matches (subst (IsCovered dir (is_fixed_time m)) (sym is.shows) covered))
search_answer m dir from (Some c) shapes f n = record {
  on = n.on;
  is = record { shown = c; shows = refl; matches = n.is };
  none = λ v r p is.
      not_both dir v (wall_second c) p
      (subst (Reaches dir (wall_second c)) is.shows (n.first is.shown (subst (Reaches dir (wall_second from)) (sym is.shows) r) is.matches));
}

pub date_answer : (m : Meaning) (c : CivilDateTime) (b : Bool) → b ≡ is_date_matching m c.date → IsTrue b ↔ DateMatches m (wall_second c)
date_answer m c b e = (
  λ t. record { shown = c; shows = refl; matches = sym e ∙ t },
  λ d.
      let same : day_of_date c.date ≡ day_of_date d.shown.date =
      omega (arith, signed_arith, d.shows, wall_second-parts c, wall_second-parts d.shown, seconds_bound c.time, seconds_bound d.shown.time) in
      e ∙ same_match m c.date d.shown.date (same_date c.date d.shown.date same) d.matches,
)

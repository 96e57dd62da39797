-- A job in few words is like the pattern of which it was made.
use Rattle.std.proofs.Common.{◌≡◌, ℕ, ◌+◌, ◌-◌, ◌^◌, ◌<◌, ◌≤◌, Bool, true, false, not, ◌&&◌, List, [], slice_index, refl, ap, sym, ◌∙◌, subst, arith}
use Rattle.croner_base.specs.Field.{Shape, Field, has_all, can_ask, is_marked}
use Rattle.croner_pattern.specs.Meaning.{Meaning}
use Rattle.croner_pattern.specs.Schedule.{is_plain, is_fixed_time}
use Rattle.croner_pattern.specs.Shapes.{has_field_shapes, sixty_shape, hour_shape, day_shape, month_shape, weekday_shape}
use Rattle.croner_pattern.specs.Words.{has_bit, ShowsPlain, ShowsDays}
use Rattle.croner_pattern.proofs.civil.SingleValues.{single_time}
use Rattle.croner_pattern.proofs.questions.FieldShapes.{HasLikeShape, HasFieldShapes, field_shapes, can_ask-alike}
use Rattle.croner.specs.compact.Compact.{IsAlike}
use Rattle.croner.specs.compact.WordFields.{plain_field, is_single_time, enabled_by, day_field, week_field, years_field}
use Rattle.croner.specs.search.PatternJob.{timetable_of}
use Rattle.croner.specs.declared.compact.years.Years.{Years}
use Rattle.croner.specs.declared.compact.parts.LastDay.{LastDay}
use Rattle.croner.proofs.compact.Alike.{NameSame, MarkSame, named_same, asked_within, single_field, timetables_alike}
use Rattle.croner.proofs.compact.WeekMarks.{shows_week}
use Rattle.croner.proofs.compact.WordMarks.{shows_plain, shows_days, shows_nearest}

-- a word that shows the plain values of two fields
marks_same : (f g : Field) (word : ℕ) → HasLikeShape f.shape g.shape → g.shape.max < 64 → ShowsPlain f word → ShowsPlain g word → MarkSame 1 f g
marks_same f g word h small a b v asks =
    let lt : v < 64 = omega (arith, (asked_within g.shape v 1 asks).1) in
    sym (a v lt (can_ask-alike f.shape g.shape v 1 h ∙ asks)) ∙ b v lt asks

pub plain_marks : (f : Field) (shape : Shape) (star : Bool) (word : ℕ) → HasLikeShape f.shape shape → shape.max < 64 → ShowsPlain f word → MarkSame 1 f (plain_field shape star word)
plain_marks f shape star word h small a = marks_same f (plain_field shape star word) word h small a (shows_plain shape (not star) word)

-- a short word that shows the values up to the greatest
pub shown_up_to : (f : Field) (top word : ℕ) → f.shape.max ≡ top → ((v : ℕ) → v < top + 1 → has_bit word v ≡ is_marked 1 f v) → ShowsPlain f word
shown_up_to f top word e shows v small asks = shows v (omega (arith, e, (asked_within f.shape v 1 asks).1))

-- a word that shows the days of two fields
pub day_marks_same : (bits : ℕ) (f g : Field) (word : ℕ) → g.shape ≡ day_shape → ShowsDays 31 (is_marked bits f) word → ShowsDays 31 (is_marked bits g) word → MarkSame bits f g
day_marks_same bits f g word e a b v asks =
    let within = asked_within g.shape v bits asks in
    let low : 1 ≤ v = omega (arith, ap (λ (s : Shape). s.min) e, within.0) in
    let high : v ≤ 31 = omega (arith, ap (λ (s : Shape). s.max) e, within.1) in
    let lt : v - 1 < 31 = omega arith in
    let back : (v - 1) + 1 ≡ v = omega arith in
    subst (λ x. is_marked bits f x ≡ is_marked bits g x) back (sym (a (v - 1) lt) ∙ b (v - 1) lt)

-- `L`, and `LW`
last_same : (a b c d : Bool) → c ≡ a → (c ≡ true → d ≡ b) → ((a && not b) ≡ (c && not d)) × ((a && b) ≡ (c && d))
last_same a b true d e f = let g = f refl in rw (sym e, g) (refl, refl)
last_same a b false d e f = rw (sym e) (refl, refl)

module _ (m : Meaning) (shaped : has_field_shapes m ≡ true) where
  shapes : HasFieldShapes m
  shapes = field_shapes m shaped

  -- the kind of job
  pub kind_same : (kind : Bool) (s n h : ℕ) → kind ≡ is_fixed_time m → ShowsPlain m.seconds s → ShowsPlain m.minutes n → ShowsPlain m.hours h → kind ≡ is_single_time kind s n h
  kind_same false s n h e a b c = refl
  kind_same true s n h e a b c =
      let t = single_time m (sym e) in
      let seconds = single_field m.seconds sixty_shape s shapes.seconds refl (omega arith) (plain_marks m.seconds sixty_shape true s shapes.seconds (omega arith) a) t.seconds in
      let minutes = single_field m.minutes sixty_shape n shapes.minutes refl (omega arith) (plain_marks m.minutes sixty_shape true n shapes.minutes (omega arith) b) t.minutes in
      let hours = single_field m.hours hour_shape h shapes.hours refl (omega arith) (plain_marks m.hours hour_shape true h shapes.hours (omega arith) c) t.hours in
      sym (λ i. seconds i && (minutes i && hours i))

  pub seconds_same : (kind : Bool) (s : ℕ) → ShowsPlain m.seconds s → NameSame 1 m.seconds (plain_field sixty_shape kind s)
  seconds_same kind s a = named_same 1 m.seconds (plain_field sixty_shape kind s) shapes.seconds (plain_marks m.seconds sixty_shape kind s shapes.seconds (omega arith) a)

  pub minutes_same : (kind : Bool) (n : ℕ) → ShowsPlain m.minutes n → NameSame 1 m.minutes (plain_field sixty_shape kind n)
  minutes_same kind n a = named_same 1 m.minutes (plain_field sixty_shape kind n) shapes.minutes (plain_marks m.minutes sixty_shape kind n shapes.minutes (omega arith) a)

  pub hours_same : (kind : Bool) (h : ℕ) → ShowsPlain m.hours h → NameSame 1 m.hours (plain_field hour_shape kind h)
  hours_same kind h a = named_same 1 m.hours (plain_field hour_shape kind h) shapes.hours (plain_marks m.hours hour_shape kind h shapes.hours (omega arith) a)

  pub months_same : (mo : ℕ) → ShowsPlain m.months mo → NameSame 1 m.months (plain_field month_shape false mo)
  months_same mo a = named_same 1 m.months (plain_field month_shape false mo) shapes.months (plain_marks m.months month_shape false mo shapes.months (omega arith) a)

  pub hours_shown : (h : ℕ) → ((v : ℕ) → v < 24 → has_bit h v ≡ is_marked 1 m.hours v) → ShowsPlain m.hours h
  hours_shown h = shown_up_to m.hours 23 h shapes.hours.max

  pub months_shown : (mo : ℕ) → ((v : ℕ) → v < 13 → has_bit mo v ≡ is_marked 1 m.months v) → ShowsPlain m.months mo
  months_shown mo = shown_up_to m.months 12 mo shapes.months.max

  module _ (plain nearest : ℕ) (last : LastDay) where
    pub days_same : ShowsDays 31 (is_marked 1 m.days) plain → NameSame 1 m.days (day_field plain nearest last)
    days_same a = named_same 1 m.days (day_field plain nearest last) shapes.days (day_marks_same 1 m.days (day_field plain nearest last) plain refl a (shows_days plain nearest last))

    pub nearest_same : ShowsDays 31 (is_marked 128 m.days) nearest → NameSame 128 m.days (day_field plain nearest last)
    nearest_same a = named_same 128 m.days (day_field plain nearest last) shapes.days (day_marks_same 128 m.days (day_field plain nearest last) nearest refl a (shows_nearest plain nearest last))

  -- the last days of the field and of what is kept of it
  pub last_days_same : (last : LastDay) → has_all (enabled_by last) 64 ≡ has_all m.days.enabled 64
      → (has_all (enabled_by last) 64 ≡ true → has_all (enabled_by last) 128 ≡ has_all m.days.enabled 128)
      → ((has_all m.days.enabled 64 && not (has_all m.days.enabled 128)) ≡ (has_all (enabled_by last) 64 && not (has_all (enabled_by last) 128)))
      × ((has_all m.days.enabled 64 && has_all m.days.enabled 128) ≡ (has_all (enabled_by last) 64 && has_all (enabled_by last) 128))
  last_days_same last = last_same (has_all m.days.enabled 64) (has_all m.days.enabled 128) (has_all (enabled_by last) 64) (has_all (enabled_by last) 128)

  pub week_same : (rows : List ℕ) → ((k w : ℕ) → k < 7 → w < 7 → has_bit (slice_index rows k) w ≡ is_marked (2 ^ k) m.days_of_week w)
      → (k w : ℕ) → k < 7 → w < 7 → (can_ask m.days_of_week.shape w (2 ^ k) && is_marked (2 ^ k) m.days_of_week w) ≡ (can_ask (weekday_shape 0) w (2 ^ k) && is_marked (2 ^ k) (week_field rows) w)
  week_same rows a k w hk hw =
      let marks = sym (a k w hk hw) ∙ shows_week rows k w hk hw in
      (λ i. can_ask-alike m.days_of_week.shape (weekday_shape 0) w (2 ^ k) shapes.weekdays i && marks i)

  -- a job of such words is like the pattern
  pub made_alike : (kind : Bool) (s n h plain nearest : ℕ) (last : LastDay) (mo : ℕ) (rows : List ℕ) (years : Years) (star_day star_weekday both : Bool)
      → kind ≡ is_fixed_time m → ShowsPlain m.seconds s → ShowsPlain m.minutes n → ShowsPlain m.hours h
      → ShowsDays 31 (is_marked 1 m.days) plain → ShowsDays 31 (is_marked 128 m.days) nearest
      → has_all (enabled_by last) 64 ≡ has_all m.days.enabled 64
      → (has_all (enabled_by last) 64 ≡ true → has_all (enabled_by last) 128 ≡ has_all m.days.enabled 128)
      → ShowsPlain m.months mo
      → ((k w : ℕ) → k < 7 → w < 7 → has_bit (slice_index rows k) w ≡ is_marked (2 ^ k) m.days_of_week w)
      → ((y : ℕ) → is_plain (years_field years) y ≡ is_plain m.years y)
      → star_day ≡ m.star_day → star_weekday ≡ m.star_weekday → both ≡ m.and
      → IsAlike (timetable_of m) (timetable_of (record {
        seconds = plain_field sixty_shape kind s;
        minutes = plain_field sixty_shape kind n;
        hours = plain_field hour_shape kind h;
        days = day_field plain nearest last;
        months = plain_field month_shape false mo;
        days_of_week = week_field rows;
        years = years_field years;
        star_day = star_day;
        star_weekday = star_weekday;
        and = both;
        text = [];
      }))
  made_alike kind s n h plain nearest last mo rows years star_day star_weekday both e a b c d f l w g week y sd sw sb =
      timetables_alike m _ (record {
        seconds = seconds_same kind s a;
        minutes = minutes_same kind n b;
        hours = hours_same kind h c;
        days = days_same plain nearest last d;
        nearest = nearest_same plain nearest last f;
        last_day = (last_days_same last l w).0;
        last_working = (last_days_same last l w).1;
        months = months_same mo g;
        weekdays = week_same rows week;
        years = λ v. sym (y v);
        star_day = sym sd;
        star_weekday = sym sw;
        both = sym sb;
      }) (sym e ∙ kind_same kind s n h e a b c)

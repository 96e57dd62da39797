-- Patterns that are alike: they name the same values, and so the same seconds.
use Rattle.std.proofs.Common.{◌≡◌, ℕ, zero, suc, ◌+◌, ◌-◌, ◌^◌, ◌<◌, ◌≤◌, Bool, true, false, not, ◌&&◌, ◌||◌, ◌==◌, nat_le, length, refl, ap, sym, ◌∙◌, arith, inl, inr, pos, int_le, unsigned_abs}
use Rattle.std.specs.List.{list_any, filter, range_with_len}
use Rattle.std.proofs.lemmas.Bool.{and_parts, cases_Bool}
use Rattle.std.proofs.lemmas.Bool.Decides.{nat_tests}
use Rattle.jiff_core.specs.Calendar.{days_in_month}
use Rattle.croner_base.specs.declared.time.civil.CivilDate.{CivilDate}
use Rattle.croner_base.specs.declared.time.civil.CivilDateTime.{CivilDateTime}
use Rattle.jiff_core.proofs.CalendarLemmas.{days_in_month_bounds}
use Rattle.croner_base.specs.Field.{Shape, Field, has_all, can_ask, is_marked, marked_values}
use Rattle.croner_base.specs.Limits.{first_year, last_year}
use Rattle.croner_pattern.specs.Days.{days_of, weekday_of, occurrence, is_last_day, is_last_working, is_last_weekday, is_nearest}
use Rattle.croner_pattern.specs.Meaning.{Meaning}
use Rattle.croner_pattern.specs.Schedule.{is_named, is_plain, names_last_day, names_last_working_day, is_near_target, is_day_side, is_weekday_side, is_day_matching, are_joined, is_year_matching, is_date_matching, is_scheduled, is_single, is_fixed_time, first_weekday}
use Rattle.croner_pattern.proofs.civil.Weekdays.{weekday_bound}
use Rattle.croner_pattern.proofs.days.DayTable.{occurrence_is}
use Rattle.croner_pattern.proofs.questions.FieldShapes.{HasLikeShape, can_ask-alike}
use Rattle.croner.specs.compact.Compact.{IsAlike}
use Rattle.croner.specs.compact.WordFields.{plain_field}
use Rattle.croner.specs.search.PatternJob.{timetable_of}

-- two fields name the same plain values
abbrev pub NameSame : ℕ → Field → Field → Type 0
NameSame bits f g = (v : ℕ) → is_named bits f v ≡ is_named bits g v

pub record AreAlike (m n : Meaning) : Type 0 where
  pub seconds : NameSame 1 m.seconds n.seconds
  pub minutes : NameSame 1 m.minutes n.minutes
  pub hours : NameSame 1 m.hours n.hours
  pub days : NameSame 1 m.days n.days
  pub nearest : NameSame 128 m.days n.days
  pub last_day : names_last_day m.days ≡ names_last_day n.days
  pub last_working : names_last_working_day m.days ≡ names_last_working_day n.days
  pub months : NameSame 1 m.months n.months
  pub weekdays : (k w : ℕ) → k < 7 → w < 7 → is_named (2 ^ k) m.days_of_week w ≡ is_named (2 ^ k) n.days_of_week w
  pub years : NameSame 1 m.years n.years
  pub star_day : m.star_day ≡ n.star_day
  pub star_weekday : m.star_weekday ≡ n.star_weekday
  pub both : m.and ≡ n.and

module _ (m n : Meaning) (same : AreAlike m n) where
  near_alike : (len first day : ℕ) → is_near_target m.days len first day ≡ is_near_target n.days len first day
  near_alike len first day i = list_any (λ target. same.nearest target i && is_nearest len first target day) (days_of len)

  day_side_alike : (len first day : ℕ) → is_day_side m.days len first day ≡ is_day_side n.days len first day
  day_side_alike len first day i =
      same.days day i || ((same.last_day i && is_last_day len day) || ((same.last_working i && is_last_working len first day) || near_alike len first day i))

  nth_alike : (first day w : ℕ) → first < 7 → 1 ≤ day → day ≤ 31 → w < 7
      → is_named (2 ^ occurrence first day) m.days_of_week w ≡ is_named (2 ^ occurrence first day) n.days_of_week w
  nth_alike first day w small low high h =
      let few : occurrence first day < 7 = omega (arith, occurrence_is first day small low high) in
      same.weekdays (occurrence first day) w few h

  weekday_side_alike : (len first day : ℕ) → first < 7 → 1 ≤ day → day ≤ 31 → is_weekday_side m.days_of_week len first day ≡ is_weekday_side n.days_of_week len first day
  weekday_side_alike len first day small low high =
      let w = weekday_of first day in
      let h : w < 7 = omega arith in
      let plain : is_plain m.days_of_week w ≡ is_plain n.days_of_week w = same.weekdays 0 w (omega arith) h in
      let last : is_named 64 m.days_of_week w ≡ is_named 64 n.days_of_week w = same.weekdays 6 w (omega arith) h in
      let nth = nth_alike first day w small low high h in
      (λ i. plain i || (nth i || (last i && is_last_weekday len first day)))

  day_alike : (len first day : ℕ) → first < 7 → 1 ≤ day → day ≤ 31 → is_day_matching m len first day ≡ is_day_matching n len first day
  day_alike len first day small low high =
      let side = weekday_side_alike len first day small low high in
      (λ i. are_joined (same.star_day i) (same.star_weekday i) (same.both i) (day_side_alike len first day i) (side i))

  pub date_alike : (d : CivilDate) → is_date_matching m d ≡ is_date_matching n d
  date_alike d =
      let first = first_weekday d.year d.month in
      let day = day_alike (days_in_month d.year d.month) first d.day (weekday_bound d.year d.month) d.real.1.0 (omega (arith, d.real.1.1, (days_in_month_bounds d.year d.month).0)) in
      let year : is_year_matching m d.year ≡ is_year_matching n d.year = (λ i. (int_le (pos first_year) d.year && int_le d.year (pos last_year)) && same.years (unsigned_abs d.year) i) in
      (λ i. year i && (same.months d.month i && day i))

  pub second_alike : (c : CivilDateTime) → is_scheduled m c ≡ is_scheduled n c
  second_alike c =
      let date = date_alike c.date in
      (λ i. same.seconds c.time.second i && (same.minutes c.time.minute i && (same.hours c.time.hour i && date i)))

  pub timetables_alike : is_fixed_time m ≡ is_fixed_time n → IsAlike (timetable_of m) (timetable_of n)
  timetables_alike fixed = record {
    scheduled = λ w. (
      λ s. record { shown = s.shown; shows = s.shows; matches = sym (second_alike s.shown) ∙ s.matches },
      λ s. record { shown = s.shown; shows = s.shows; matches = second_alike s.shown ∙ s.matches },
    );
    date_matches = λ w. (
      λ s. record { shown = s.shown; shows = s.shows; matches = sym (date_alike s.shown.date) ∙ s.matches },
      λ s. record { shown = s.shown; shows = s.shows; matches = date_alike s.shown.date ∙ s.matches },
    );
    fixed_time = fixed;
  }

-- ---- fields that have the same marks

-- of the values that can be asked for the marks are the same
abbrev pub MarkSame : ℕ → Field → Field → Type 0
MarkSame bits f g = (v : ℕ) → can_ask g.shape v bits ≡ true → is_marked bits f v ≡ is_marked bits g v

pub named_same : (bits : ℕ) (f g : Field) → HasLikeShape f.shape g.shape → MarkSame bits f g → NameSame bits f g
named_same bits f g h same v = elim (cases_Bool (can_ask g.shape v bits)) [
  | inl e ↦ let marks = same v e in (λ i. can_ask-alike f.shape g.shape v bits h i && marks i)
  | inr e ↦ let no = can_ask-alike f.shape g.shape v bits h ∙ e in rw (no, e) refl
]

filter_same : (p q : ℕ → Bool) (a n : ℕ) → ((x : ℕ) → a ≤ x → x < a + n → p x ≡ q x) → filter p (range_with_len a n) ≡ filter q (range_with_len a n)
filter_same p q a zero h = refl
filter_same p q a (suc n) h =
    let more = filter_same p q (a + 1) n (λ x low high. h x (omega arith) (omega arith)) in
    let here = h a (omega arith) (omega arith) in
    rw (here, more) refl

below : (a b : ℕ) → nat_le a b ≡ true → a ≤ b
below a b h = grind (arith, nat_tests)

-- a value that can be asked for lies in the bounds
pub asked_within : (s : Shape) (v bits : ℕ) → can_ask s v bits ≡ true → (s.min ≤ v) × (v ≤ s.max)
asked_within s v bits h =
    let bounds = and_parts (nat_le s.min v) (nat_le v s.max) (and_parts (nat_le s.min v && nat_le v s.max) (has_all s.supported bits) (and_parts ((nat_le s.min v && nat_le v s.max) && has_all s.supported bits) (not (s.max == 0)) h).0).0 in
    (below s.min v bounds.0, below v s.max bounds.1)

-- and each that does can be asked for
asks_within : (s : Shape) (v : ℕ) → has_all s.supported 1 ≡ true → 1 ≤ s.max → s.min ≤ v → v ≤ s.max → can_ask s v 1 ≡ true
asks_within s v has some low high =
    let a : nat_le s.min v ≡ true = grind (arith, nat_tests) in
    let b : nat_le v s.max ≡ true = grind (arith, nat_tests) in
    let c : (s.max == 0) ≡ false = grind (arith, nat_tests) in
    rw (a, b, has, c) refl

count_same : (f g : Field) → HasLikeShape f.shape g.shape → has_all g.shape.supported 1 ≡ true → 1 ≤ g.shape.max → MarkSame 1 f g → length (marked_values 1 f) ≡ length (marked_values 1 g)
count_same f g h has some same =
    let low = h.min in
    let high = h.max in
    let bits = h.supported in
    let e = filter_same (is_marked 1 f) (is_marked 1 g) g.shape.min ((g.shape.max + 1) - g.shape.min) (λ x a b. same x (asks_within g.shape x has some a (omega (arith, a, b)))) in
    rw (low, high, bits, has) (ap length e)

-- a field that names one value, by a word
pub single_field : (f : Field) (shape : Shape) (word : ℕ) → HasLikeShape f.shape shape → has_all shape.supported 1 ≡ true → 1 ≤ shape.max → MarkSame 1 f (plain_field shape true word)
    → is_single f ≡ true → is_single (plain_field shape true word) ≡ true
single_field f shape word h has some same is =
    let rest : (not f.wildcard && length (marked_values 1 f) == 1) ≡ true = (and_parts (f.step == 1) _ is).1 in
    let test : (length (marked_values 1 f) == 1) ≡ true = (and_parts (not f.wildcard) _ rest).1 in
    ap (λ n. n == 1) (sym (count_same f (plain_field shape true word) h has some same)) ∙ test

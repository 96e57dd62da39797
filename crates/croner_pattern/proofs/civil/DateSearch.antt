-- The search for the first date that matches after a date.
use Rattle.std.proofs.Common.{◌≡◌, ◌↔◌, ℕ, ◌+◌, ◌-◌, ◌*◌, ◌%◌, ◌^◌, ◌<◌, ◌≤◌, inl, inr, IsTrue, Bool, true, false, ◌&&◌, nat_lt, if◌then◌else◌, refl, sym, ap, subst, ◌∙◌, arith, ℤ, pos, negsuc, ◌≤ℤ◌, int_le, unsigned_abs}
use Rattle.std.specs.Int.{IsInRange, bit_at}
use Rattle.std.proofs.lemmas.Int.{ints}
use Rattle.std.proofs.lemmas.Bool.{and_from, and_parts, cases_Bool, cases_lt}
use Rattle.std.proofs.lemmas.Nat.Bits.{bit_at-zero, bit_at_cat_low, bit_at_cat_high}
use Rattle.std.proofs.lemmas.Bool.Decides.{nat_tests}
use Rattle.jiff_core.specs.Calendar.{days_in_month}
use Rattle.jiff_core.proofs.SignedLemmas.{signed_arith}
use Rattle.croner_base.specs.declared.time.Direction.{Direction}
use Rattle.croner_base.specs.declared.time.civil.CivilDate.{CivilDate}
use Rattle.croner_base.specs.Civil.{HasYmd, day_of_date}
use Rattle.croner_pattern.specs.Meaning.{Meaning}
use Rattle.croner_pattern.specs.Schedule.{is_plain, is_day_matching, is_year_matching, is_date_matching, first_weekday, IsDayMask}
use Rattle.croner_pattern.specs.Directions.{Reaches}
use Rattle.croner_pattern.specs.Private.Cursor.{first_year, last_year, has_room, edge_day, last_day, year_of, month_of, day_of, IsPlainWithin, IsForemost, IsAt, HasDay, HasOpenMonth, IsMonthDays, AreYearKinds, year_kind, IsMatchingDate, IsInYear, IsInMonth, IsInMonths}
use Rattle.croner_pattern.proofs.civil.Ahead.{reaches-same}
use Rattle.croner_pattern.proofs.civil.CivilOrder.{dates, room_before}
use Rattle.croner_pattern.proofs.civil.Foremost.{Leads, Ladder, alike, same_number, single}

-- what a matching date has
pub record MatchParts (m : Meaning) (y : ℤ) (mo d : ℕ) : Type 0 where
  pub year : is_year_matching m y ≡ true
  pub month : is_plain m.months mo ≡ true
  pub day : is_day_matching m (days_in_month y mo) (first_weekday y mo) d ≡ true

pub match_parts : (m : Meaning) (d : CivilDate) → is_date_matching m d ≡ true → MatchParts m d.year d.month d.day
match_parts m d h =
    let one = and_parts _ _ h in
    let two = and_parts _ _ one.1 in
    record { year = one.0; month = two.0; day = two.1 }

pub parts_match : (m : Meaning) (d : CivilDate) → MatchParts m d.year d.month d.day → is_date_matching m d ≡ true
parts_match m d p = and_from _ _ p.year (and_from _ _ p.month p.day)

pub same_match : (m : Meaning) (a b : CivilDate) → HasYmd b.year b.month b.day a → IsMatchingDate m b → IsMatchingDate m a
same_match m a b s h = let e = s.year_is in let f = s.month_is in let g = s.day_is in rw (e, f, g) h

-- ---- the year

-- a year that matches is a plain number
pub record YearParts (m : Meaning) (y : ℤ) : Type 0 where
  pub number : y ≡ pos (unsigned_abs y)
  pub plain : IsPlainWithin m.years first_year last_year (unsigned_abs y)

not_negative : (y : ℤ) → pos first_year ≤ℤ y → y ≡ pos (unsigned_abs y)
not_negative (pos n) h = refl
not_negative (negsuc n) h = absurd (omega (arith, signed_arith))

pub year_parts : (m : Meaning) (y : ℤ) → is_year_matching m y ≡ true → YearParts m y
year_parts m y h =
    let one = and_parts _ _ h in
    let two = and_parts _ _ one.0 in
    let t : int_le (pos first_year) y ≡ true = two.0 in
    let u : int_le y (pos last_year) ≡ true = two.1 in
    let e = not_negative y (omega (arith, signed_arith)) in
    record { number = e; plain = record { low = omega (arith, signed_arith); high = omega (arith, signed_arith); plain = one.1 } }

pub plain_year : (m : Meaning) (v : ℕ) → IsPlainWithin m.years first_year last_year v → is_year_matching m (pos v) ≡ true
plain_year m v p =
    let s : int_le (pos first_year) (pos v) ≡ true = grind (arith, ints, p.low) in
    let t : int_le (pos v) (pos last_year) ≡ true = grind (arith, ints, p.high) in
    rw (s, t) p.plain

-- ---- the days of a month

abbrev bit_of : Bool → ℕ
bit_of b = if b then 1 else 0

is_below : (a b : ℕ) → a < b → nat_lt a b ≡ true
is_below a b h = grind (arith, nat_tests)

-- the bit of a day of a mask
pub mask-day : (m : Meaning) (len first days day : ℕ) → IsDayMask m len first days → HasDay days day → (day ≤ len) × (is_day_matching m len first day ≡ true)
mask-day m len first days day mask h =
    let e : day - 1 + 1 ≡ day = omega (arith, h.low) in
    let both : (nat_lt (day - 1) len && is_day_matching m len first (day - 1 + 1)) ≡ true = bit_is (nat_lt (day - 1) len && is_day_matching m len first (day - 1 + 1)) (sym (mask (day - 1)) ∙ h.bit) in
    let two = and_parts _ _ both in
    let lt : nat_lt (day - 1) len ≡ true = two.0 in
    (grind (arith, nat_tests, h.low), subst (λ n. is_day_matching m len first n ≡ true) e two.1)
  where
    bit_is : (b : Bool) → bit_of b ≡ 1 → b ≡ true
    bit_is true h = refl
    bit_is false h = absurd (omega arith)

pub day-mask : (m : Meaning) (len first days day : ℕ) → IsDayMask m len first days → 1 ≤ day → day ≤ len → is_day_matching m len first day ≡ true → HasDay days day
day-mask m len first days day mask low high h =
    let e : day - 1 + 1 ≡ day = omega arith in
    let lt = is_below (day - 1) len (omega arith) in
    let fits : is_day_matching m len first (day - 1 + 1) ≡ true = subst (λ n. is_day_matching m len first n ≡ true) (sym e) h in
    record { low = low; bit = mask (day - 1) ∙ rw (lt, fits) refl }

-- a word without a bit has no day
pub no_day : (days day : ℕ) → days ≡ 0 → ¬ (HasDay days day)
no_day days day e h = omega (arith, bit_at-zero (day - 1), subst (λ n. bit_at n (day - 1) ≡ 1) e h.bit)

-- each day at the place of its number
pub day_place : (days day : ℕ) → days < 2 ^ 32 → (bit_at (days * 2 ^ 1 % 2 ^ 64) day ≡ 1) ↔ HasDay days day
day_place days day fits =
    let moved : days * 2 ^ 1 % 2 ^ 64 ≡ days * 2 ^ 1 + 0 = omega arith in
    let same = ap (λ n. bit_at n day) moved in
    elim (cases_lt day 1) [
      | inl none ↦ (
        λ b. absurd (omega (arith, b, same, bit_at_cat_low days 1 0 day none, bit_at-zero day)),
        λ h. absurd (omega (arith, h.low)),
      )
      | inr low ↦
          let there = same ∙ bit_at_cat_high days 1 0 day (omega arith) low in
          (λ b. record { low = low; bit = sym there ∙ b }, λ h. there ∙ h.bit)
    ]

-- in a named month the mask is that of the days that match
pub named_days : (m : Meaning) (y : ℤ) (mo days : ℕ) → is_year_matching m y ≡ true → is_plain m.months mo ≡ true → IsDayMask m (days_in_month y mo) (first_weekday y mo) days → IsMonthDays m y mo days
named_days m y mo days year month mask = record {
  within = λ day h. (mask-day m (days_in_month y mo) (first_weekday y mo) days day mask h).0;
  dates = λ d e f. (
    λ is.
        let p : MatchParts m y mo d.day = rw (e, f) at (match_parts m d is) in
        let high : d.day ≤ days_in_month y mo = let real = d.real.1.1 in rw (e, f) at real in
        day-mask m (days_in_month y mo) (first_weekday y mo) days d.day mask d.real.1.0 high p.day,
    λ h.
        let p : MatchParts m y mo d.day = record { year = year; month = month; day = (mask-day m (days_in_month y mo) (first_weekday y mo) days d.day mask h).1 } in
        parts_match m d (rw (e, f) p),
  );
}

-- a date matches where its day is one of these
same_truth : (a b : Bool) → (a ≡ true → b ≡ true) → (b ≡ true → a ≡ true) → a ≡ b
same_truth true b to back = sym (to refl)
same_truth false true to back = back refl
same_truth false false to back = refl

pub day_matches : (m : Meaning) (date : CivilDate) (days : ℕ) (b : Bool) → IsMonthDays m date.year date.month days → (IsTrue b ↔ HasDay days date.day) → b ≡ is_date_matching m date
day_matches m date days b is has =
    let same = is.dates date refl refl in
    same_truth b (is_date_matching m date) (λ t. same.1 (has.0 t)) (λ t. has.1 (same.0 t))

-- ---- the units of a date that matches

module _ (m : Meaning) (dir : Direction) where
  pub years : Ladder day_of_date dir (IsMatchingDate m) year_of (IsPlainWithin m.years first_year last_year)
  years = record {
    number = λ d. unsigned_abs d.year;
    shown = λ d is. let p = year_parts m d.year (match_parts m d is).year in p.number;
    named = λ d is. let p = year_parts m d.year (match_parts m d is).year in p.plain;
    apart = λ a b h k later. (dates dir).by_high a b later;
  }

  pub months : (year : ℤ) → Ladder day_of_date dir (IsInYear m year) month_of (IsPlainWithin m.months 1 12)
  months year = record {
    number = λ d. d.month;
    shown = λ d is. refl;
    named = λ d is. record { low = d.real.0.0; high = d.real.0.1; plain = (match_parts m d is.among).month };
    apart = λ a b h k later. (dates dir).by_middle a b (k.here ∙ sym h.here) later;
  }

  pub days : (year : ℤ) (month mask : ℕ) → IsMonthDays m year month mask → Ladder day_of_date dir (IsInMonth m year (pos month)) day_of (HasDay mask)
  days year month mask is = record {
    number = λ d. d.day;
    shown = λ d h. refl;
    named = λ d h. (is.dates d h.among.here (same_number d.month month h.here)).0 h.among.among;
    apart = λ a b h k later. omega (arith, signed_arith, (dates dir).by_low a b (k.among.here ∙ sym h.among.here) (k.here ∙ sym h.here));
  }

  -- the date of one of the days
  pub date_at : (year : ℤ) (month mask day : ℕ) (d : CivilDate) → IsMonthDays m year month mask → HasDay mask day → HasYmd year month day d → IsForemost day_of_date (IsAt (IsInMonth m year (pos month)) day_of (pos day)) dir d
  date_at year month mask day d is has h =
      single (dates dir) (IsMatchingDate m) year (pos month) (pos day) d
      ((is.dates d h.year_is h.month_is).1 (subst (HasDay mask) (sym h.day_is) has)) h.year_is (ap pos h.month_is) (ap pos h.day_is)

  -- a search that goes through the months from the first on goes through the year
  pub whole_year : (year : ℤ) (from : ℕ) → ((month : ℕ) → IsInRange 1 12 month → Reaches dir (pos from) (pos month)) → Leads day_of_date dir (IsInYear m year) (IsInMonths m dir year (pos from))
  whole_year year from start =
      alike day_of_date dir (IsInYear m year) (IsInMonths m dir year (pos from))
      (λ d h. record { among = h; on = start d.month d.real.0 }) (λ d h. h.among)

-- a date that matches shows that its year has a named month with a day that fits
pub has_month : (m : Meaning) (d : CivilDate) → IsMatchingDate m d → HasOpenMonth m d.year
has_month m d h =
    let p = match_parts m d h in
    record {
      month = d.month;
      low = d.real.0.0;
      high = d.real.0.1;
      named = p.month;
      has_open = record { day = d.day; low = d.real.1.0; high = d.real.1.1; fits = p.day };
    }

-- so the kind of its year is one that is open
pub year_opens : (m : Meaning) (y : ℤ) (kinds : ℕ) (d : CivilDate) → IsInYear m y d → AreYearKinds m kinds → bit_at kinds (year_kind y) ≡ 1
year_opens m y kinds d h are = (are y).1 (subst (HasOpenMonth m) h.here (has_month m d h.among))

-- ---- the last day

pub last_day-room : (dir : Direction) (from : CivilDate) → has_room dir from.year ≡ true → last_day dir from ≡ edge_day dir
last_day-room dir from h = rw h refl

pub last_day-no_room : (dir : Direction) (from : CivilDate) → has_room dir from.year ≡ false → last_day dir from ≡ day_of_date from
last_day-no_room dir from h = rw h refl

-- a search comes to the date where it begins
pub start-within : (dir : Direction) (from : CivilDate) → Reaches dir (day_of_date from) (last_day dir from)
start-within dir from = elim (cases_Bool (has_room dir from.year)) [
  | inl h ↦ rw (last_day-room dir from h) (omega (arith, signed_arith, room_before dir from h))
  | inr h ↦ rw (last_day-no_room dir from h) (reaches-same dir (day_of_date from))
]

-- The rules of jiff give the same again after 400 years, of 146,097 days, which are whole weeks.
use Rattle.std.proofs.Common.{◌≡◌, ℕ, zero, suc, ◌+◌, ◌-◌, ◌%◌, ◌≤◌, ◌<◌, Bool, true, false, cond, ◌&&◌, ◌||◌, if◌then◌else◌, ◌==◌, nat_lt, refl, sym, ap, ◌∙◌, inl, inr, arith, ℤ, pos, neg_ℤ, ◌+ℤ◌, ◌-ℤ◌, ◌*ℤ◌, ◌≤ℤ◌, ◌<ℤ◌, int_le, int_lt, Option, Some, None, option_map, unsigned_abs}
use Rattle.std.proofs.lemmas.Bool.Decides.{leb_tells}
use Rattle.std.proofs.lemmas.Int.{ints}
use Rattle.std.specs.Int.{int_div_euclid}
use Rattle.jiff_core.specs.Calendar.{is_leap_year, days_in_year, days_in_month, days_of_years, days_of_months, day_count, days_from_civil, weekday_number}
use Rattle.jiff_core.specs.Timestamp.{nanos_of_seconds, IsOffsetSeconds}
use Rattle.jiff_core.specs.declared.Offset.{Offset}
use Rattle.jiff_core.proofs.CalendarLemmas.{days_from_civil-day_count, days_in_year_bounds, weekday_number-add, weekday_number_bound}
use Rattle.jiff_core.proofs.MarchLemmas.{leap_day, leap_day-shift, days_in_year-leap_day, days_of_years-suc, days_of_years-march_days}
use Rattle.jiff_core.proofs.SignedLemmas.{signed_arith}
use Rattle.jiff_tz.specs.PosixRule as Posix
use Rattle.jiff_tz.specs.PosixRule.{clamp_to, first_nanosecond, last_nanosecond, sunday_number, last_weekday, nth_weekday, rule_day, rule_nanos, in_window, saturating_add, int_same, utc_window, match_some}
use Rattle.jiff_tz.specs.Year.{years_within, year_of_day, year_of_nanos}
use Rattle.jiff_tz.specs.declared.posix.Day.{Day}
use Rattle.jiff_tz.specs.declared.posix.Day.TheVariants.{JulianOne, JulianZero, WeekdayOfMonth}
use Rattle.jiff_tz.specs.declared.posix.DayTime.{DayTime}
use Rattle.jiff_tz.specs.declared.posix.Dst.{Dst}
use Rattle.jiff_tz.specs.declared.posix.TimeZone.{TimeZone as Rule}
use Rattle.jiff_tz.proofs.YearLemmas.{years_within_is}
use Rattle.croner_base.proofs.calendar.CalendarPeriods.{leap_day_again, leap_by}
use Rattle.croner_base.proofs.tables.TableTests.{lt_false}
use Rattle.croner_base.proofs.zones.ZoneYears.{nonneg_abs}

-- the year so many after -10000
abbrev pub year : ℕ → ℤ
year k = pos k -ℤ pos 10000

-- 400 years in nanoseconds
abbrev pub period : ℤ
period = pos 12_622_780_800_000_000_000

-- ---- days

leap_pos : (k : ℕ) → leap_day (pos (k + 400)) ≡ leap_day (pos k)
leap_pos k = leap_day_again (pos k) (pos (k + 400)) (omega (arith, signed_arith))

leap_again : (k : ℕ) → is_leap_year (year (k + 400)) ≡ is_leap_year (year k)
leap_again k = leap_by (year k) (year (k + 400)) (omega (arith, signed_arith))

years_again : (k : ℕ) → days_of_years (k + 400) ≡ days_of_years k + 146_097
years_again k = omega (arith, days_of_years-march_days k, days_of_years-march_days (k + 400), leap_pos k)

length_again : (k : ℕ) → days_in_year (year (k + 400)) ≡ days_in_year (year k)
length_again k = rw leap_again refl

month_again : (k m : ℕ) → days_in_month (year (k + 400)) m ≡ days_in_month (year k) m
month_again k m = rw leap_again refl

months_again : (k m : ℕ) → days_of_months (year (k + 400)) m ≡ days_of_months (year k) m
unfolding days_of_months
months_again k zero = refl
months_again k (suc m) = omega (arith, months_again k m, month_again k (suc m))

-- the years from -10000 on
years_of : (k : ℕ) → unsigned_abs (year k +ℤ pos 10000) ≡ k
years_of k =
    let e : year k +ℤ pos 10000 ≡ pos k = omega (arith, signed_arith) in
    ap unsigned_abs e

count_again : (k m d : ℕ) → day_count (year (k + 400)) m d ≡ day_count (year k) m d + 146_097
unfolding day_count
count_again k m d =
    let a = years_of k in
    let b = years_of (k + 400) in
    rw (a, b, months_again k (m - 1)) (omega (arith, years_again k))

civil_again : (k m d : ℕ) → days_from_civil (year (k + 400)) m d ≡ days_from_civil (year k) m d +ℤ pos 146_097
civil_again k m d = omega (arith, signed_arith, days_from_civil-day_count (year k) m d, days_from_civil-day_count (year (k + 400)) m d, count_again k m d)

sunday_again : (day : ℤ) → sunday_number (day +ℤ pos 146_097) ≡ sunday_number day
sunday_again day =
    let a : weekday_number (day +ℤ pos 146_097) ≡ weekday_number day = omega (arith, weekday_number-add day (day +ℤ pos 146_097) 146_097 refl, weekday_number_bound day) in
    ap (λ (n : ℕ). (n + 1) % 7) a

-- ---- the days of a rule

last_again : (k month weekday : ℕ) → last_weekday (year (k + 400)) month weekday ≡ last_weekday (year k) month weekday +ℤ pos 146_097
last_again k month weekday =
    let n = days_in_month (year k) month in
    let a = civil_again k month n in
    let s = sunday_again (days_from_civil (year k) month n) in
    rw (month_again k month, a, s) (omega (arith, signed_arith))

nth_again : (k month week weekday : ℕ) → nth_weekday (year (k + 400)) month week weekday ≡ nth_weekday (year k) month week weekday +ℤ pos 146_097
nth_again k month week weekday =
    let a = civil_again k month 1 in
    let s = sunday_again (days_from_civil (year k) month 1) in
    rw (a, s) (omega (arith, signed_arith))

some_if : (b : Bool) (a c : ℤ) → c ≡ a +ℤ pos 146_097 → cond b (Some c) None ≡ option_map (λ (x : ℤ). x +ℤ pos 146_097) (cond b (Some a) None)
some_if true a c e = ap Some e
some_if false a c e = refl

either_if : (b : Bool) (a c x y : ℤ) → a ≡ x +ℤ pos 146_097 → c ≡ y +ℤ pos 146_097 → cond b a c ≡ cond b x y +ℤ pos 146_097
either_if true a c x y e f = e
either_if false a c x y e f = f

rule_day_again : (k : ℕ) (d : Day) → rule_day (year (k + 400)) d ≡ option_map (λ (x : ℤ). x +ℤ pos 146_097) (rule_day (year k) d)
unfolding rule_day
rule_day_again k (JulianOne n) = rw (leap_again k, civil_again k 1 1) (ap Some (omega (arith, signed_arith)))
rule_day_again k (JulianZero n) =
    rw (length_again k) (some_if (nat_lt n (days_in_year (year k))) (days_from_civil (year k) 1 1 +ℤ pos n) (days_from_civil (year (k + 400)) 1 1 +ℤ pos n) (omega (arith, signed_arith, civil_again k 1 1)))
rule_day_again k (WeekdayOfMonth month week weekday) =
    ap Some (either_if (week == 5) (last_weekday (year (k + 400)) month weekday) (nth_weekday (year (k + 400)) month week weekday) (last_weekday (year k) month weekday) (nth_weekday (year k) month week weekday)
    (last_again k month weekday) (nth_again k month week weekday))

-- ---- its moments

lt_again : (a b p : ℤ) → int_lt (a +ℤ p) (b +ℤ p) ≡ int_lt a b
lt_again a b p = grind (arith, ints)

le_again : (a b p : ℤ) → int_le (a +ℤ p) (b +ℤ p) ≡ int_le a b
le_again a b p = grind (arith, ints)

if_again : (b : Bool) (x y p : ℤ) → cond b (x +ℤ p) (y +ℤ p) ≡ cond b x y +ℤ p
if_again true x y p = refl
if_again false x y p = refl

clamp_again : (a b n p : ℤ) → clamp_to (a +ℤ p) (b +ℤ p) (n +ℤ p) ≡ clamp_to a b n +ℤ p
clamp_again a b n p = rw (lt_again n a p, lt_again b n p, if_again (int_lt b n) b n p) (if_again (int_lt n a) a (cond (int_lt b n) b n) p)

first_again : (k : ℕ) → first_nanosecond (year (k + 400)) ≡ first_nanosecond (year k) +ℤ period
first_again k = omega (arith, signed_arith, civil_again k 1 1)

last_nanos_again : (k : ℕ) → last_nanosecond (year (k + 400)) ≡ last_nanosecond (year k) +ℤ period
last_nanos_again k = omega (arith, signed_arith, civil_again k 1 1, length_again k)

-- a rule's moment in a year, from the day that it names there
moment_in : ℤ → ℤ → Option ℤ → ℤ → ℤ
moment_in first last day seconds = match_some day last (λ (d : ℤ). clamp_to first last (d *ℤ pos 86_400_000_000_000 +ℤ nanos_of_seconds seconds))

moment_again : (first last : ℤ) (day : Option ℤ) (seconds : ℤ) → moment_in (first +ℤ period) (last +ℤ period) (option_map (λ (x : ℤ). x +ℤ pos 146_097) day) seconds ≡ moment_in first last day seconds +ℤ period
unfolding moment_in
moment_again first last None seconds = refl
moment_again first last (Some d) seconds =
    let at : (d +ℤ pos 146_097) *ℤ pos 86_400_000_000_000 +ℤ nanos_of_seconds seconds ≡ (d *ℤ pos 86_400_000_000_000 +ℤ nanos_of_seconds seconds) +ℤ period = omega (arith, signed_arith) in
    rw at (clamp_again first last (d *ℤ pos 86_400_000_000_000 +ℤ nanos_of_seconds seconds) period)

rule_is : (y : ℤ) (d : DayTime) (seconds : ℤ) → rule_nanos y d seconds ≡ moment_in (first_nanosecond y) (last_nanosecond y) (rule_day y d.date) (d.time -ℤ seconds)
unfolding rule_nanos moment_in
rule_is y d seconds = refl

rule_nanos_again : (k : ℕ) (d : DayTime) (seconds : ℤ) → rule_nanos (year (k + 400)) d seconds ≡ rule_nanos (year k) d seconds +ℤ period
rule_nanos_again k d seconds =
    rw (rule_is (year (k + 400)) d seconds, rule_is (year k) d seconds, first_again k, last_nanos_again k, rule_day_again k d.date)
    (moment_again (first_nanosecond (year k)) (last_nanosecond (year k)) (rule_day (year k) d.date) (d.time -ℤ seconds))

-- ---- daylight saving time

clamp_bounds : (a b n : ℤ) → a ≤ℤ b → (a ≤ℤ clamp_to a b n) × (clamp_to a b n ≤ℤ b)
clamp_bounds a b n h = (grind (arith, ints), grind (arith, ints))

year_order : (y : ℤ) → first_nanosecond y ≤ℤ last_nanosecond y
year_order y = omega (arith, signed_arith, days_in_year_bounds y)

moment_bounds : (first last : ℤ) (day : Option ℤ) (seconds : ℤ) → first ≤ℤ last → (first ≤ℤ moment_in first last day seconds) × (moment_in first last day seconds ≤ℤ last)
unfolding moment_in
moment_bounds first last None seconds h = (h, omega (arith, signed_arith))
moment_bounds first last (Some d) seconds h = clamp_bounds first last (d *ℤ pos 86_400_000_000_000 +ℤ nanos_of_seconds seconds) h

rule_bounds : (y : ℤ) (d : DayTime) (seconds : ℤ) → (first_nanosecond y ≤ℤ rule_nanos y d seconds) × (rule_nanos y d seconds ≤ℤ last_nanosecond y)
rule_bounds y d seconds = rw (rule_is y d seconds) (moment_bounds (first_nanosecond y) (last_nanosecond y) (rule_day y d.date) (d.time -ℤ seconds) (year_order y))

days_mono : (a b : ℕ) → days_of_years a ≤ days_of_years (b + a)
days_mono a zero = let same : 0 + a ≡ a = omega arith in rw same (omega arith)
days_mono a (suc b) =
    let next : suc b + a ≡ suc (b + a) = omega arith in
    rw next (omega (arith, days_mono a b, days_of_years-suc (b + a)))

days_before : (a b : ℕ) → a ≤ b → days_of_years a ≤ days_of_years b
days_before a b h =
    let is : b - a + a ≡ b = omega arith in
    rw is at (days_mono a (b - a))

second_year : days_of_years 2 ≡ 731
second_year = omega (arith, days_of_years-march_days 2)

last_year : days_of_years 19999 ≡ 7_304_485
last_year = omega (arith, days_of_years-march_days 19999)

first_count : (k : ℕ) → day_count (year k) 1 1 ≡ days_of_years k
unfolding day_count days_of_months
first_count k =
    let a = years_of k in
    rw a (omega arith)

-- the years from -9998 to 9998 are those that an offset does not lead out of
year_bounds : (k : ℕ) → 2 ≤ k → k ≤ 19998 → (neg_ℤ (pos 377_673_580_800_000_000_000) ≤ℤ first_nanosecond (year k)) × (last_nanosecond (year k) <ℤ pos 253_370_764_800_000_000_000)
year_bounds k low high =
    let low_days = days_before 2 k low in
    let high_days = days_before (suc k) 19999 (omega (arith, high)) in
    let step = days_of_years-suc k in
    let length = days_in_year-leap_day (year k) in
    let leap = leap_day-shift (year k) k (omega (arith, signed_arith)) in
    let count = days_from_civil-day_count (year k) 1 1 in
    let first = first_count k in
    (omega (arith, signed_arith, low_days, second_year, count, first), omega (arith, signed_arith, high_days, last_year, step, length, leap, count, first))

within_civil : (n o : ℤ) → neg_ℤ (pos 377_673_580_800_000_000_000) ≤ℤ n → n <ℤ pos 253_370_764_800_000_000_000 → IsOffsetSeconds o → saturating_add n (nanos_of_seconds o) ≡ n +ℤ nanos_of_seconds o
within_civil n o low high h =
    let a : int_lt (n +ℤ nanos_of_seconds o) (neg_ℤ (pos 377_705_116_800_000_000_000)) ≡ false = lt_false (n +ℤ nanos_of_seconds o) (neg_ℤ (pos 377_705_116_800_000_000_000)) (omega (arith, signed_arith, low, h)) in
    let b : int_lt (pos 253_402_300_799_999_999_999) (n +ℤ nanos_of_seconds o) ≡ false = lt_false (pos 253_402_300_799_999_999_999) (n +ℤ nanos_of_seconds o) (omega (arith, signed_arith, high, h)) in
    rw (a, b) refl

-- the window of a year, from the moments of its rule and the edges of the year
window_in : ℤ → ℤ → ℤ → ℤ → ℤ → ℤ × ℤ
window_in start end shifted first last =
    if int_same start first && (int_lt shifted first || int_lt last shifted) then (start, last) else (start, end)

moved : ℤ × ℤ → ℤ × ℤ
moved w = (w.0 +ℤ period, w.1 +ℤ period)

pair_if : (b : Bool) (s x y : ℤ) → cond b (s +ℤ period, x +ℤ period) (s +ℤ period, y +ℤ period) ≡ moved (cond b (s, x) (s, y))
unfolding moved
pair_if true s x y = refl
pair_if false s x y = refl

window_in_again : (start end shifted first last : ℤ) → window_in (start +ℤ period) (end +ℤ period) (shifted +ℤ period) (first +ℤ period) (last +ℤ period) ≡ moved (window_in start end shifted first last)
unfolding window_in
window_in_again start end shifted first last =
    rw (le_again start first period, le_again first start period, lt_again shifted first period, lt_again last shifted period)
    (pair_if (int_same start first && (int_lt shifted first || int_lt last shifted)) start last end)

window_is : (d : Dst) (y : ℤ) (std : Offset) → utc_window d y std ≡ window_in (rule_nanos y d.rule.start std.seconds) (rule_nanos y d.rule.end d.offset.seconds) (saturating_add (rule_nanos y d.rule.end d.offset.seconds) (nanos_of_seconds std.seconds)) (first_nanosecond y) (last_nanosecond y)
unfolding utc_window window_in
window_is d y std = refl

-- a moment of a rule, read at standard time
shifted_is : (k : ℕ) (d : DayTime) (seconds o : ℤ) → 2 ≤ k → k ≤ 19998 → IsOffsetSeconds o → saturating_add (rule_nanos (year k) d seconds) (nanos_of_seconds o) ≡ rule_nanos (year k) d seconds +ℤ nanos_of_seconds o
shifted_is k d seconds o low high h =
    let within = year_bounds k low high in
    let at = rule_bounds (year k) d seconds in
    within_civil (rule_nanos (year k) d seconds) o (omega (arith, signed_arith, within, at)) (omega (arith, signed_arith, within, at)) h

window_again : (d : Dst) (k : ℕ) (std : Offset) → 2 ≤ k → k + 400 ≤ 19998 → utc_window d (year (k + 400)) std ≡ moved (utc_window d (year k) std)
window_again d k std low high =
    let start = rule_nanos_again k d.rule.start std.seconds in
    let end = rule_nanos_again k d.rule.end d.offset.seconds in
    let here = shifted_is k d.rule.end d.offset.seconds std.seconds low (omega (arith, high)) std.in_range in
    let there = shifted_is (k + 400) d.rule.end d.offset.seconds std.seconds (omega (arith, low)) high std.in_range in
    let shift : saturating_add (rule_nanos (year (k + 400)) d.rule.end d.offset.seconds) (nanos_of_seconds std.seconds) ≡ saturating_add (rule_nanos (year k) d.rule.end d.offset.seconds) (nanos_of_seconds std.seconds) +ℤ period = omega (arith, signed_arith, here, there, end) in
    let e = rule_nanos (year k) d.rule.end d.offset.seconds in
    window_is d (year (k + 400)) std
    ∙ rw (start, shift, end, first_again k, last_nanos_again k) (window_in_again (rule_nanos (year k) d.rule.start std.seconds) e (saturating_add e (nanos_of_seconds std.seconds)) (first_nanosecond (year k)) (last_nanosecond (year k)))
    ∙ ap moved (sym (window_is d (year k) std))

in_again : (w : ℤ × ℤ) (n : ℤ) → in_window (moved w) (n +ℤ period) ≡ in_window w n
unfolding moved
in_again w n = rw (le_again w.0 w.1 period, le_again w.0 n period, lt_again n w.1 period, le_again w.1 n period, lt_again n w.0 period) refl

-- ---- years

-- the years that fit are the most that do
pub years_fit : (n count : ℕ) → (days_of_years (years_within n count) ≤ count) × (years_within n count ≤ n) × (years_within n count < n → count < days_of_years (suc (years_within n count)))
unfolding years_within
years_fit zero count = (unfold days_of_years in omega arith, omega arith, λ less. absurd (omega (arith, less)))
years_fit (suc n) count =
    elim (leb_tells (days_of_years (suc n)) count) [
      | inl fits ↦ rw fits.0 (fits.1, omega arith, λ less. absurd (omega (arith, less)))
      | inr over ↦
          let h = years_fit n count in
          rw over.0 (
            h.0,
            omega (arith, h.1),
            λ less. elim (leb_tells n (years_within n count)) [
              | inl full ↦
                  let all : years_within n count ≡ n = omega (arith, full.1, h.1) in
                  rw all (omega (arith, over.1))
              | inr less_still ↦ h.2 (omega (arith, less_still.1))
            ],
          )
    ]

-- an instant whose year and the one 400 years later are of these
pub record IsRepeated (n : ℤ) : Type 0 where
  pub low : neg_ℤ (pos 377_673_580_800_000_000_000) ≤ℤ n
  pub high : (n +ℤ period) <ℤ pos 253_370_764_800_000_000_000

-- the year of an instant, and that 400 years later
record YearAgain (n : ℤ) : Type 0 where
  pub k : ℕ
  pub low : 2 ≤ k
  pub high : k + 400 ≤ 19998
  pub here : year_of_nanos n ≡ year k
  pub there : year_of_nanos (n +ℤ period) ≡ year (k + 400)

year_again : (n : ℤ) → IsRepeated n → YearAgain n
year_again n h =
    let day = int_div_euclid n (pos 86_400_000_000_000) in
    let count : ℕ = unsigned_abs (day +ℤ pos 4_371_953) in
    let k : ℕ = years_within 20000 count in
    let days : int_div_euclid (n +ℤ period) (pos 86_400_000_000_000) ≡ day +ℤ pos 146_097 = omega (arith, signed_arith) in
    let size = nonneg_abs (day +ℤ pos 4_371_953) (omega (arith, signed_arith, h.low)) in
    let later : day +ℤ pos 146_097 +ℤ pos 4_371_953 ≡ pos (count + 146_097) = omega (arith, signed_arith, size) in
    let more : unsigned_abs (day +ℤ pos 146_097 +ℤ pos 4_371_953) ≡ count + 146_097 = ap unsigned_abs later in
    let few : 731 ≤ count = omega (arith, signed_arith, h.low, size) in
    let most : count + 146_097 < 7_304_485 = omega (arith, signed_arith, h.high, size) in
    let fit = years_fit 20000 count in
    let low : 2 ≤ k = elim (leb_tells 2 k) [
      | inl reached ↦ reached.1
      | inr missed ↦ absurd (omega (arith, few, fit.2 (omega (arith, missed.1)), days_before (suc k) 2 (omega (arith, missed.1)), second_year))
    ] in
    let high : k + 400 ≤ 19998 = elim (leb_tells (k + 400) 19998) [
      | inl reached ↦ reached.1
      | inr missed ↦ absurd (omega (arith, most, fit.0, years_again k, days_before 19999 (k + 400) (omega (arith, missed.1)), last_year))
    ] in
    let next = fit.2 (omega (arith, high)) in
    let one : suc k + 400 ≡ suc (k + 400) = omega arith in
    let is = years_within_is 20000 (k + 400) (count + 146_097) (omega (arith, high)) (omega (arith, fit.0, years_again k)) (omega (arith, next, years_again (suc k), ap days_of_years one)) in
    record {
      k = k;
      low = low;
      high = high;
      here = refl;
      there = ap year_of_day days ∙ ap (λ (c : ℕ). pos (years_within 20000 c) -ℤ pos 10000) more ∙ ap (λ (j : ℕ). pos j -ℤ pos 10000) is;
    }

-- ---- offsets

rule_again_by : (tz : Rule) (o : Option Dst) (n : ℤ) → IsRepeated n → match_some (Posix.dst_at_by tz.std_offset o (n +ℤ period)) tz.std_offset (λ d. d.offset) ≡ match_some (Posix.dst_at_by tz.std_offset o n) tz.std_offset (λ d. d.offset)
rule_again_by tz None n h = refl
rule_again_by tz (Some d) n h =
    let y = year_again n h in
    let w = utc_window d (year y.k) tz.std_offset in
    let e : in_window (utc_window d (year_of_nanos (n +ℤ period)) tz.std_offset) (n +ℤ period) ≡ in_window (utc_window d (year_of_nanos n) tz.std_offset) n =
    rw (y.there, y.here, window_again d y.k tz.std_offset y.low y.high) (in_again w n) in
    rw e refl

-- a rule gives the same offset 400 years later
pub rule_again : (tz : Rule) (n : ℤ) → IsRepeated n → Posix.offset_at tz (n +ℤ period) ≡ Posix.offset_at tz n
rule_again tz n h = rule_again_by tz tz.dst n h

-- The days that the parts name are those that the two day fields name.
use Rattle.std.proofs.Common.{◌≡◌, ℕ, zero, suc, ◌+◌, ◌<◌, ◌≤◌, Bool, true, false, ◌&&◌, ◌||◌, refl, ap, ◌∙◌, arith, inl, inr}
use Rattle.std.specs.List.{list_any, range_with_len}
use Rattle.std.proofs.lemmas.Bool.{cases_eq}
use Rattle.std.proofs.lemmas.Bool.Decides.{nat_tests}
use Rattle.croner_base.specs.Field.{Field}
use Rattle.croner_pattern.specs.Days.{weekday_of, occurrence, is_nearest, is_last_weekday, is_last_day, is_last_working}
use Rattle.croner_pattern.specs.Schedule.{is_named, is_plain, is_near_target, bit_of_nth, names_last_day, names_last_working_day}
use Rattle.croner_pattern.proofs.days.DayTable.{occurrence_is}
use Rattle.croner_summary.specs.declared.days.MonthDays.{MonthDays}
use Rattle.croner_summary.specs.declared.days.Weekdays.{Weekdays}
use Rattle.croner_summary.specs.declared.phrase.Phrase.{Phrase}
use Rattle.croner_summary.specs.Says.{is_within, names, is_near, is_nth, is_from_end}
use Rattle.croner_summary.specs.Private.Exact.{IsExact}
use Rattle.croner_summary.specs.Private.ExactDays.{IsFromEnd, AreMonthDays, AreWeekdays}

-- within its bounds, an exact phrase names what the field has marked
pub exact_within : (least greatest bit : ℕ) (f : Field) (phrase : Phrase) (value : ℕ) → IsExact least greatest bit f phrase
    → least ≤ value → value ≤ greatest → names least greatest phrase value ≡ is_named bit f value
exact_within least greatest bit f phrase value exact low high =
    let w : is_within least greatest value ≡ true = grind (arith, nat_tests) in
    exact value ∙ ap (λ b. b && is_named bit f value) w

same_tests : (p q : ℕ → Bool) (n a : ℕ) → ((x : ℕ) → a ≤ x → x < a + n → p x ≡ q x) → list_any p (range_with_len a n) ≡ list_any q (range_with_len a n)
same_tests p q zero a same = refl
same_tests p q (suc n) a same =
    ap (λ b. b || list_any p (range_with_len (a + 1) n)) (same a (omega arith) (omega arith))
    ∙ ap (λ b. q a || b) (same_tests p q n (a + 1) (λ x low high. same x (omega arith) (omega arith)))

near_same : (f : Field) (phrase : Phrase) (len first day : ℕ) → IsExact 1 31 128 f phrase → len ≤ 31 → is_near phrase len first day ≡ is_near_target f len first day
near_same f phrase len first day exact long =
    same_tests (λ target. names 1 31 phrase target && is_nearest len first target day) (λ target. is_named 128 f target && is_nearest len first target day) len 1
    (λ target low high. ap (λ b. b && is_nearest len first target day) (exact_within 1 31 128 f phrase target exact low (omega arith)))

or_assoc : (a b c : Bool) → ((a || b) || c) ≡ (a || (b || c))
or_assoc true b c = refl
or_assoc false b c = refl

pub month_days_exact : (f : Field) (d : MonthDays) → IsExact 1 31 1 f d.numbers → IsFromEnd f d.from_end → IsExact 1 31 128 f d.nearest → AreMonthDays f d
month_days_exact f d numbers end nearest len first day long low high =
    ap (λ b. b || (is_from_end d.from_end len first day || is_near d.nearest len first day)) (exact_within 1 31 1 f d.numbers day numbers low high)
    ∙ ap (λ b. is_plain f day || (b || is_near d.nearest len first day)) (end len first day)
    ∙ ap (λ b. is_plain f day || (((names_last_day f && is_last_day len day) || (names_last_working_day f && is_last_working len first day)) || b)) (near_same f d.nearest len first day nearest long)
    ∙ ap (λ b. is_plain f day || b) (or_assoc (names_last_day f && is_last_day len day) (names_last_working_day f && is_last_working len first day) (is_near_target f len first day))

-- the phrases of the weekdays, each exact
pub record EachExact (f : Field) (w : Weekdays) : Type 0 where
  pub each : IsExact 0 6 1 f w.each
  pub first : IsExact 0 6 2 f w.first
  pub second : IsExact 0 6 4 f w.second
  pub third : IsExact 0 6 8 f w.third
  pub fourth : IsExact 0 6 16 f w.fourth
  pub fifth : IsExact 0 6 32 f w.fifth
  pub last : IsExact 0 6 64 f w.last

week_bound : (first day : ℕ) → weekday_of first day ≤ 6
week_bound first day = omega arith

nth_named : (f : Field) (w : Weekdays) (n weekday : ℕ) → EachExact f w → 1 ≤ n → n ≤ 5 → weekday ≤ 6 → is_nth w n weekday ≡ is_named (bit_of_nth n) f weekday
nth_named f w n weekday e low high bound =
    elim (cases_eq n 1) [
      | inl one ↦ rw one (exact_within 0 6 2 f w.first weekday e.first (omega arith) bound)
      | inr a ↦
          elim (cases_eq n 2) [
            | inl two ↦ rw two (exact_within 0 6 4 f w.second weekday e.second (omega arith) bound)
            | inr b ↦
                elim (cases_eq n 3) [
                  | inl three ↦ rw three (exact_within 0 6 8 f w.third weekday e.third (omega arith) bound)
                  | inr c ↦
                      elim (cases_eq n 4) [
                        | inl four ↦ rw four (exact_within 0 6 16 f w.fourth weekday e.fourth (omega arith) bound)
                        | inr d ↦ let five : n ≡ 5 = omega arith in rw five (exact_within 0 6 32 f w.fifth weekday e.fifth (omega arith) bound)
                      ]
                ]
          ]
    ]

pub weekdays_exact : (f : Field) (w : Weekdays) → EachExact f w → AreWeekdays f w
weekdays_exact f w e len first day small low high =
    let bound = week_bound first day in
    let place = occurrence_is first day small low high in
    let nth = nth_named f w (occurrence first day) (weekday_of first day) e (omega (arith, place)) (omega (arith, place)) bound in
    ap (λ b. b || (is_nth w (occurrence first day) (weekday_of first day) || (names 0 6 w.last (weekday_of first day) && is_last_weekday len first day))) (exact_within 0 6 1 f w.each (weekday_of first day) e.each (omega arith) bound)
    ∙ ap (λ b. is_plain f (weekday_of first day) || (b || (names 0 6 w.last (weekday_of first day) && is_last_weekday len first day))) nth
    ∙ ap (λ b. is_plain f (weekday_of first day) || (is_named (bit_of_nth (occurrence first day)) f (weekday_of first day) || (b && is_last_weekday len first day))) (exact_within 0 6 64 f w.last (weekday_of first day) e.last (omega arith) bound)

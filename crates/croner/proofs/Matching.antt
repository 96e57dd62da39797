-- A date and time that a clock shows is scheduled just where the wall second is.
use Rattle.std.proofs.Common.{◌≡◌, ◌↔◌, ℕ, ◌≤◌, Bool, true, false, ◌&&◌, refl, IsTrue, Result, Ok, Err, IfOk, ap, sym, ◌∙◌, subst, ℤ}
use Rattle.jiff_core.specs.Calendar.{days_in_month}
use Rattle.croner_base.specs.declared.errors.CronError.{CronError}
use Rattle.croner_base.specs.declared.time.civil.CivilDate.{CivilDate}
use Rattle.croner_base.specs.declared.time.civil.CivilDateTime.{CivilDateTime}
use Rattle.croner_base.specs.Civil.{wall_second}
use Rattle.croner_base.specs.Calendar.{IsRealDate, day_number, weekday_of_day}
use Rattle.croner_base.proofs.calendar.Chronology.{wall_second-injective}
use Rattle.croner_pattern.specs.Meaning.{Meaning}
use Rattle.croner_pattern.specs.Questions.{first_from}
use Rattle.croner_pattern.specs.Schedule.{is_plain, is_date_matching, is_day_matching, first_weekday, is_scheduled, IsScheduled}
use Rattle.croner_pattern.proofs.days.FirstWeekdays.{first_from-date}

pub same_schedule : (m : Meaning) (c : CivilDateTime) (w : ℤ) → wall_second c ≡ w → IsTrue (is_scheduled m c) ↔ IsScheduled m w
same_schedule m c w e = (
  λ t. record { shown = c; shows = e; matches = t },
  λ h. subst (λ x. is_scheduled m x ≡ true) (wall_second-injective h.shown c (h.shows ∙ sym e)) h.matches,
)

-- the same of what a call answers
pub answers_schedule : (m : Meaning) (c : CivilDateTime) (w : ℤ) (r : Result Bool CronError) → wall_second c ≡ w → r ≡ Ok (is_scheduled m c) → IfOk r (λ held. IsTrue held ↔ IsScheduled m w)
answers_schedule m c w r e f = subst (λ x. IfOk x (λ held. IsTrue held ↔ IsScheduled m w)) (sym f) (same_schedule m c w e)

-- the second, the minute and the hour are named
abbrev pub is_time_named : Meaning → CivilDateTime → Bool
is_time_named m c = is_plain m.seconds c.time.second && (is_plain m.minutes c.time.minute && is_plain m.hours c.time.hour)

time_and_date : (second minute hour date : Bool) → ((second && (minute && hour)) && date) ≡ (second && (minute && (hour && date)))
time_and_date true true hour date = refl
time_and_date true false hour date = refl
time_and_date false minute hour date = refl

both_named : (m : Meaning) (c : CivilDateTime) → (is_time_named m c && is_date_matching m c.date) ≡ is_scheduled m c
both_named m c = time_and_date (is_plain m.seconds c.time.second) (is_plain m.minutes c.time.minute) (is_plain m.hours c.time.hour) (is_date_matching m c.date)

-- where the time is named the date decides, and else it is not scheduled
pub date_decides : (m : Meaning) (c : CivilDateTime) (w : ℤ) (r : Result Bool CronError) → wall_second c ≡ w → is_time_named m c ≡ true → r ≡ Ok (is_date_matching m c.date) → IfOk r (λ held. IsTrue held ↔ IsScheduled m w)
date_decides m c w r e named f = answers_schedule m c w r e (f ∙ ap (λ b. Ok (b && is_date_matching m c.date)) (sym named) ∙ ap Ok (both_named m c))

pub missed_by_time : (m : Meaning) (c : CivilDateTime) (w : ℤ) → wall_second c ≡ w → is_time_named m c ≡ false → IsTrue false ↔ IsScheduled m w
missed_by_time m c w e missed = subst (λ b. IsTrue b ↔ IsScheduled m w) (sym (both_named m c) ∙ ap (λ b. b && is_date_matching m c.date) missed) (same_schedule m c w e)

-- the first of a month has the weekday that is counted back from a date of it
pub day_from_date : (m : Meaning) (y : ℤ) (month day weekday : ℕ) → 1 ≤ day → weekday ≡ weekday_of_day (day_number y month day) → is_day_matching m (days_in_month y month) (first_from weekday day) day ≡ is_day_matching m (days_in_month y month) (first_weekday y month) day
day_from_date m y month day weekday low e =
    ap (λ w. is_day_matching m (days_in_month y month) (first_from w day) day) e ∙ ap (λ f. is_day_matching m (days_in_month y month) f day) (first_from-date y month day low)

-- what the call on a date's parts answers
pub day_answer : (m : Meaning) (d : CivilDate) (y : ℤ) (month day weekday : ℕ) (r : Result Bool CronError) → y ≡ d.year → month ≡ d.month → day ≡ d.day → (IsRealDate y month day → r ≡ Ok (is_day_matching m (days_in_month y month) (first_from weekday day) day)) → weekday ≡ weekday_of_day (day_number d.year d.month d.day) → r ≡ Ok (is_day_matching m (days_in_month d.year d.month) (first_weekday d.year d.month) d.day)
day_answer m d y month day weekday r ey em ed h e =
    let P : ℤ → ℕ → ℕ → Type 0 = λ a b n. IsRealDate a b n → r ≡ Ok (is_day_matching m (days_in_month a b) (first_from weekday n) n) in
    let k : P d.year d.month d.day = subst (λ n. P d.year d.month n) ed (subst (λ b. P d.year b day) em (subst (λ a. P a month day) ey h)) in
    k d.real ∙ ap Ok (day_from_date m d.year d.month d.day weekday d.real.1.0 e)

answer_or : Bool → Result Bool CronError → Bool
answer_or d (Ok b) = b
answer_or d (Err e) = d

-- equal answers have equal values
pub same_ok : (a b : Bool) → ◌≡◌ {A = Result Bool CronError} (Ok a) (Ok b) → a ≡ b
unfolding answer_or
same_ok a b e = ap (answer_or a) e

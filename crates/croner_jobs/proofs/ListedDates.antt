-- Whether a date is on a list, and whether a wall second lies on a date that is kept.
use Rattle.std.proofs.Common.{arith, ◌≡◌, refl, sym, ap, subst, ◌∙◌, ℤ, pos, ◌+ℤ◌, ◌*ℤ◌, int_eq, ◌==◌, ◌&&◌, Bool, IsTrue, ◌↔◌, List, Decides}
use Rattle.std.specs.List.{Contains, IsAnyAnswer}
use Rattle.std.proofs.lemmas.Bool.Decides.{Decides-and, Decides-int_eq, Decides-eqb}
use Rattle.std.proofs.lemmas.List.Elements.{contains_decides, at_read}
use Rattle.croner.specs.Calendar.{day_seconds}
use Rattle.croner.specs.Civil.{wall_second, day_of_date, seconds_of_time}
use Rattle.croner_base.specs.declared.time.civil.CivilDate.{CivilDate}
use Rattle.croner_base.specs.declared.time.civil.CivilDateTime.{CivilDateTime}
use Rattle.croner_base.specs.declared.time.civil.CivilTime.{CivilTime}
use Rattle.croner_base.proofs.calendar.Chronology.{wall_second-injective}
use Rattle.croner_jobs.specs.declared.dates.Dates.{Dates}
use Rattle.croner_jobs.specs.Dates.{Keeps, IsKept}

-- midnight
midnight : CivilTime
midnight = record { hour = 0; minute = 0; second = 0; hour_in = omega arith; minute_in = omega arith; second_in = omega arith }

-- dates with the same parts are the same
same_parts : (a b : CivilDate) → a.year ≡ b.year → a.month ≡ b.month → a.day ≡ b.day → a ≡ b
unfolding wall_second
same_parts a b y m d =
    let at : CivilDate → CivilDateTime = λ x. record { date = x; time = midnight } in
    let day : day_of_date a ≡ day_of_date b = cc in
    let same : wall_second (at a) ≡ wall_second (at b) = ap (λ n. n *ℤ pos day_seconds +ℤ pos (seconds_of_time midnight)) day in
    ap (λ x. x.date) (wall_second-injective (at a) (at b) same)

-- the test of two dates
abbrev pub same_date : CivilDate → CivilDate → Bool
same_date a b = int_eq a.year b.year && (a.month == b.month && a.day == b.day)

decides_date : (a b : CivilDate) → Decides (same_date a b) (a ≡ b)
decides_date a b =
    let parts = Decides-and _ _ (Decides-int_eq a.year b.year) (Decides-and _ _ (Decides-eqb a.month b.month) (Decides-eqb a.day b.day)) in (
      λ yes. let p = parts.0 yes in same_parts a b p.0 p.1.0 p.1.1,
      λ same. parts.1 (ap (λ x. x.year) same, (ap (λ x. x.month) same, ap (λ x. x.day) same)),
    )

pub is_listed : (dates : List CivilDate) (date : CivilDate) (r : Bool) → IsAnyAnswer (λ y b. same_date y date ≡ b) dates r → Decides r (Contains dates date)
is_listed dates date r answer =
    let by_call = contains_decides same_date decides_date dates date r answer in (
      λ yes. let at = by_call.0 yes in (at.0, at.1, at.2 date),
      λ on. by_call.1 (on.0, on.1, at_read dates (λ y. y ≡ date) on.0 date on.1 (sym on.2) refl),
    )

-- the date that a clock shows decides whether its second is kept
pub kept_by_date : (dates : Dates) (c : CivilDateTime) (w : ℤ) → wall_second c ≡ w → (r : Bool) → (IsTrue r ↔ Keeps dates c.date) → IsTrue r ↔ IsKept dates w
kept_by_date dates c w shows r keeps = (
  λ yes. (c, shows, keeps.0 yes),
  λ kept.
      let P : CivilDateTime → Type 0 = λ x. Keeps dates x.date in
      keeps.1 (subst P (wall_second-injective kept.0 c (kept.1 ∙ sym shows)) kept.2),
)

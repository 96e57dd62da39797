-- Where a date begins on a zone's clock.
use Rattle.std.proofs.Common.{◌≡◌, ◌+◌, ◌≤◌, Bool, true, false, ℕ, zero, suc, ℤ, pos, ◌+ℤ◌, ◌-ℤ◌, Option, Some, None, inl, inr, sym, subst, arith}
use Rattle.std.proofs.lemmas.Int.{ints}
use Rattle.std.specs.Prelude.{◌<ℤ◌, ◌≤ℤ◌, MatchOption}
use Rattle.std.specs.Bool.{OnFalse}
use Rattle.jiff_core.specs.Date.{epoch_day}
use Rattle.jiff_core.specs.Time.{time_nanos}
use Rattle.jiff_core.specs.declared.civil.date.Date.{Date}
use Rattle.jiff_core.specs.declared.civil.datetime.DateTime.{DateTime}
use Rattle.jiff_tz.specs.declared.timezone.TimeZone.{TimeZone}
use Rattle.croncheck_runs.specs.Clock.{IsHeldSecond}
use Rattle.croncheck_moments.specs.Moment.{seconds_around, shown_at, midnight_of, IsShownIn, IsAround, GoesOver, IsBegin, IsNoBegin, IsUnheld, IsFirstOf, IsLastBeforeNext, IsLastOf, LiesInDay, ShowsDate}

none_after : (first : ℤ) → (first +ℤ pos 0) ≡ first
none_after first = omega (arith, ints)

one_less : (first : ℤ) (n : ℕ) → ((first +ℤ pos (n + 1)) -ℤ pos 1) ≡ (first +ℤ pos n)
one_less first n = omega (arith, ints)

across : (wall : ℤ) → ((wall -ℤ seconds_around) +ℤ pos 187_200) ≡ (wall +ℤ seconds_around)
across wall = omega (arith, ints)

-- a halving ends with the first second at which the clock shows no earlier one
pub goes_over : (tz : TimeZone) (wall : ℤ) (before gap : ℕ) → 1 ≤ gap → gap ≤ 1
    → shown_at tz ((wall -ℤ seconds_around) +ℤ pos before) <ℤ wall → wall ≤ℤ shown_at tz ((wall -ℤ seconds_around) +ℤ pos (before + gap))
    → GoesOver tz wall ((wall -ℤ seconds_around) +ℤ pos (before + gap))
goes_over tz wall before zero some small earlier later = absurd (omega (arith, some))
goes_over tz wall before (suc zero) some small earlier later = record {
  before = subst (λ (i : ℤ). shown_at tz i <ℤ wall) (sym (one_less (wall -ℤ seconds_around) before)) earlier;
  reached = later;
}
goes_over tz wall before (suc (suc gap)) some small earlier later = absurd (omega (arith, small))

-- what lies around is not so
pub not_held : (tz : TimeZone) (wall : ℤ) → ((IsHeldSecond (wall -ℤ seconds_around) × IsHeldSecond (wall +ℤ seconds_around)) → ⊥) → IsAround tz wall → ⊥
not_held tz wall isnt a = isnt (a.held_before, a.held_after)

pub not_earlier : (tz : TimeZone) (wall : ℤ) → wall ≤ℤ shown_at tz ((wall -ℤ seconds_around) +ℤ pos 0) → IsAround tz wall → ⊥
not_earlier tz wall later a =
    let here = subst (λ (i : ℤ). wall ≤ℤ shown_at tz i) (none_after (wall -ℤ seconds_around)) later in omega (arith, ints, here, a.earlier)

pub not_later : (tz : TimeZone) (wall : ℤ) → shown_at tz ((wall -ℤ seconds_around) +ℤ pos 187_200) <ℤ wall → IsAround tz wall → ⊥
not_later tz wall earlier a =
    let there = subst (λ (i : ℤ). shown_at tz i <ℤ wall) (across wall) earlier in omega (arith, ints, there, a.later)

-- a date begins where its midnight is shown
pub begin_shown : (tz : TimeZone) (date : Date) (civil : DateTime) (found : Option ℤ) (second : ℤ) → civil.date ≡ date → time_nanos civil.time ≡ 0
    → IsShownIn tz civil found → found ≡ Some second → IsBegin tz date second
begin_shown tz date civil found second of_date at_midnight shown is =
    (civil, record { of_date = of_date; at_midnight = at_midnight }, inl (subst (λ (o : Option ℤ). IsShownIn tz civil o) is shown))

-- or where the clock goes over it
pub begin_over : (tz : TimeZone) (date : Date) (civil : DateTime) (found over : Option ℤ) (wall : ℤ) → civil.date ≡ date → time_nanos civil.time ≡ 0
    → IsShownIn tz civil found → found ≡ None → wall ≡ midnight_of date → MatchOption over (IsAround tz wall → ⊥) (GoesOver tz wall)
    → MatchOption over (IsNoBegin tz date) (IsBegin tz date)
begin_over tz date civil found None wall of_date at_midnight shown is wall_is isnt = (
  civil,
  record { of_date = of_date; at_midnight = at_midnight },
  subst (λ (o : Option ℤ). IsShownIn tz civil o) is shown,
  subst (λ (w : ℤ). IsAround tz w → ⊥) wall_is isnt,
)
begin_over tz date civil found (Some second) wall of_date at_midnight shown is wall_is over = (
  civil,
  record { of_date = of_date; at_midnight = at_midnight },
  inr (subst (λ (o : Option ℤ). IsShownIn tz civil o) is shown, subst (λ (w : ℤ). GoesOver tz w second) wall_is over),
)

-- the clock shows no date at a second, where what it shows lies outside of the day
pub hides_where : (tz : TimeZone) (date : Date) (second shown midnight : ℤ) (b : Bool) → shown ≡ shown_at tz second → midnight ≡ midnight_of date
    → OnFalse b (¬ (LiesInDay shown midnight)) → OnFalse b (¬ (ShowsDate tz date second))
hides_where tz date second shown midnight true shown_is midnight_is isnt = tt
hides_where tz date second shown midnight false shown_is midnight_is isnt =
    λ shows. isnt (subst (λ (s : ℤ). LiesInDay s midnight) (sym shown_is) (subst (λ (m : ℤ). LiesInDay (shown_at tz second) m) (sym midnight_is) shows.1))

-- the second before the next date begins
pub next_last : (tz : TimeZone) (date next : Date) (begin result : Option ℤ) → epoch_day next ≡ (epoch_day date +ℤ pos 1)
    → MatchOption begin (IsNoBegin tz next) (IsBegin tz next) → MatchOption result (IsUnheld begin) (λ second. begin ≡ Some (second +ℤ pos 1))
    → IsLastBeforeNext tz date result
next_last tz date next None None follows begins out = inr (next, None, record { follows = follows; begins = begins }, out)
next_last tz date next (Some b) None follows begins out = inr (next, Some b, record { follows = follows; begins = begins }, out)
next_last tz date next begin (Some s) follows begins out =
    (next, record { follows = follows; begins = subst (λ (o : Option ℤ). MatchOption o (IsNoBegin tz next) (IsBegin tz next)) out begins })

-- the same of a date that the clock shows
pub last_shown : (tz : TimeZone) (date : Date) (first : ℤ) (found result : Option ℤ) → found ≡ Some first → IsFirstOf tz date found
    → IsLastBeforeNext tz date result → IsLastOf tz date result
last_shown tz date first found None is first_is last = inr last
last_shown tz date first found (Some second) is first_is last = ((first, subst (λ (o : Option ℤ). IsFirstOf tz date o) is first_is), last)

-- The second from which on a window is calm no more, and why.
use Rattle.std.proofs.Common.{◌≡◌, ◌∙◌, ◌≤◌, ◌+◌, ℕ, zero, suc, ℤ, Bool, true, false, refl, pos, ◌+ℤ◌, ◌-ℤ◌, ◌<ℤ◌, ◌≤ℤ◌, sym, subst, inr, arith}
use Rattle.std.proofs.lemmas.Int.{ints, by_lt_z}
use Rattle.std.proofs.lemmas.Bool.{false≢true}
use Rattle.std.specs.Prelude.{not, Option, Some, None}
use Rattle.jiff_tz.specs.declared.timezone.TimeZone.{TimeZone}
use Rattle.croner_base.specs.Table.{is_offset}
use Rattle.croner_base.specs.Zone.{Zone}
use Rattle.croner_base.specs.ZonedZone.{first_timestamp}
use Rattle.croner_base.specs.ZoneTable.{IsWindow, IsCalmWindow, ahead_at, nearest_in}
use Rattle.croner.specs.laws.Zones.{IsClockOf}
use Rattle.croncheck_runs.specs.declared.clock.NoClock.{NoClock}
use Rattle.croncheck_runs.specs.declared.clock.NoClock.TheVariants as refusals
use Rattle.croncheck_runs.specs.declared.clock.stop.Stop.{Stop}
use Rattle.croncheck_runs.specs.declared.clock.stop.Reason.{Reason}
use Rattle.croncheck_runs.specs.declared.clock.stop.Reason.TheVariants as reasons
use Rattle.croncheck_runs.specs.Clock.{last_second, first_of, two_days_before, skipped_with, IsStop, IsStopOf, IsReasonBy, IsReasonAt, IsReason, IsFollowed, seconds_before, start_after, IsStartFrom, IsStopAfter, IsNextStop, IsNext, IsRefusalBy, IsNoClock}
use Rattle.croncheck_runs.proofs.CalmFronts.{calm_up_to}

none_after : (first : ℤ) → (first +ℤ pos 0) ≡ first
none_after first = omega (arith, ints)

one_less : (first : ℤ) (n : ℕ) → ((first +ℤ pos (n + 1)) -ℤ pos 1) ≡ (first +ℤ pos n)
one_less first n = omega (arith, ints)

-- a window with an earlier last second
shorter : (first : ℤ) (to_last n : ℕ) → IsWindow first (first +ℤ pos to_last) → n ≤ to_last → IsWindow first (first +ℤ pos n)
shorter first to_last n w less = record {
  held_first = w.held_first;
  order = omega (arith, ints);
  held_last = omega (arith, ints, w.held_last, less);
}

-- a halving ends one second after what is calm
pub stop_at : (tz : TimeZone) (first : ℤ) (to_last calm gap : ℕ) → IsWindow first (first +ℤ pos to_last) → calm + gap ≤ to_last → gap ≤ 1
    → IsCalmWindow tz first (first +ℤ pos calm) → ¬ (IsCalmWindow tz first (first +ℤ pos (calm + gap)))
    → IsStop tz first (first +ℤ pos to_last) (first +ℤ pos (calm + 1))
stop_at tz first to_last calm zero w within small is_calm not_calm =
    let same : calm ≡ calm + 0 = omega arith in absurd (not_calm (subst (λ (n : ℕ). IsCalmWindow tz first (first +ℤ pos n)) same is_calm))
stop_at tz first to_last calm (suc zero) w within small is_calm not_calm = record {
  window = shorter first to_last (calm + 1) w within;
  within = omega (arith, ints, within);
  not_calm = not_calm;
  calm_before = λ less. subst (λ (at : ℤ). IsCalmWindow tz first at) (sym (one_less first calm)) is_calm;
}
stop_at tz first to_last calm (suc (suc gap)) w within small is_calm not_calm = absurd (omega (arith, small))

-- a window that isn't calm at its first second
pub stop_here : (tz : TimeZone) (first : ℤ) → IsWindow first last_second → ¬ (IsCalmWindow tz first (first +ℤ pos 0)) → IsStop tz first last_second first
stop_here tz first w not_calm = record {
  window = record { held_first = w.held_first; order = omega (arith, ints); held_last = omega (arith, ints, w.order, w.held_last) };
  within = w.order;
  not_calm = λ is_calm. not_calm (subst (λ (at : ℤ). IsCalmWindow tz first at) (sym (none_after first)) is_calm);
  calm_before = λ less. absurd (omega (arith, ints, less));
}

-- the same by how far the last second lies after
pub stop_whole : (tz : TimeZone) (first : ℤ) (to_last n : ℕ) (at : ℤ) → last_second ≡ (first +ℤ pos to_last) → at ≡ (first +ℤ pos n)
    → IsStop tz first (first +ℤ pos to_last) (first +ℤ pos n) → IsStop tz first last_second at
stop_whole tz first to_last n at last_is at_is stop =
    subst (λ (last : ℤ). IsStop tz first last at) (sym last_is) (subst (λ (second : ℤ). IsStop tz first (first +ℤ pos to_last) second) (sym at_is) stop)

-- ---- why

-- a reason by three offsets, and by what is skipped, is one by those of a zone that are the same
reason_there : (tz : TimeZone) (first at earlier before there : ℤ) (skipped : ℕ) (r : Reason) → there ≡ ahead_at tz at → before ≡ ahead_at tz (at -ℤ pos 1)
    → earlier ≡ ahead_at tz (two_days_before first at) → skipped ≡ skipped_with tz first at → IsReasonBy earlier before there skipped r → IsReasonAt tz first at r
reason_there tz first at earlier before there skipped r there_is before_is earlier_is skipped_is is =
    subst (λ (n : ℕ). IsReasonBy (ahead_at tz (two_days_before first at)) (ahead_at tz (at -ℤ pos 1)) (ahead_at tz at) n r) skipped_is
    (subst (λ (e : ℤ). IsReasonBy e (ahead_at tz (at -ℤ pos 1)) (ahead_at tz at) skipped r) earlier_is
    (subst (λ (b : ℤ). IsReasonBy earlier b (ahead_at tz at) skipped r) before_is
    (subst (λ (t : ℤ). IsReasonBy earlier before t skipped r) there_is is)))

-- the reason of a change of a clock that is no more than a day off UTC
reason_at : (tz : TimeZone) (first at : ℤ) (r : Reason) → is_offset (ahead_at tz at) ≡ true → IsReasonAt tz first at r → IsReason tz first at r
reason_at tz first at (reasons.Far n) near is = absurd is
reason_at tz first at (reasons.Forward n) near is = (near, λ less. is)
reason_at tz first at (reasons.Back n) near is = (near, λ less. is)
reason_at tz first at reasons.Soon near is = (near, λ less. is)
reason_at tz first at reasons.Skipped near is = (near, λ less. is)
reason_at tz first at reasons.Many near is = (near, λ less. is)

-- the same of the offsets and the seconds that were asked for
pub reasons_at : (tz : TimeZone) (first at earlier before there : ℤ) (skipped : ℕ) (r : Reason) → there ≡ ahead_at tz at → before ≡ ahead_at tz (at -ℤ pos 1)
    → earlier ≡ ahead_at tz (two_days_before first at) → skipped ≡ skipped_with tz first at → is_offset there ≡ true → IsReasonBy earlier before there skipped r
    → IsReason tz first at r
reasons_at tz first at earlier before there skipped r there_is before_is earlier_is skipped_is near by =
    reason_at tz first at r (subst (λ (t : ℤ). is_offset t ≡ true) there_is near)
    (reason_there tz first at earlier before there skipped r there_is before_is earlier_is skipped_is by)

-- after its first second a window is calm up to the second before its stop
pub calm_until : (tz : TimeZone) (first at : ℤ) → IsStop tz first last_second at → ¬ (at ≡ first) → IsCalmWindow tz first (at -ℤ pos 1)
calm_until tz first at stop other =
    by_lt_z first at (λ less. stop.calm_before less) (λ ge. absurd (other (omega (arith, ints, ge, stop.window.order))))

-- a test that is false says that what it denies holds
pub not_far : (near far : Bool) → far ≡ not near → far ≡ false → near ≡ true
not_far true far is isnt = refl
not_far false far is isnt = absurd (false≢true (sym isnt ∙ is))

-- ---- the clock up to it

-- the table of a calm window shows what the zone shows there
pub clock_of : (tz : TimeZone) (first last f l : ℤ) (z : Zone) → f ≡ first → l ≡ last → IsCalmWindow tz f l
    → ((i : ℤ) → z.reads i ≡ i +ℤ ahead_at tz (nearest_in f l i)) → IsClockOf tz first last z
clock_of tz first last f l z first_is last_is calm shows =
    subst (λ (a : ℤ). IsClockOf tz a last z) first_is
    (subst (λ (b : ℤ). IsClockOf tz f b z) last_is (record { window = calm.window; shows = shows }))

-- ---- a start that is followed

-- it has no stop up to it
pub followed_on : (tz : TimeZone) (start at : ℤ) → IsFollowed tz start → at ≤ℤ start → ¬ (IsStop tz (first_of start) last_second at)
followed_on tz start at followed le stop = stop.not_calm (calm_up_to tz (first_of start) at start stop.window.order le followed.1)

-- the window of the start three days after a second begins there
begins_there : (first : ℤ) → first_of (start_after first) ≡ first
begins_there first = omega (arith, ints)

-- three days after a second, of a window that is calm
pub followed_there : (tz : TimeZone) (first : ℤ) → first_timestamp ≤ℤ first → first ≤ℤ (last_second -ℤ pos seconds_before) → IsCalmWindow tz first (start_after first)
    → IsFollowed tz (start_after first)
followed_there tz first low high calm =
    let begins = begins_there first in
    ((omega (arith, ints, low, begins), omega (arith, ints, high)), subst (λ (f : ℤ). IsCalmWindow tz f (start_after first)) (sym begins) calm)

-- of one that isn't
pub not_followed_there : (tz : TimeZone) (first : ℤ) → ¬ (IsCalmWindow tz first (start_after first)) → ¬ (IsFollowed tz (start_after first))
not_followed_there tz first not_calm followed = not_calm (subst (λ (f : ℤ). IsCalmWindow tz f (start_after first)) (begins_there first) followed.1)

-- after the last start
pub not_followed_late : (tz : TimeZone) (first : ℤ) → (last_second -ℤ pos seconds_before) <ℤ first → ¬ (IsFollowed tz (start_after first))
not_followed_late tz first late followed =
    let high : start_after first ≤ℤ last_second = followed.0.1 in omega (arith, ints, late, high)

-- a window stops once
one_stop : (tz : TimeZone) (first last a b : ℤ) → IsStop tz first last a → IsStop tz first last b → a ≡ b
one_stop tz first last a b s t =
    by_lt_z a b
    (λ less. absurd (s.not_calm (calm_up_to tz first a (b -ℤ pos 1) s.window.order (omega (arith, ints, less)) (t.calm_before (omega (arith, ints, less, s.window.order))))))
    (λ ge. by_lt_z b a
    (λ less. absurd (t.not_calm (calm_up_to tz first b (a -ℤ pos 1) t.window.order (omega (arith, ints, less)) (s.calm_before (omega (arith, ints, less, t.window.order))))))
    (λ other. omega (arith, ints, ge, other)))

-- after a second that isn't calm by itself there is no stop
pub no_stop_after : (tz : TimeZone) (stop : ℤ) → ¬ (IsCalmWindow tz stop (stop +ℤ pos 0)) → IsNextStop tz stop None
no_stop_after tz stop not_calm again after followed =
    let less : stop <ℤ again = after.0 in
    let same = none_after stop in
    not_calm (subst (λ (at : ℤ). IsCalmWindow tz stop at) (sym same)
    (calm_up_to tz stop stop (again -ℤ pos 1) (omega (arith, ints)) (omega (arith, ints, less)) (after.1.calm_before less)))

-- nor one from which a start is followed, where the second lies after the last start
pub no_stop_late : (tz : TimeZone) (stop : ℤ) → (last_second -ℤ pos seconds_before) <ℤ stop → IsNextStop tz stop None
no_stop_late tz stop late again after = not_followed_late tz again (omega (arith, ints, late, after.0))

-- after a second that is calm by itself the stop lies
pub again_at : (tz : TimeZone) (first : ℤ) (n : ℕ) (at : ℤ) → IsCalmWindow tz first (first +ℤ pos 0) → IsStop tz first (start_after first) (first +ℤ pos n)
    → at ≡ (first +ℤ pos n) → IsStopAfter tz first at
again_at tz first n at calm stop at_is =
    let here : IsStop tz first (start_after first) at = subst (λ (i : ℤ). IsStop tz first (start_after first) i) (sym at_is) stop in
    let less : first <ℤ at =
    by_lt_z first at (λ less. less)
    (λ ge. absurd (here.not_calm (subst (λ (i : ℤ). IsCalmWindow tz first i) (omega (arith, ints, ge, here.window.order)) calm))) in
    (less, here)

-- the start after a stop, from the stop after that
pub next_from : (tz : TimeZone) (stop again : ℤ) (found : Option ℤ) → ¬ (IsFollowed tz (start_after stop)) → IsStopAfter tz stop again → IsStartFrom tz again found
    → IsNext tz stop found
next_from tz stop again None not after none =
    (not, λ other is followed. none (subst (λ (at : ℤ). IsFollowed tz (start_after at)) (one_stop tz stop (start_after stop) other again is.1 after.1) followed))
next_from tz stop again (Some start) not after some = (some.0, inr (not, (again, after, some.1)))

-- what is said of a start at a stop, or after it
pub refused_by : (tz : TimeZone) (start first : ℤ) (stop : Stop) (r : NoClock) → first ≡ first_of start → IsWindow first last_second → IsStopOf tz first stop
    → stop.second ≤ℤ start → IsRefusalBy tz stop r → IsNoClock tz start r × (IsFollowed tz start → r ≡ refusals.OutOfMemory)
refused_by tz start first stop (refusals.Change s next) first_is window is le by =
    let here = subst (λ (f : ℤ). IsStopOf tz f stop) first_is is in (
      (
        subst (λ (x : Stop). IsStopOf tz (first_of start) x) (sym by.0) here,
        subst (λ (x : Stop). x.second ≤ℤ start) (sym by.0) le,
        subst (λ (x : Stop). IsNext tz x.second next) (sym by.0) by.1,
      ),
      λ followed. absurd (followed_on tz start stop.second followed le here.stops),
    )
refused_by tz start first stop refusals.Outside first_is window is le by = absurd by
refused_by tz start first stop refusals.OutOfMemory first_is window is le by = (subst (λ (f : ℤ). IsWindow f last_second) first_is window, λ followed. refl)

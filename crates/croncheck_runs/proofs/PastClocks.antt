-- How far a zone's clock is followed back.
use Rattle.std.proofs.Common.{◌≡◌, ◌≤◌, ◌+◌, ◌-◌, ℕ, zero, suc, ℤ, pos, ◌+ℤ◌, ◌-ℤ◌, Bool, refl, sym, subst, inl, inr, arith}
use Rattle.std.proofs.lemmas.Int.{ints}
use Rattle.std.specs.Prelude.{int_le}
use Rattle.jiff_tz.specs.declared.timezone.TimeZone.{TimeZone}
use Rattle.croner_base.specs.declared.time.table.ClockTable.{ClockTable}
use Rattle.croner_base.specs.TableZone.{table_zone}
use Rattle.croner_base.specs.ZoneTable.{IsCalmWindow}
use Rattle.croner.specs.laws.Zones.{margin, IsClockOf}
use Rattle.croncheck_runs.specs.Clock.{IsHeldStart}
use Rattle.croncheck_runs.specs.Past.{reach_of, IsFollowedFrom, IsPastClock, IsNoPast}

none_before : (last : ℤ) → (last -ℤ pos 0) ≡ last
none_before last = omega (arith, ints)

one_earlier : (last : ℤ) (n : ℕ) → (last -ℤ pos (n + 1)) ≡ ((last -ℤ pos n) -ℤ pos 1)
one_earlier last n = omega (arith, ints)

-- a window that isn't calm at its lone second
pub no_past : (tz : TimeZone) (last : ℤ) → ¬ (IsCalmWindow tz (last -ℤ pos 0) last) → IsNoPast tz last
no_past tz last not_calm = inr (λ calm. not_calm (subst (λ (first : ℤ). IsCalmWindow tz first last) (sym (none_before last)) calm))

-- a second outside
pub no_past_outside : (tz : TimeZone) (last : ℤ) → ¬ (IsHeldStart last) → IsNoPast tz last
no_past_outside tz last outside = inl outside

-- the whole of what is asked for is calm
pub followed_whole : (tz : TimeZone) (last : ℤ) (n : ℕ) → reach_of last ≡ (last -ℤ pos n) → IsCalmWindow tz (last -ℤ pos n) last
    → IsFollowedFrom tz last (last -ℤ pos n)
followed_whole tz last n reach calm = record { within = omega (arith, ints, reach); calm = calm; farthest = inl (sym reach) }

-- a halving ends where a second more isn't calm
pub followed_back : (tz : TimeZone) (last : ℤ) (most calm gap : ℕ) → reach_of last ≡ (last -ℤ pos most) → calm + gap ≤ most → gap ≤ 1
    → IsCalmWindow tz (last -ℤ pos calm) last → ¬ (IsCalmWindow tz (last -ℤ pos (calm + gap)) last) → IsFollowedFrom tz last (last -ℤ pos calm)
followed_back tz last most calm zero reach within small is_calm not_calm =
    let same : calm ≡ calm + 0 = omega arith in absurd (not_calm (subst (λ (n : ℕ). IsCalmWindow tz (last -ℤ pos n) last) same is_calm))
followed_back tz last most calm (suc zero) reach within small is_calm not_calm = record {
  within = omega (arith, ints, reach, within);
  calm = is_calm;
  farthest = inr (subst (λ (first : ℤ). ¬ (IsCalmWindow tz first last)) (one_earlier last calm) not_calm);
}
followed_back tz last most calm (suc (suc gap)) reach within small is_calm not_calm = absurd (omega (arith, small))

-- a gap that is halved is whole with what lies in front of it
pub halved : (calm gap half : ℕ) → half ≤ gap → (calm + half + (gap - half)) ≡ (calm + gap)
halved calm gap half le = omega (arith, le)

-- the clock of a table that shows what the zone shows, from the second on from which it is followed
pub past_clock : (tz : TimeZone) (first last : ℤ) (table : ClockTable) (whole : Bool) → IsClockOf tz first last (table_zone table)
    → IsFollowedFrom tz last first → whole ≡ int_le first (reach_of last)
    → IsPastClock tz last (record { table = table; first = first; last = last; from = first +ℤ pos margin; is_whole = whole })
past_clock tz first last table whole clock followed whole_is =
    record { clock = clock; followed = followed; last_is = refl; from_is = refl; whole_is = whole_is }

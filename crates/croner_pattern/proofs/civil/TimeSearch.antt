-- The search for the nearest time of day that matches.
use Rattle.std.proofs.Common.{◌≡◌, ℕ, ◌≤◌, true, refl, sym, ap, subst, ◌∙◌, arith, pos}
use Rattle.jiff_core.proofs.SignedLemmas.{signed_arith}
use Rattle.croner_base.specs.declared.time.Direction.{Direction}
use Rattle.croner_base.specs.declared.time.civil.CivilTime.{CivilTime}
use Rattle.croner_base.specs.Civil.{HasHms}
use Rattle.croner_base.specs.Field.{Field}
use Rattle.croner_pattern.specs.Meaning.{Meaning}
use Rattle.croner_pattern.specs.Schedule.{is_plain}
use Rattle.croner_pattern.specs.Directions.{Reaches}
use Rattle.croner_pattern.specs.Private.Cursor.{one_on, place_in_day, hour_of, minute_of, second_of, IsPlainWithin, IsMatchingTime, IsInHour, IsInMinute, IsInHours, IsInMinutes, IsInSeconds, IsAt, IsMove, IsForemost, IsNearest}
use Rattle.croner_pattern.proofs.civil.Ahead.{along-offset, both_ways}
use Rattle.croner_pattern.proofs.civil.Foremost.{Ladder, Order, Start, found, begun, same_number, reach-high, reach-middle, single}

pub times : (dir : Direction) → Order dir place_in_day hour_of minute_of second_of
times dir = record {
  by_high = λ a b h. grind (arith, signed_arith, a.minute_in, b.minute_in, a.second_in, b.second_in);
  by_middle = λ a b e h. grind (arith, signed_arith, a.second_in, b.second_in);
  by_low = λ a b e f. grind (arith, signed_arith);
}

pub time_start : (dir : Direction) (t : CivilTime) {h m s : ℕ} → h ≡ t.hour → m ≡ t.minute → s ≡ t.second → Start (times dir) t (place_in_day t) (pos h) (pos m) (pos s)
time_start dir t e f g = record {
  high_is = ap pos (sym e);
  middle_is = ap pos (sym f);
  low_is = rw g (omega (arith, signed_arith));
  on = omega (arith, signed_arith);
  at_most_one = omega (arith, signed_arith, along-offset dir (place_in_day t) 1);
}

-- ---- the numbers of the units of a time that matches

plain_in : (field : Field) (max v : ℕ) → v ≤ max → is_plain field v ≡ true → IsPlainWithin field 0 max v
plain_in field max v h p = record { low = omega arith; high = h; plain = p }

module _ (m : Meaning) (dir : Direction) where
  pub hours : Ladder place_in_day dir (IsMatchingTime m) hour_of (IsPlainWithin m.hours 0 23)
  hours = record {
    number = λ t. t.hour;
    shown = λ t is. refl;
    named = λ t is. plain_in m.hours 23 t.hour (omega (arith, t.hour_in)) is.hour;
    apart = λ a b h k later. (times dir).by_high a b later;
  }

  pub minutes : (hour : ℕ) → Ladder place_in_day dir (IsInHour m (pos hour)) minute_of (IsPlainWithin m.minutes 0 59)
  minutes hour = record {
    number = λ t. t.minute;
    shown = λ t is. refl;
    named = λ t is. plain_in m.minutes 59 t.minute (omega (arith, t.minute_in)) is.among.minute;
    apart = λ a b h k later. (times dir).by_middle a b (k.here ∙ sym h.here) later;
  }

  pub seconds : (hour minute : ℕ) → Ladder place_in_day dir (IsInMinute m (pos hour) (pos minute)) second_of (IsPlainWithin m.seconds 0 59)
  seconds hour minute = record {
    number = λ t. t.second;
    shown = λ t is. refl;
    named = λ t is. plain_in m.seconds 59 t.second (omega (arith, t.second_in)) is.among.among.second;
    apart = λ a b h k later. omega (arith, signed_arith, (times dir).by_low a b (k.among.here ∙ sym h.among.here) (k.here ∙ sym h.here));
  }

  -- the time of a plain hour, minute and second
  pub time_at : (hour minute second : ℕ) (t : CivilTime) → HasHms hour minute second t → is_plain m.hours hour ≡ true → is_plain m.minutes minute ≡ true → is_plain m.seconds second ≡ true → IsForemost place_in_day (IsAt (IsInMinute m (pos hour) (pos minute)) second_of (pos second)) dir t
  time_at hour minute second t h p q r =
      single (times dir) (IsMatchingTime m) (pos hour) (pos minute) (pos second) t
      (record { hour = ap (is_plain m.hours) h.hour_is ∙ p; minute = ap (is_plain m.minutes) h.minute_is ∙ q; second = ap (is_plain m.seconds) h.second_is ∙ r })
      (ap pos h.hour_is) (ap pos h.minute_is) (ap pos h.second_is)

-- ---- the answers of the searches

pub time_in_minute : (m : Meaning) (dir : Direction) (hour minute from second : ℕ) (t : CivilTime) → HasHms hour minute second t → is_plain m.hours hour ≡ true → is_plain m.minutes minute ≡ true → IsNearest pos (IsPlainWithin m.seconds 0 59) dir (pos from) second → IsForemost place_in_day (IsInSeconds m dir (pos hour) (pos minute) (pos from)) dir t
time_in_minute m dir hour minute from second t h p q n =
    found (seconds m dir hour minute) (pos from) second t n (time_at m dir hour minute second t h p q n.is.plain)

pub first_in_minute : (m : Meaning) (dir : Direction) (hour minute second : ℕ) (t : CivilTime) → HasHms hour minute second t → is_plain m.hours hour ≡ true → is_plain m.minutes minute ≡ true → IsForemost pos (IsPlainWithin m.seconds 0 59) dir second → IsForemost place_in_day (IsInMinute m (pos hour) (pos minute)) dir t
first_in_minute m dir hour minute second t h p q f =
    begun (seconds m dir hour minute) second t f (time_at m dir hour minute second t h p q f.is.plain)

pub time_in_hour : (m : Meaning) (dir : Direction) (hour from minute second : ℕ) (t : CivilTime) → HasHms hour minute second t → is_plain m.hours hour ≡ true → IsNearest pos (IsPlainWithin m.minutes 0 59) dir (one_on dir (pos from)) minute → IsForemost pos (IsPlainWithin m.seconds 0 59) dir second → IsForemost place_in_day (IsInMinutes m dir (pos hour) (one_on dir (pos from))) dir t
time_in_hour m dir hour from minute second t h p n f =
    found (minutes m dir hour) (one_on dir (pos from)) minute t n (first_in_minute m dir hour minute second t h p n.is.plain f)

first_in_hour : (m : Meaning) (dir : Direction) (hour minute second : ℕ) (t : CivilTime) → HasHms hour minute second t → is_plain m.hours hour ≡ true → IsForemost pos (IsPlainWithin m.minutes 0 59) dir minute → IsForemost pos (IsPlainWithin m.seconds 0 59) dir second → IsForemost place_in_day (IsInHour m (pos hour)) dir t
first_in_hour m dir hour minute second t h p f g =
    begun (minutes m dir hour) minute t f (first_in_minute m dir hour minute second t h p f.is.plain g)

pub time_in_day : (m : Meaning) (dir : Direction) (from hour minute second : ℕ) (t : CivilTime) → HasHms hour minute second t → IsNearest pos (IsPlainWithin m.hours 0 23) dir (one_on dir (pos from)) hour → IsForemost pos (IsPlainWithin m.minutes 0 59) dir minute → IsForemost pos (IsPlainWithin m.seconds 0 59) dir second → IsForemost place_in_day (IsInHours m dir (one_on dir (pos from))) dir t
time_in_day m dir from hour minute second t h n f g =
    found (hours m dir) (one_on dir (pos from)) hour t n (first_in_hour m dir hour minute second t h n.is.plain f g)

pub first_in_day : (m : Meaning) (dir : Direction) (hour minute second : ℕ) (t : CivilTime) → HasHms hour minute second t → IsForemost pos (IsPlainWithin m.hours 0 23) dir hour → IsForemost pos (IsPlainWithin m.minutes 0 59) dir minute → IsForemost pos (IsPlainWithin m.seconds 0 59) dir second → IsForemost place_in_day (IsMatchingTime m) dir t
first_in_day m dir hour minute second t h e f g =
    begun (hours m dir) hour t e (first_in_hour m dir hour minute second t h e.is.plain f g)

no_way : (dir : Direction) (a b : ℕ) → Reaches dir (pos a) (pos b) → Reaches dir (pos b) (pos a) → b ≡ a
no_way dir a b h k = same_number b a (sym (both_ways dir (pos a) (pos b) h k))

-- on the way of a move, what matches is a move too
pub move-between : (m : Meaning) (dir : Direction) (from y t : CivilTime) → IsMove m from t → IsMatchingTime m y → Reaches dir (place_in_day from) (place_in_day y) → Reaches dir (place_in_day y) (place_in_day t) → IsMove m from y
move-between m dir from y t move is r k =
    let o = times dir in
    record {
      hour = λ p. no_way dir from.hour y.hour (reach-high o from y r) (subst (λ (n : ℕ). Reaches dir (pos y.hour) (pos n)) (move.hour p) (reach-high o y t k));
      minute = λ same p.
          let hours : t.hour ≡ from.hour = move.hour (sym (ap (is_plain m.hours) same) ∙ is.hour) in
          no_way dir from.minute y.minute (reach-middle o from y (ap pos same) r)
          (subst (λ (n : ℕ). Reaches dir (pos y.minute) (pos n)) (move.minute hours p) (reach-middle o y t (ap pos (hours ∙ sym same)) k));
    }

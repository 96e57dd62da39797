-- The search for the nearest scheduled date and time.
use Rattle.std.proofs.Common.{◌≡◌, inl, inr, true, false, sym, ap, subst, ◌∙◌, arith}
use Rattle.jiff_core.proofs.SignedLemmas.{signed_arith}
use Rattle.std.proofs.lemmas.Bool.{and_from, and_parts, false≢true}
use Rattle.croner_base.specs.declared.time.Direction.{Direction}
use Rattle.croner_base.specs.declared.time.civil.CivilTime.{CivilTime}
use Rattle.croner_base.specs.declared.time.civil.CivilDate.{CivilDate}
use Rattle.croner_base.specs.declared.time.civil.CivilDateTime.{CivilDateTime}
use Rattle.croner_base.specs.Civil.{wall_second, day_of_date}
use Rattle.croner_pattern.specs.Meaning.{Meaning}
use Rattle.croner_pattern.specs.Schedule.{is_date_matching, is_scheduled}
use Rattle.croner_pattern.specs.Directions.{along, Reaches}
use Rattle.croner_pattern.specs.Private.Cursor.{has_room, last_day, place_in_day, IsMatchingTime, IsMove, IsOpenTime, IsAfter, IsForemost, IsOpen, IsOnSchedule, IsNearest, NoneOn}
use Rattle.croner_pattern.proofs.civil.Ahead.{reaches-equal, either, same_or_ahead, both_ways}
use Rattle.croner_pattern.proofs.civil.CivilOrder.{same_date, reach-date, reach-time, wall-reach}
use Rattle.croner_pattern.proofs.civil.DateSearch.{same_match, last_day-room, last_day-no_room, start-within}
use Rattle.croner_pattern.proofs.civil.TimeSearch.{move-between}

-- what is scheduled has a matching time on a matching date
pub record ScheduledParts (m : Meaning) (c : CivilDateTime) : Type 0 where
  pub time : IsMatchingTime m c.time
  pub date : is_date_matching m c.date ≡ true

pub scheduled_parts : (m : Meaning) (c : CivilDateTime) → is_scheduled m c ≡ true → ScheduledParts m c
scheduled_parts m c h =
    let one = and_parts _ _ h in
    let two = and_parts _ _ one.1 in
    let three = and_parts _ _ two.1 in
    record { time = record { hour = three.0; minute = two.0; second = one.0 }; date = three.1 }

pub parts_scheduled : (m : Meaning) (c : CivilDateTime) → ScheduledParts m c → is_scheduled m c ≡ true
parts_scheduled m c p =
    and_from _ _ p.time.second (and_from _ _ p.time.minute (and_from _ _ p.time.hour p.date))

module _ (m : Meaning) (dir : Direction) (from : CivilDateTime) where
  -- no field of the time may be empty
  pub no_time : ((t : CivilTime) → IsMatchingTime m t → ⊥) → NoneOn wall_second (IsOpen m dir from) dir (wall_second from)
  no_time none y r is = let p = scheduled_parts m y is.scheduled in none y.time p.time

  -- ---- on the start's own day

  -- a step to the first time that matches is one to each later time
  pub own_none : (t : CivilTime) → IsNearest place_in_day (IsMatchingTime m) dir (place_in_day from.time) t → has_room dir from.date.year ≡ false → (IsMove m from.time t → ⊥) → (y : CivilTime) → ¬ (IsOpenTime m dir from y)
  own_none t n lacks no_move y is =
      no_move (move-between m dir from.time t y (is.move lacks) n.is n.on (n.first y is.on is.matches))

  -- what is open on that day
  open_time : (y : CivilDateTime) → Reaches dir (wall_second from) (wall_second y) → day_of_date y.date ≡ day_of_date from.date → IsOpen m dir from y → IsOpenTime m dir from y.time
  open_time y r today is =
      let p = scheduled_parts m y is.scheduled in
      record {
        date = same_match m from.date y.date (same_date from.date y.date (sym today)) p.date;
        on = reach-time dir from y today r;
        matches = p.time;
        move = is.move;
      }

  pub today-reached : (c : CivilDateTime) → IsForemost place_in_day (IsOpenTime m dir from) dir c.time → c.date ≡ from.date → IsNearest wall_second (IsOpen m dir from) dir (wall_second from) c
  today-reached c n e =
      let same : day_of_date c.date ≡ day_of_date from.date = ap day_of_date e in
      record {
        on = wall-reach dir from c (reaches-equal dir (day_of_date from.date) (day_of_date c.date) (sym same)) (λ _. n.is.on);
        is = record {
          scheduled = parts_scheduled m c (record { time = n.is.matches; date = ap (is_date_matching m) e ∙ n.is.date });
          within = subst (λ z. Reaches dir z (last_day dir from.date)) (sym same) (start-within dir from.date);
          move = n.is.move;
        };
        first = λ y r is.
            wall-reach dir c y (subst (λ z. Reaches dir z (day_of_date y.date)) (sym same) (reach-date dir from y r))
            (λ today. n.first y.time (open_time y r (today ∙ same) is));
      }

  -- from a year without room a search stays on its day
  stays_today : has_room dir from.date.year ≡ false → (y : CivilDateTime) → Reaches dir (wall_second from) (wall_second y) → IsOpen m dir from y → day_of_date y.date ≡ day_of_date from.date
  stays_today lacks y r is =
      both_ways dir (day_of_date y.date) (day_of_date from.date) (subst (Reaches dir (day_of_date y.date)) (last_day-no_room dir from.date lacks) is.within) (reach-date dir from y r)

  -- nothing is left of the day
  abbrev pub NoneToday : Type 0
  NoneToday = (t : CivilTime) → ¬ (IsOpenTime m dir from t)

  pub stays : has_room dir from.date.year ≡ false → NoneToday → NoneOn wall_second (IsOpen m dir from) dir (wall_second from)
  stays lacks t y r is = t y.time (open_time y r (stays_today lacks y r is) is)

  -- ---- after the start's day

  module _ (has : has_room dir from.date.year ≡ true) (t : NoneToday) where
    -- what is open lies on a date after the start's
    later_date : (y : CivilDateTime) → Reaches dir (wall_second from) (wall_second y) → IsOpen m dir from y → IsAfter m dir from.date y.date
    later_date y r is = elim (same_or_ahead dir (day_of_date from.date) (day_of_date y.date) (reach-date dir from y r)) [
      | inl today ↦ absurd (t y.time (open_time y r (sym today) is))
      | inr later ↦
          let p = scheduled_parts m y is.scheduled in
          record { ahead = later; within = subst (Reaches dir (day_of_date y.date)) (last_day-room dir from.date has) is.within; matches = p.date }
    ]

    pub later-none : ((d : CivilDate) → ¬ (IsAfter m dir from.date d)) → NoneOn wall_second (IsOpen m dir from) dir (wall_second from)
    later-none none y r is = none y.date (later_date y r is)

    pub later-reached : (c : CivilDateTime) → IsForemost day_of_date (IsAfter m dir from.date) dir c.date → IsForemost place_in_day (IsMatchingTime m) dir c.time → IsNearest wall_second (IsOpen m dir from) dir (wall_second from) c
    later-reached c n f = record {
      on = wall-reach dir from c (omega (arith, signed_arith, n.is.ahead)) (λ today. absurd (omega (arith, signed_arith, n.is.ahead, ap (along dir) today)));
      is = record {
        scheduled = parts_scheduled m c (record { time = f.is; date = n.is.matches });
        within = subst (Reaches dir (day_of_date c.date)) (sym (last_day-room dir from.date has)) n.is.within;
        move = λ lacks. absurd (false≢true (sym lacks ∙ has));
      };
      first = λ y r is. wall-reach dir c y (n.first y.date (later_date y r is)) (λ _. let p = scheduled_parts m y is.scheduled in f.first y.time p.time);
    }

  -- what is scheduled before the nearest that is open is open, so that is the nearest of all
  pub nearest_of_all : (c : CivilDateTime) → IsNearest wall_second (IsOpen m dir from) dir (wall_second from) c → IsNearest wall_second (IsOnSchedule m) dir (wall_second from) c
  nearest_of_all c n = record {
    on = n.on;
    is = n.is.scheduled;
    first = λ y r is. elim (either dir (wall_second y) (wall_second c)) [
      | inl before ↦ n.first y r (is_open y r (omega (arith, signed_arith)) is)
      | inr on ↦ on
    ];
  }
    where
      is_open : (y : CivilDateTime) → Reaches dir (wall_second from) (wall_second y) → Reaches dir (wall_second y) (wall_second c) → is_scheduled m y ≡ true → IsOpen m dir from y
      is_open y r k is = record {
        scheduled = is;
        within = omega (arith, signed_arith, reach-date dir y c k, n.is.within);
        move = λ lacks.
            let p = scheduled_parts m y is in
            let that_day = stays_today lacks c n.on n.is in
            let today = both_ways dir (day_of_date y.date) (day_of_date from.date) (subst (Reaches dir (day_of_date y.date)) that_day (reach-date dir y c k)) (reach-date dir from y r) in
            move-between m dir from.time y.time c.time (n.is.move lacks) p.time (reach-time dir from y today r) (reach-time dir y c (that_day ∙ sym today) k);
      }

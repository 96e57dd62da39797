use Rattle.std.proofs.Common.{◌≡◌, ◌+◌, Bool, true, false, not, ◌&&◌, ◌||◌, refl, sym, ◌∙◌}
use mathlib.Core.Bool.{beq}
use Rattle.croner_pattern.specs.Schedule.{are_joined, is_day_side, is_weekday_side}
use Rattle.croner_pattern.proofs.days.DayBits.{has-or, has-and}
use Rattle.croner_pattern.proofs.pattern.mask.fitting_days.Goals as goal
use Rattle.croner_pattern.proofs.pattern.mask.fitting_days.Goals.{else-is_day_and_weekday-via-then-is_day_and_weekday+else-not-star_day, else-is_day_and_weekday-via-else-is_day_and_weekday}

same_of : (a b : Bool) → not (beq a b) ≡ false → a ≡ b
same_of true true h = refl
same_of true false h = h
same_of false true h = sym h
same_of false false h = refl

both : (star_day star_weekday and day weekday : Bool) → star_day ≡ star_weekday → and ≡ true → star_day ≡ false → (day && weekday) ≡ are_joined star_day star_weekday and day weekday
both star_day star_weekday and day weekday same a s = rw (sym same, a, s) refl

either : (star_day star_weekday and day weekday : Bool) → star_day ≡ star_weekday → star_day ≡ true → (day || weekday) ≡ are_joined star_day star_weekday and day weekday
either star_day star_weekday and day weekday same s = rw (sym same, s) refl

either_lone : (star_day star_weekday and day weekday : Bool) → star_day ≡ star_weekday → and ≡ false → (day || weekday) ≡ are_joined star_day star_weekday and day weekday
either_lone true star_weekday and day weekday same a = rw (sym same) refl
either_lone false star_weekday and day weekday same a = rw (sym same, a) refl

pub returns-then-not-star_day : goal.returns-then-not-star_day
returns-then-not-star_day g c place low =
    let m = g.P.PatternWords.meaning c.args.pattern.now in
    let days = is_day_side m.days c.args.length c.args.first (place + 1) in
    let weekdays = is_weekday_side m.days_of_week c.args.length c.args.first (place + 1) in
    has-and c.days_named-days.result c.weekdays_named-weekdays.result place
    ∙ (λ i. c.days_named-days.ensures place low i && c.weekdays_named-weekdays.ensures place low i)
    ∙ both _ _ _ days weekdays (same_of _ _ c.if-star_day-star_weekday.false) c.if-is_day_and_weekday.true c.if-not-star_day.true
    ∙ (λ i. are_joined (c.is_star_day-star_day.ensures i) (c.is_star_weekday-star_weekday.ensures i) (c.is_day_and_weekday.ensures i) days weekdays)

pub returns-else-is_day_and_weekday : goal.returns-else-is_day_and_weekday
returns-else-is_day_and_weekday g c place low =
    let m = g.P.PatternWords.meaning c.args.pattern.now in
    let days = is_day_side m.days c.args.length c.args.first (place + 1) in
    let weekdays = is_weekday_side m.days_of_week c.args.length c.args.first (place + 1) in
    let same = same_of _ _ c.if-star_day-star_weekday.false in
    has-or c.days_named-days.result c.weekdays_named-weekdays.result place
    ∙ (λ i. c.days_named-days.ensures place low i || c.weekdays_named-weekdays.ensures place low i)
    ∙ elim c.else-is_day_and_weekday.branch [
      | else-is_day_and_weekday-via-then-is_day_and_weekday+else-not-star_day w ↦ either _ _ c.is_day_and_weekday.result days weekdays same w.if-not-star_day.false
      | else-is_day_and_weekday-via-else-is_day_and_weekday w ↦ either_lone _ _ _ days weekdays same w.if-is_day_and_weekday.false
    ]
    ∙ (λ i. are_joined (c.is_star_day-star_day.ensures i) (c.is_star_weekday-star_weekday.ensures i) (c.is_day_and_weekday.ensures i) days weekdays)

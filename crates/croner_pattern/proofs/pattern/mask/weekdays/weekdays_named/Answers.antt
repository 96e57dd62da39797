use Rattle.std.proofs.Common.{◌≡◌, ◌+◌, ◌<◌, Bool, true, false, ◌&&◌, ◌||◌, bit_and, bit_or, refl, ◌∙◌, arith}
use Rattle.croner_pattern.specs.Days.{weekday_of, occurrence, is_last_weekday}
use Rattle.croner_pattern.specs.Private.DayBits.{has_bit}
use Rattle.croner_pattern.specs.Schedule.{bit_of_nth, is_named, is_plain}
use Rattle.croner_pattern.proofs.days.DayBits.{has-or, has-and}
use Rattle.croner_pattern.proofs.days.DayTable.{last_is}
use Rattle.croner_pattern.proofs.questions.DayAnswers.{nth_of_day}
use Rattle.croner_pattern.proofs.questions.FieldShapes.{field_shapes, asks_weekday, marked_named}
use Rattle.croner_pattern.proofs.pattern.mask.weekdays.weekdays_named.Goals as goal

or_assoc : (a b c : Bool) → ((a || b) || c) ≡ (a || (b || c))
or_assoc true b c = refl
or_assoc false b c = refl

pub returns : goal.returns
returns g c place low =
    let m = g.P.PatternWords.meaning c.args.pattern.now in
    let f = m.days_of_week in
    let len = c.args.length in
    let first = c.args.first in
    let day = place + 1 in
    let w = weekday_of first day in
    let short = c.requires.length.0 in
    let long = c.requires.length.1 in
    let in_month : place < 31 = omega arith in
    let small : w < 7 = omega arith in
    let s = (field_shapes m c.requires.shapes).weekdays in
    let nth = bit_of_nth (occurrence first day) in
    let plain : has_bit c.days_marked-2.result place ≡ is_plain f w =
    c.days_marked-2.ensures place in_month ∙ marked_named 1 f w (asks_weekday f.shape w 1 s refl (omega arith)) in
    let at : has_bit c.nth_named.result place ≡ is_named nth f w =
    c.nth_named.ensures place in_month ∙ marked_named nth f w (asks_weekday f.shape w nth s (nth_of_day first day c.requires.first (omega arith) (omega arith)) (omega arith)) in
    let last : has_bit c.days_marked.result place ≡ is_named 64 f w =
    c.days_marked.ensures place in_month ∙ marked_named 64 f w (asks_weekday f.shape w 64 s refl (omega arith)) in
    let end : has_bit c.last_week.result place ≡ is_last_weekday len first day =
    c.last_week.ensures place low ∙ last_is len first day short long (omega arith) (omega arith) c.requires.first in
    let one = has-or c.days_marked-2.result c.nth_named.result place ∙ (λ i. plain i || at i) in
    let two = has-and c.days_marked.result c.last_week.result place ∙ (λ i. last i && end i) in
    has-or (bit_or c.days_marked-2.result c.nth_named.result) (bit_and c.days_marked.result c.last_week.result) place ∙ (λ i. one i || two i)
    ∙ or_assoc (is_plain f w) (is_named nth f w) (is_named 64 f w && is_last_weekday len first day)

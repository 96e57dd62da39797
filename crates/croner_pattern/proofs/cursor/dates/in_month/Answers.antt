use Rattle.std.proofs.Common.{◌≡◌, pos, sym, ◌∙◌, subst, ◌≤◌, arith, to_z, w32}
use Rattle.jiff_core.specs.Calendar.{days_in_month}
use Rattle.jiff_core.proofs.SignedLemmas.{signed_casts}
use Rattle.croner_base.specs.Civil.{HasYmd}
use Rattle.croner_pattern.specs.Schedule.{first_weekday}
use Rattle.croner_pattern.proofs.civil.DateSearch.{mask-day, named_days, days, date_at}
use Rattle.croner_pattern.proofs.civil.Foremost.{begun, none_named}
use Rattle.croner_pattern.proofs.cursor.dates.in_month.Goals as goal

pub from_parts_unchecked-requires : goal.from_parts_unchecked-requires
from_parts_unchecked-requires g c =
    let m = g.P.PatternWords.meaning c.args.pattern.now in
    let y = c.args.year in
    let mo = c.args.month in
    let same : to_z w32 y ≡ pos y = omega (arith, signed_casts) in
    let high = (mask-day m (days_in_month (pos y) mo) (first_weekday (pos y) mo) c.named_days.result c.in_ok-day.day c.named_days.ensures c.in_ok-day.ensures.is).0 in
    (c.requires.month_in, (c.in_ok-day.ensures.is.low, subst (λ z. c.in_ok-day.day ≤ days_in_month z mo) (sym same) high))

pub returns-in_err-day : goal.returns-in_err-day
returns-in_err-day g c = λ year month.
    let m = g.P.PatternWords.meaning c.args.pattern.now in
    let y = pos c.args.year in
    let is = named_days m y c.args.month c.named_days.result year month c.named_days.ensures in
    rw c.from_residual.ensures (none_named (days m c.args.direction y c.args.month c.named_days.result is) c.in_err-day.ensures)

pub returns : goal.returns
returns g c = λ year month.
    let m = g.P.PatternWords.meaning c.args.pattern.now in
    let dir = c.args.direction in
    let y = pos c.args.year in
    let mo = c.args.month in
    let same : to_z w32 c.args.year ≡ y = omega (arith, signed_casts) in
    let h = c.from_parts_unchecked.ensures in
    let ymd : HasYmd y mo c.in_ok-day.day c.from_parts_unchecked.result = record { year_is = h.year_is ∙ same; month_is = h.month_is; day_is = h.day_is } in
    let is = named_days m y mo c.named_days.result year month c.named_days.ensures in
    begun (days m dir y mo c.named_days.result is) c.in_ok-day.day c.from_parts_unchecked.result c.in_ok-day.ensures
    (date_at m dir y mo c.named_days.result c.in_ok-day.day c.from_parts_unchecked.result is c.in_ok-day.ensures.is ymd)

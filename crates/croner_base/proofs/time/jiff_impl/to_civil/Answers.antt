use Rattle.std.proofs.Common.{arith, ◌∙◌}
use Rattle.std.proofs.lemmas.Int.{ints}
use Rattle.croner_base.proofs.calendar.JiffSeconds.{wall_second-civil_seconds}
use Rattle.croner_base.proofs.time.jiff_impl.to_civil.Goals as goal

pub returns : goal.returns
returns c =
    let d = c.new.ensures.date in
    let t = c.new.ensures.time in
    let p = c.from_parts_unchecked-date.ensures in
    let q = c.from_parts_unchecked-time.ensures in
    wall_second-civil_seconds c.new.result c.args.datetime (record {
      year = rw d (p.year_is ∙ omega (arith, ints));
      month = rw d (p.month_is ∙ omega (arith, ints));
      day = rw d (p.day_is ∙ omega (arith, ints));
      hour = rw t (q.hour_is ∙ omega (arith, ints));
      minute = rw t (q.minute_is ∙ omega (arith, ints));
      second = rw t (q.second_is ∙ omega (arith, ints));
    })

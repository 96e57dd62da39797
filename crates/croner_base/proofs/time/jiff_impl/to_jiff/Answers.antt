use Rattle.std.proofs.Common.{sym, ap, arith}
use Rattle.std.proofs.lemmas.Int.{ints}
use Rattle.jiff_core.specs.declared.civil.datetime.DateTime.{DateTime as Plain}
use Rattle.jiff_core.proofs.SignedLemmas.{signed_casts}
use Rattle.jiff_core.proofs.CalendarLemmas.{days_in_month_bounds}
use Rattle.croner_base.proofs.calendar.JiffSeconds.{wall_second-civil_seconds}
use Rattle.croner_base.proofs.time.jiff_impl.to_jiff.Goals as goal

pub returns-clause-value : goal.returns-clause-value
returns-clause-value c =
    let long = days_in_month_bounds c.args.civil.date.year c.args.civil.date.month in
    let same = c.from_plain.ensures in
    let low = c.if-year-lt-FIRST_JIFF_YEAR.false in
    let high = c.if-year-gt-LAST_JIFF_YEAR.false in
    record {
      second_is = sym (wall_second-civil_seconds c.args.civil _ (record {
        year = rw same (omega (arith, ints, signed_casts, low, high));
        month = rw same (omega (arith, ints));
        day = rw same (omega (arith, ints));
        hour = rw same (omega (arith, ints));
        minute = rw same (omega (arith, ints));
        second = rw same (omega (arith, ints));
      }));
      whole = ap (λ (d : Plain). d.time.subsec_nanosecond) same;
    }

use Rattle.std.proofs.Common.{◌≡◌, pos, arith, to_z, w32}
use Rattle.jiff_core.proofs.SignedLemmas.{signed_casts}
use Rattle.croner_pattern.proofs.cursor.dates.named_days.Goals as goal

pub returns : goal.returns
returns g c =
    let same : to_z w32 c.args.year ≡ pos c.args.year = omega (arith, signed_casts) in
    rw (c.days_in_month.ensures.value, same, c.first_weekday.ensures.value) at c.days_of_month.ensures

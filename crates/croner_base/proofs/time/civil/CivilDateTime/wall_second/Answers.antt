use Rattle.std.proofs.Common.{arith}
use Rattle.std.proofs.lemmas.Int.{ints}
use Rattle.croner_base.proofs.calendar.JiffSeconds.{wall_second-parts}
use Rattle.croner_base.proofs.time.civil.CivilDateTime.wall_second.Goals as goal

pub returns : goal.returns
returns c =
    let t = c.args.self.time in
    omega (arith, ints, c.day_number.ensures, c.seconds_of_day.ensures, t.hour_in, t.minute_in, t.second_in, wall_second-parts c.args.self)

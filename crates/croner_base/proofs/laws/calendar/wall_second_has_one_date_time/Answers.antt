use Rattle.croner_base.proofs.calendar.Chronology.{wall_second-injective}
use Rattle.croner_base.proofs.laws.calendar.wall_second_has_one_date_time.Goals as goal

pub returns : goal.returns
returns c = wall_second-injective c.args.left c.args.right

use Rattle.croner.proofs.zone.WallSeconds.{step_forward, step_backward}
use Rattle.croner.proofs.search.wall.one_second_on.Goals as goal

pub returns-in-Forward : goal.returns-in-Forward
returns-in-Forward c = step_forward c.args.direction c.args.civil c.second_after.result c.in-Forward.is c.second_after.ensures

pub returns-in-Backward : goal.returns-in-Backward
returns-in-Backward c = step_backward c.args.direction c.args.civil c.second_before.result c.in-Backward.is c.second_before.ensures

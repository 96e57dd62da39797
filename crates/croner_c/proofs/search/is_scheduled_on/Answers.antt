use Rattle.std.proofs.Common.{refl, Err}
use Rattle.croner_c.proofs.Times.{no_table}
use Rattle.croner_c.proofs.search.is_scheduled_on.Goals as goal

pub returns-in-Err : goal.returns-in-Err
returns-in-Err c = (Err c.in-Err.reason, no_table c.args.clock.now c.args.second c.in-Err.reason c.in-Err.ensures, refl)

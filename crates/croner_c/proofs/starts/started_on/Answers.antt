use Rattle.std.proofs.Common.{refl, Err}
use Rattle.croner_c.proofs.Times.{no_table}
use Rattle.croner_c.proofs.starts.started_on.Goals as goal

pub returns-in-Err : goal.returns-in-Err
returns-in-Err c = (Err c.in-Err.reason, no_table c.args.clock.now c.args.start c.in-Err.reason c.in-Err.ensures, refl)

use Rattle.croner_base.proofs.tables.TableCalm.{table_holds}
use Rattle.croner_base.proofs.laws.tables.table_time_holds_around.Goals as goal

pub returns : goal.returns
returns c = λ h. table_holds c.args.start.now h.0 h.1

use Rattle.croner_base.proofs.tables.TableChanges.{changes_listed}
use Rattle.croner_base.proofs.laws.tables.clock_changes_where_the_table_does.Goals as goal

pub returns : goal.returns
returns c = λ i. changes_listed c.args.table.now i

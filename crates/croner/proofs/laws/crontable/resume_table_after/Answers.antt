use Rattle.croner.specs.crontable.Tables.{patterns_of}
use Rattle.croner.proofs.crontable.TableItems.{same_table_rest}
use Rattle.croner.proofs.laws.crontable.resume_table_after.Goals as goal

pub returns-clause-same_rest : goal.returns-clause-same_rest
returns-clause-same_rest g c = λ s p q k i. same_table_rest s (patterns_of c.args.table.now) c.args.direction (g.T.CronDateTime.moment c.args.item) p q k i

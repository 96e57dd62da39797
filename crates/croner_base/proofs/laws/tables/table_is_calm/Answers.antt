use Rattle.croner_base.proofs.tables.TableCalm.{clock_calm}
use Rattle.croner_base.proofs.laws.tables.table_is_calm.Goals as goal

pub returns : goal.returns
returns c =
    let t = c.args.table.now in
    clock_calm t.first_offset t.changes.items t.calm

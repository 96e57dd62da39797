use Rattle.croner_backends.proofs.BackendsCalm.{table_calm}
use Rattle.croner_backends.proofs.NarrowCalm.{narrow_holds}
use Rattle.croner_base.specs.TableZone.{table_zone}
use Rattle.croner_backends.proofs.laws.clocks.narrow_time_holds_between.Goals as goal

pub returns : goal.returns
returns c =
    let t = c.args.time.now in
    λ civil. narrow_holds (table_zone t.time.table.now) t.low t.high (table_calm t.time.table.now) civil

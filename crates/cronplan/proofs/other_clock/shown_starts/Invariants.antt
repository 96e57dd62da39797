use Rattle.std.proofs.Common.{◌≡◌, take, map}
use Rattle.croner_base.specs.TableZone.{table_zone}
use Rattle.cronplan.specs.OtherClock.{shown_on}
use Rattle.cronplan.proofs.other_clock.shown_starts.Given as goal

abbrev pub invariant-loop-start : goal.invariant-loop-start
invariant-loop-start l = record {
  of_them : l.shown.items ≡ map (shown_on (table_zone l.fn.table)) (take l.start-index l.fn.starts);
}

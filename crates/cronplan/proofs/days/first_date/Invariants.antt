use Rattle.std.proofs.Common.{◌≡◌, take}
use Rattle.croner_base.specs.TableZone.{table_zone}
use Rattle.cronplan.specs.Days.{first_date}
use Rattle.cronplan.specs.Private.CountedPlan.{IsDateNumber}
use Rattle.cronplan.proofs.days.first_date.Given as goal

abbrev pub invariant-loop-start : goal.invariant-loop-start
invariant-loop-start l = record {
  date : l.first ≡ first_date (table_zone l.fn.table) l.fn.span (take l.start-index l.fn.starts);
  bound : IsDateNumber l.first;
}

use Rattle.std.proofs.Common.{◌≡◌, take}
use Rattle.croner_base.specs.TableZone.{table_zone}
use Rattle.cronplan.specs.Days.{shown_hours}
use Rattle.cronplan.proofs.days.shown_hours.Given as goal

abbrev pub invariant-loop-change : goal.invariant-loop-change
invariant-loop-change l = l.shown ≡ shown_hours (table_zone l.fn.table) l.fn.span (take l.change-index l.fn.changes)

use Rattle.std.proofs.Common.{take}
use Rattle.croner_base.specs.TableZone.{table_zone}
use Rattle.cronplan_page.specs.Timed.{AreTimedChanges}
use Rattle.cronplan_page.proofs.timed.timed_changes.Given as goal

abbrev pub invariant-loop-change : goal.invariant-loop-change
invariant-loop-change l = AreTimedChanges (table_zone l.table) (take l.change-index l.changes) l.timed.items

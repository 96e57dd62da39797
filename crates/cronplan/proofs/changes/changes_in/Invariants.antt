use Rattle.std.proofs.Common.{◌≡◌, take}
use Rattle.croner_base.specs.TableZone.{table_zone}
use Rattle.cronplan.specs.Changes.{changes_in}
use Rattle.cronplan.proofs.changes.changes_in.Given as goal

abbrev pub invariant-loop-change : goal.invariant-loop-change
invariant-loop-change l = l.changes.items ≡ changes_in (table_zone l.fn.table) l.fn.span (take l.change-index l.fn.table.changes.items)

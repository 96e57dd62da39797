use Rattle.std.proofs.Common.{◌≡◌, take}
use Rattle.std.specs.Prelude.{map}
use Rattle.croner_base.specs.TableZone.{table_zone}
use Rattle.cronplan_jobs.specs.Private.Placed.{placed}
use Rattle.cronplan_jobs.proofs.listing.placed_starts.Given as goal

abbrev pub invariant-loop-start : goal.invariant-loop-start
invariant-loop-start l = l.placed_ones.items ≡ map (placed (table_zone l.fn.time.table.now) l.place) (take l.start-index l.fn.starts)

use Rattle.std.proofs.Common.{◌≡◌}
use Rattle.std.specs.Prelude.{vec_len}
use Rattle.std.specs.BinaryHeap.{heap_items}
use Rattle.croner.specs.crontable.Tables.{patterns_of}
use Rattle.croner.specs.Private.crontable.Kept.{AreKept, WaitedBefore}
use Rattle.croner.proofs.crontable.kept.Kept.ask_all.Given as goal

abbrev pub invariant-asked : goal.invariant-asked
invariant-asked g l = record {
  kept : AreKept g.T.CronDateTime.moment (patterns_of l.table) l.direction l.inclusive (g.T.CronDateTime.moment l.position) (heap_items l.self.dues) l.self.waiting.items l.self.is_limited;
  held : l.self.found ≡ l.initial.self.found;
  begun : l.self.is_begun ≡ l.initial.self.is_begun;
  waited : WaitedBefore l.initial.self.waiting.items l.self.waiting.items;
}

abbrev pub decreases-asked : goal.decreases-asked
decreases-asked g l = vec_len l.self.waiting

use Rattle.std.proofs.Common.{◌≡◌, ◌+◌, ◌≤◌}
use Rattle.std.specs.Prelude.{vec_len, vec_capacity}
use Rattle.std.specs.BinaryHeap.{heap_items, heap_len}
use Rattle.croner.specs.crontable.Tables.{patterns_of}
use Rattle.croner.proofs.crontable.TakenRuns.{Taken}
use Rattle.croner.proofs.crontable.asked.take_nearest.Given as goal

abbrev pub invariant-tied : goal.invariant-tied
invariant-tied g l = record {
  taken : Taken g.T.CronDateTime.moment (patterns_of l.table) l.fn.direction l.inclusive (g.T.CronDateTime.moment l.position) l.run (heap_items l.kept.dues) l.kept.waiting.items l.kept.is_limited;
  room : vec_len l.kept.waiting + heap_len l.kept.dues ≤ vec_capacity l.kept.waiting;
  same : l.kept.found ≡ l.initial.kept.found;
  begun : l.kept.is_begun ≡ l.initial.kept.is_begun;
}

abbrev pub decreases-tied : goal.decreases-tied
decreases-tied g l = heap_len l.kept.dues

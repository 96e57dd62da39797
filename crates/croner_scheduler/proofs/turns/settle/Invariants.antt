use Rattle.std.proofs.Common.{◌≡◌, ◌≤◌}
use Rattle.std.specs.BinaryHeap.{heap_items, heap_len, heap_capacity, IsHeap}
use Rattle.croner_scheduler.specs.Ids.{job_of}
use Rattle.croner_scheduler.specs.Private.Turns.{heap_cmp, AreListed}
use Rattle.croner_scheduler.proofs.turns.settle.Given as goal

abbrev pub invariant-loop-turn : goal.invariant-loop-turn
invariant-loop-turn g l =
    IsHeap heap_cmp (heap_items l.turns) × AreListed (job_of l.fn.jobs) (heap_items l.turns) × (heap_capacity l.turns ≡ heap_capacity l.fn.turns)
    × (heap_len l.turns ≤ heap_len l.fn.turns)

abbrev pub decreases-loop-turn : goal.decreases-loop-turn
decreases-loop-turn g l = heap_len l.turns

use Rattle.std.proofs.Common.{length, ◌+◌, ◌≤◌}
use Rattle.std.specs.BinaryHeap.{heap_items, heap_len, heap_capacity, IsHeap}
use Rattle.croner_scheduler.specs.Ids.{job_of}
use Rattle.croner_scheduler.specs.Private.Turns.{heap_cmp}
use Rattle.croner_scheduler.proofs.TurnHeap.{AreListedUpTo}
use Rattle.croner_scheduler.proofs.turns.put_anew.Given as goal

abbrev pub invariant-loop-id : goal.invariant-loop-id
invariant-loop-id g l =
    IsHeap heap_cmp (heap_items l.turns) × AreListedUpTo (job_of l.fn.jobs) l.left (heap_items l.turns) × (heap_len l.turns + length l.left ≤ heap_capacity l.turns)
    × (heap_len l.turns + length l.left ≤ length l.fn.jobs.entries) × (heap_capacity l.fn.turns ≤ heap_capacity l.turns)

abbrev pub decreases-loop-id : goal.decreases-loop-id
decreases-loop-id g l = length l.left

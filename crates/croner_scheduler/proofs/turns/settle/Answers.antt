use Rattle.std.proofs.Common.{◌≡◌, sym, ◌∙◌, false}
use Rattle.std.specs.BinaryHeap.{heap_items, heap_len}
use Rattle.croner_scheduler.proofs.Rooms.{len_left}
use Rattle.croner_scheduler.proofs.TurnHeap.{still_heap, still_listed}
use Rattle.croner_scheduler.specs.Ids.{job_of}
use Rattle.croner_scheduler.specs.Private.Steps.{is_awaited_at}
use Rattle.croner_scheduler.proofs.turns.settle.Goals as goal

pub loop-turn-preserved : goal.loop-turn-preserved
loop-turn-preserved g c =
    let turn = c.in-Some.turn in
    let turns = c.loop-turn.turns in
    let left = c.pop.new.self in
    let stale : is_awaited_at turn.second (job_of c.args.jobs.now turn.id) ≡ false = sym c.is_awaiting.ensures ∙ c.if-is_awaiting.false in (
      still_heap (heap_items turns) (heap_items left) (heap_len turns) (heap_len left) c.pop.result c.pop.ensures.heap_order c.pop.ensures.unchanged c.loop-turn.invariant.0,
      still_listed (job_of c.args.jobs.now) (heap_items turns) (heap_items left) turn c.in-Some.ensures.top stale (heap_len turns) (heap_len left)
          c.pop.result c.pop.ensures.top c.pop.ensures.permutation c.pop.ensures.unchanged c.loop-turn.invariant.1,
      c.pop.ensures.capacity ∙ c.loop-turn.invariant.2,
      len_left _ _ (heap_len turns) (heap_len left) c.pop.result c.pop.ensures.len c.pop.ensures.unchanged c.loop-turn.invariant.3,
    )

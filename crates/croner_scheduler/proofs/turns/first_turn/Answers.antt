use Rattle.std.proofs.Common.{arith}
use Rattle.std.specs.BinaryHeap.{heap_items}
use Rattle.croner_scheduler.proofs.TurnOrder.{is_top, is_first, none_of}
use Rattle.croner_scheduler.proofs.turns.first_turn.Goals as goal

pub returns-in-Some-clause-top : goal.returns-in-Some-clause-top
returns-in-Some-clause-top c =
    is_top (heap_items c.args.turns.now) c.in-Some.turn.now c.in-Some.ensures.item.3.0 c.in-Some.ensures.lookup
    c.turn_at.result c.turn_at.ensures.second c.turn_at.ensures.id

pub returns-in-Some-clause-first : goal.returns-in-Some-clause-first
returns-in-Some-clause-first c =
    is_first (heap_items c.args.turns.now) c.in-Some.turn.now c.in-Some.ensures.item.3.0 c.in-Some.ensures.lookup
    c.turn_at.result c.turn_at.ensures.second c.turn_at.ensures.id (c.in-Some.ensures.greatest c.requires)

pub returns-in-None-clause-top : goal.returns-in-None-clause-top
returns-in-None-clause-top c = (none_of (heap_items c.args.turns.now) (omega (arith, c.in-None.ensures.item.3))).0

pub returns-in-None-clause-first : goal.returns-in-None-clause-first
returns-in-None-clause-first c = (none_of (heap_items c.args.turns.now) (omega (arith, c.in-None.ensures.item.3))).1

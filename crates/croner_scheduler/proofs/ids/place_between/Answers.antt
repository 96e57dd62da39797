use Rattle.std.proofs.Common.{arith}
use Rattle.croner_scheduler.proofs.FollowingIds.{found_at, none_below, none_above}
use Rattle.croner_scheduler.proofs.ids.place_between.Goals as goal
use Rattle.croner_scheduler.proofs.ids.place_between.Goals.{else-first-id-via-then-first-id+else-id-next, else-first-id-via-else-first-id}

pub returns-then-id-next-clause-found : goal.returns-then-id-next-clause-found
returns-then-id-next-clause-found c = found_at c.args.first c.args.next c.args.id (omega (arith, c.if-first-id.true)) (omega (arith, c.if-id-next.true))

pub returns-else-first-id-clause-none : goal.returns-else-first-id-clause-none
returns-else-first-id-clause-none c = elim c.else-first-id.branch [
  | else-first-id-via-then-first-id+else-id-next w ↦ none_above c.args.first c.args.next c.args.id c.requires (omega (arith, w.if-id-next.false))
  | else-first-id-via-else-first-id w ↦ none_below c.args.first c.args.next c.args.id (omega (arith, w.if-first-id.false))
]

use Rattle.std.proofs.Common.{rules, ◌≡◌, arith, ◌-◌, max}
use Rattle.croner_scheduler.proofs.FollowingIds.{found_at, none_between, none_left}
use Rattle.croner_scheduler.proofs.ids.first_following.Goals as goal

pub returns-then-lowest-next-clause-there : goal.returns-then-lowest-next-clause-there
returns-then-lowest-next-clause-there c =
    let lowest = c.max-lowest.result in
    let is : lowest ≡ max c.args.id c.args.first = search rules in
    let at = found_at c.args.first c.args.next lowest (omega (arith, is)) (omega (arith, c.if-lowest-next.true)) in
    (lowest - c.args.first, at.0, at.1)

pub returns-then-lowest-next-clause-between : goal.returns-then-lowest-next-clause-between
returns-then-lowest-next-clause-between c =
    let lowest = c.max-lowest.result in
    let is : lowest ≡ max c.args.id c.args.first = search rules in
    none_between c.args.first c.args.next c.args.id lowest c.requires is (omega (arith, c.if-lowest-next.true))

pub returns-else-lowest-next-clause-none : goal.returns-else-lowest-next-clause-none
returns-else-lowest-next-clause-none c =
    let lowest = c.max-lowest.result in
    let is : lowest ≡ max c.args.id c.args.first = search rules in
    none_left c.args.first c.args.next c.args.id lowest c.requires is (omega (arith, c.if-lowest-next.false))

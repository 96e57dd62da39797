use Rattle.croner.proofs.iterator.InOrder.{strictly}
use Rattle.croner.proofs.laws.listing.items_in_order.Goals as goal

pub returns-clause-ordered : goal.returns-clause-ordered
returns-clause-ordered g c p = (c.in_ok-items.ensures.rest p).ordered

pub returns-clause-strict : goal.returns-clause-strict
returns-clause-strict g c p =
    let moment = g.T.CronDateTime.moment in
    let start = c.args.iterator.now in
    strictly moment start.direction (moment start.position).zone c.in_ok-items.items.items c.compare.new.orders.items
    (rw c.as_slice.ensures.value at c.compare.ensures) (c.in_ok-items.ensures.rest p).ordered c.in_ok-items.ensures.whole

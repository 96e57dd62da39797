use Rattle.std.proofs.Common.{◌+◌, List, subst, sym, arith}
use Rattle.std.specs.declared.cmp.Ordering.{Ordering}
use Rattle.croner.proofs.iterator.InOrder.{ComparedBelow, compared_more, compared_all}
use Rattle.croner.proofs.laws.listing.compare.Goals as goal

pub loop-k-preserved : goal.loop-k-preserved
loop-k-preserved g c =
    let moment = g.T.CronDateTime.moment in
    let P : List Ordering → Type 0 = λ orders. ComparedBelow moment c.args.items.now orders (c.loop-k.k + 1) in
    let within = c.loop-k-test.true in
    record {
      below = subst P (sym (c.push_reserved.ensures.items))
          (compared_more moment c.args.items.now c.loop-k.orders.items c.loop-k.k c.index-items-k.result c.index-items-k-in-loop-k.result
          c.cmp_instant.result c.loop-k.invariant.below within c.index-items-k.is c.index-items-k-in-loop-k.is c.cmp_instant.ensures);
      room = omega arith;
    }

pub returns : goal.returns
returns g c =
    compared_all g.T.CronDateTime.moment c.args.items.now c.loop-k.orders.items c.loop-k.k c.loop-k.invariant.below c.loop-k-test.false

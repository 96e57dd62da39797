use Rattle.std.proofs.Common.{◌≤◌, length}
use Rattle.std.specs.Prelude.{vec_capacity}
use Rattle.croner.proofs.iterator.InOrder.{ComparedBelow}
use Rattle.croner.proofs.laws.listing.compare.Given as goal

abbrev pub invariant-loop-k : goal.invariant-loop-k
invariant-loop-k g l = record {
  below : ComparedBelow g.T.CronDateTime.moment l.items l.orders.items l.k;
  room : length l.items ≤ vec_capacity l.orders;
}

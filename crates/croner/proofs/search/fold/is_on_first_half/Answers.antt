use Rattle.croner.proofs.zone.HalfEdges.{test_two, test_one, test_gap}
use Rattle.croner.proofs.search.fold.is_on_first_half.Goals as goal

pub returns-in-Forward-clause-value : goal.returns-in-Forward-clause-value
returns-in-Forward-clause-value g c = λ start.
    let named = rw c.in-Ambiguous.is at c.in_ok-later.ensures in
    let at = g.T.CronDateTime.moment in
    rw c.in-Forward.is (test_two (at c.args.instant.now) (at c.in-Ambiguous.later) c.args.shown _ _ c.requires named.value.3 named.value.1.whole c.precedes-is_earlier.ensures start).0

pub returns-in-Ambiguous-clause-value : goal.returns-in-Ambiguous-clause-value
returns-in-Ambiguous-clause-value g c = λ start.
    let named = rw c.in-Ambiguous.is at c.in_ok-later.ensures in
    let at = g.T.CronDateTime.moment in
    rw c.in-Backward.is (test_two (at c.args.instant.now) (at c.in-Ambiguous.later) c.args.shown _ _ c.requires named.value.3 named.value.1.whole c.precedes-is_earlier.ensures start).1

pub returns-in-Single-clause-value : goal.returns-in-Single-clause-value
returns-in-Single-clause-value g c =
    let named = rw c.in-Single.is at c.in_ok-later.ensures in
    test_one c.args.direction (g.T.CronDateTime.moment c.args.instant.now) c.args.shown _ c.requires named.value.1

pub returns-clause-value : goal.returns-clause-value
returns-clause-value g c =
    let named = rw c.in-Gap.is at c.in_ok-later.ensures in
    test_gap c.args.direction (g.T.CronDateTime.moment c.args.instant.now) c.args.shown c.requires named.value

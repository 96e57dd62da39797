use Rattle.croner_backends.proofs.BackendsCalm.{boxed_starts_calm}
use Rattle.croner_backends.proofs.laws.listings.next_boxed_runs.Goals as goal

pub returns-clause-listing : goal.returns-clause-listing
returns-clause-listing c = c.next_runs.ensures.listing (boxed_starts_calm c.args.iterator.now.position)

pub returns-clause-rest : goal.returns-clause-rest
returns-clause-rest c = c.next_runs.ensures.rest (boxed_starts_calm c.args.iterator.now.position)

pub returns-clause-all : goal.returns-clause-all
returns-clause-all c = c.next_runs.ensures.all (boxed_starts_calm c.args.iterator.now.position)

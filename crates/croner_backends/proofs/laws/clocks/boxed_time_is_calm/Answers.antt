use Rattle.croner_backends.proofs.BackendsCalm.{boxed_starts_calm}
use Rattle.croner_backends.proofs.laws.clocks.boxed_time_is_calm.Goals as goal

pub returns : goal.returns
returns c = boxed_starts_calm c.args.time.now

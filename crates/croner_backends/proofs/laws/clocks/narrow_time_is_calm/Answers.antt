use Rattle.croner_backends.proofs.BackendsCalm.{narrow_starts_calm}
use Rattle.croner_backends.proofs.laws.clocks.narrow_time_is_calm.Goals as goal

pub returns : goal.returns
returns c = narrow_starts_calm c.args.time.now

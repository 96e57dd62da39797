use Rattle.std.proofs.Common.{negsuc}
use Rattle.crontab_runs.proofs.KnownMinutes.{none_beyond_all, past_backward}
use Rattle.crontab_runs.proofs.minutes.NearestMinute.before_any_search.Goals as goal

pub returns-in-Backward-clause-known : goal.returns-in-Backward-clause-known
returns-in-Backward-clause-known c = λ m. none_beyond_all c.args.direction (negsuc 1_999_999_999) m (past_backward c.args.direction c.in-Backward.is)

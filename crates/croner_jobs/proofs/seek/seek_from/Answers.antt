use Rattle.std.proofs.Common.{sym, subst, ◌∙◌}
use Rattle.croner.specs.Recurring.{IsRunRefused}
use Rattle.croner_jobs.proofs.Around.{limit_is}
use Rattle.croner_jobs.proofs.seek.seek_from.Goals as goal

pub returns-then-is_limit-clause-found : goal.returns-then-is_limit-clause-found
returns-then-is_limit-clause-found g c =
    subst (λ e. IsRunRefused g.T.CronDateTime.can_lack_memory c.args.direction (g.J.Recurring.runs c.args.job.now) (g.T.CronDateTime.moment c.args.from.now) e)
    (limit_is c.in-Err.error (sym c.is_limit.ensures ∙ c.if-is_limit.true)) c.in-Err.ensures.refused

pub returns-else-is_limit-clause-refused : goal.returns-else-is_limit-clause-refused
returns-else-is_limit-clause-refused g c = (c.in-Err.ensures.refused, sym c.is_limit.ensures ∙ c.if-is_limit.false)

use Rattle.std.proofs.Common.{subst}
use Rattle.croner.specs.parser.Gives.{Gives}
use Rattle.croner.specs.parser.Grammar.{outcome}
use Rattle.croner.specs.Views.{job_of}
use Rattle.croner.proofs.job.Cron.from_str.Goals as goal

pub returns : goal.returns
returns c =
    subst (λ s. Gives job_of c.parse.result (outcome s c.args.text.now)) c.new.ensures c.parse.ensures

use Rattle.std.proofs.Common.{subst}
use Rattle.croner.specs.Views.{job_of}
use Rattle.croner.specs.parser.Gives.{Gives}
use Rattle.croner.specs.parser.Grammar.{outcome}
use Rattle.croner.specs.parser.Settings.{Settings}
use Rattle.crontab.proofs.parsed.job_of.Goals as goal

pub returns : goal.returns
returns c =
    let P : Settings → Type 0 = λ s. Gives job_of c.parse.result (outcome s c.args.text.now) in subst P c.parser-settings.ensures c.parse.ensures

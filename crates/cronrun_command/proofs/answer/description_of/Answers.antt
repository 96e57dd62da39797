use Rattle.std.proofs.Common.{Result, subst, sym}
use Rattle.std.proofs.lemmas.Result.{MatchResult-weaker}
use Rattle.croner_pattern.specs.Meaning.{Meaning}
use Rattle.croner.specs.parser.Grammar.{outcome, Refusal}
use Rattle.croner.specs.parser.Settings.{default_settings}
use Rattle.croner.specs.Views.{job_of}
use Rattle.cronrun_command.specs.Refused.{IsUnread}
use Rattle.cronrun_command.proofs.Unread.{refused_unread}
use Rattle.cronrun_command.proofs.answer.description_of.Goals as goal

pub returns-in_err-job-clause-err : goal.returns-in_err-job-clause-err
returns-in_err-job-clause-err c =
    refused_unread c.from_residual.result c.in_err-job.field-0.0 (outcome default_settings c.args.pattern.now) c.from_residual.ensures.1
    c.in_err-job.ensures

pub returns-clause-value : goal.returns-clause-value
returns-clause-value c =
    MatchResult-weaker c.describe.result c.describe.ensures (λ text is. (job_of c.in_ok-job.job, c.in_ok-job.ensures, is)) (λ e lacks. tt)

pub returns-clause-err : goal.returns-clause-err
returns-clause-err c =
    MatchResult-weaker c.describe.result c.describe.ensures (λ text is. tt)
    (λ e lacks. let P : Result Meaning Refusal → Type 0 = λ o. IsUnread o e in subst P (sym c.in_ok-job.ensures) lacks)

use Rattle.std.proofs.Common.{subst}
use Rattle.croner.specs.Views.{job_of}
use Rattle.croner_summary.specs.declared.language.SummaryLanguage.{SummaryLanguage}
use Rattle.croner_summary.specs.Texts.{text_of}
use Rattle.croner_words.specs.Writes.{Writes}
use Rattle.croncheck_report.proofs.Descriptions.{summary_told}
use Rattle.croncheck_report.proofs.told.description_of.Goals as goal

pub returns-clause-told : goal.returns-clause-told
returns-clause-told c =
    summary_told c.args.language (job_of c.args.job.now) c.in_ok-summary.summary c.text.result c.in_ok-summary.ensures.ok
    (subst (λ (l : SummaryLanguage). Writes (text_of l c.in_ok-summary.summary) c.text.result) c.summary_language.ensures c.text.ensures)

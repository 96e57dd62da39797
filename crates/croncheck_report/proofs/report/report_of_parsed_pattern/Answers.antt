use Rattle.std.proofs.Common.{Result, refl, sym, subst}
use Rattle.croner_pattern.specs.Meaning.{Meaning}
use Rattle.croner.specs.parser.Grammar.{Refusal}
use Rattle.croncheck_runs.specs.declared.runs.Runner.TheVariants as runners
use Rattle.croncheck_report.specs.Report.{WarnsPattern, MeetsPattern, meaning_read}
use Rattle.croncheck_report.specs.Told.{TellsMeaning}
use Rattle.croncheck_report.proofs.report.report_of_parsed_pattern.Goals as goal

pub returns-clause-report : goal.returns-clause-report
returns-clause-report c = λ blanks read. record {
  schedule_is = c.as_bytes.ensures.value;
  user_is = refl;
  command_is = refl;
  tells_times = subst (λ (r : Result Meaning Refusal). TellsMeaning c.args.settings.now runners.Croner r c.in_ok-times.times) (sym read)
      c.in_ok-times.ensures.told;
  warned = subst (λ (r : Result Meaning Refusal). WarnsPattern c.args.settings.now.preset c.args.is_fed c.args.text.now (meaning_read r) c.in_ok-times.times
      c.in_ok-warnings.warnings.items) (sym read) c.in_ok-warnings.ensures.warnings;
  met = subst (λ (r : Result Meaning Refusal). MeetsPattern c.args.settings.now (meaning_read r) c.in_ok-times.times
      c.meetings_of-meetings.result) (sym read) c.meetings_of-meetings.ensures;
}

use Rattle.std.proofs.Common.{rules, ◌≡◌, ◌+◌, ℕ, List, length, Ok, sym, subst, true}
use Rattle.std.specs.Prelude.{IfOk, min}
use Rattle.croner.specs.parser.Grammar.{outcome}
use Rattle.croner.specs.Views.{job_of}
use Rattle.crontab.specs.Content.{IsOutcomeOfPattern}
use Rattle.croncheck_report.specs.declared.report.Report.{Report}
use Rattle.croncheck_warnings.specs.Presets.{AreReadings}
use Rattle.croncheck_report.specs.Report.{IsReportOfPattern, IsFaultAfter, blanks_of}
use Rattle.croncheck_report.proofs.Outcomes.{fault_of, fault_after}
use Rattle.croncheck_report.proofs.report.report_of_pattern.Goals as goal

pub returns-in-Job-clause-report : goal.returns-in-Job-clause-report
returns-in-Job-clause-report c = λ read.
    let s = c.args.settings.now in
    let blanks = blanks_of c.args.line.now in
    let same : c.in-Ok.text.now ≡ c.args.bytes.now = search rules in
    let Reported : List ℕ → Type 0 = λ text.
    outcome s.parser text ≡ Ok (job_of c.in-Job.job) → IfOk c.report_of_parsed_pattern.result (IsReportOfPattern c.args.is_fed s blanks text) in
    subst Reported same (c.report_of_parsed_pattern.ensures.report blanks) (subst (IsOutcomeOfPattern s.parser c.args.bytes.now) c.in-Job.is read).1

pub returns-in-PatternRefused-clause-report : goal.returns-in-PatternRefused-clause-report
returns-in-PatternRefused-clause-report c = λ read.
    let s = c.args.settings.now in
    let blanks = blanks_of c.args.line.now in
    let fault = c.in-PatternRefused.fault in
    let same : c.in-Ok.text.now ≡ c.args.bytes.now = search rules in
    let is = fault_of s.parser c.args.bytes.now fault (subst (IsOutcomeOfPattern s.parser c.args.bytes.now) c.in-PatternRefused.is read) in
    subst (λ (r : Report). IsReportOfPattern c.args.is_fed s blanks c.args.bytes.now r) (sym c.refused_pattern_report.ensures) (
      is,
      subst (λ (text : List ℕ). IsFaultAfter blanks fault (blanks + min fault.start (length text)) (blanks + min fault.end (length text))) (sym same)
          (fault_after s.parser blanks c.args.bytes.now fault is),
      subst (λ (text : List ℕ). AreReadings s.preset true text c.in_ok-taken-in-PatternRefused.taken.items) same c.in_ok-taken-in-PatternRefused.ensures.ok,
    )

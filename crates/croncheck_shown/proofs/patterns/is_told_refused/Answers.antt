use Rattle.std.proofs.Common.{◌≡◌, ◌∙◌, List, ℕ, true, ap, subst, sym}
use Rattle.crontab.specs.Bytes.{text_after}
use Rattle.crontab.specs.declared.bytes.Kind.TheVariants as kinds
use Rattle.croncheck_output.specs.Output.{written_of}
use Rattle.croncheck_shown.specs.Reported.{EndsWithFound}
use Rattle.croncheck_shown.specs.Patterns.{told_by, pattern_in}
use Rattle.croncheck_report.specs.Report.{IsReportOfPattern, blanks_of}
use Rattle.croncheck_shown.proofs.TypedPatterns.{pattern_told}
use Rattle.croncheck_shown.proofs.patterns.is_told_refused.Goals as goal

pub returns : goal.returns
returns g c = λ before.
    let s = c.args.terms.now.settings.now in
    let is : c.cut.result.1.now ≡ pattern_in c.args.word.now = c.cut.ensures.after ∙ ap (text_after kinds.Blank) c.as_bytes.ensures.value in
    pattern_told s c.args.answer (written_of g.W.Write.contents c.args.output.now) (written_of g.W.Write.contents c.write_apart.new.self) before c.args.word.now
    c.in_ok-report.report c.as_str.result.now c.is_refused.result
    (subst (λ (p : List ℕ). IsReportOfPattern true s (blanks_of p) p c.in_ok-report.report) is c.in_ok-report.ensures)
    (subst (λ (p : List ℕ). EndsWithFound s.look (told_by c.args.answer p c.in_ok-report.report) c.as_str.result.now) is
    (subst (EndsWithFound s.look (told_by c.args.answer c.cut.result.1.now c.in_ok-report.report)) (sym c.as_str.ensures.value) c.in_ok-text.ensures))
    c.in_ok-write_apart.ensures.written c.is_refused.ensures

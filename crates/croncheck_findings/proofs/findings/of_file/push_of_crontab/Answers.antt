use Rattle.std.proofs.Common.{◌∙◌, ◌++◌, codes, ap, Bool, List, ℕ, Option}
use Rattle.croncheck_files.specs.declared.fitness.Unfit.{Unfit}
use Rattle.croncheck_report.specs.FileSeen.{file_seen, many_lines_text}
use Rattle.croncheck_findings.specs.Findings.{findings_said, reason, said_if, said_of_unfit}
use Rattle.croncheck_findings.proofs.Pushed.{four_pushed}
use Rattle.croncheck_findings.proofs.findings.of_file.push_of_crontab.Goals as goal

pub returns : goal.returns
returns c =
    let first = c.in_ok-push_unfit.ensures
    ∙ ap (λ (unfit : Option Unfit). findings_said c.args.found.now.items ++ said_of_unfit unfit) c.unfit.ensures in
    let second = c.in_ok-push_if.ensures
    ∙ ap (λ (holds : Bool). findings_said c.push_unfit.new.found.items ++ said_if holds (reason (codes "refused-line") (codes "a line is refused")))
    c.has_refused.ensures in
    let third = c.in_ok-push_if-2.ensures
    ∙ ap (λ (holds : Bool). findings_said c.push_if.new.found.items ++ said_if holds (reason (codes "no-newline") (codes "its last line has no line feed")))
    c.is_unfed.ensures in
    let fourth = c.in_ok-push_if-3.ensures
    ∙ ap (λ (text : List ℕ). findings_said c.push_if-2.new.found.items ++ said_if c.has_many_lines.result (reason (codes "many-lines") text))
    c.many_lines_text.ensures
    ∙ ap (λ (holds : Bool). findings_said c.push_if-2.new.found.items
    ++ said_if holds (reason (codes "many-lines") (many_lines_text c.args.dialect (file_seen c.args.file.now))))
    c.has_many_lines.ensures in
    four_pushed _ _ _ _ _ _ _ _ _ first second third fourth

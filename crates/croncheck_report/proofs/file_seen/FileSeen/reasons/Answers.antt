use Rattle.std.specs.Prelude.{string_bytes}
use Rattle.croncheck_report.specs.FileSeen.{file_seen}
use Rattle.croncheck_report.proofs.Endings.{reasons_after}
use Rattle.croncheck_report.proofs.file_seen.FileSeen.reasons.Goals as goal

pub returns : goal.returns
returns c =
    reasons_after (file_seen c.args.self.now) c.args.dialect c.args.lines c.as_str-name.result.now c.has_many_lines-has_many.result
    c.many_lines_line.result.now (string_bytes c.new-text.result)
    (string_bytes c.push_unfit.new.text) (string_bytes c.push_if.new.text) (string_bytes c.push_if-2.new.text) (string_bytes c.push_if-3.new.text)
    c.as_str-name.ensures.value c.has_many_lines-has_many.ensures c.many_lines_line.ensures c.new-text.ensures.bytes
    c.in_ok-push_unfit.ensures c.in_ok-push_if.ensures c.in_ok-push_if-2.ensures c.in_ok-push_if-3.ensures

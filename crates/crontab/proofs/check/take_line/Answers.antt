use Rattle.std.proofs.Common.{◌∙◌, ap, subst}
use Rattle.std.specs.Prelude.{OnOk}
use Rattle.crontab.specs.Checked.{LineRead, read_in}
use Rattle.crontab.specs.Lines.{without_line_feed}
use Rattle.crontab.proofs.ReadLines.{seen_as_read}
use Rattle.crontab.proofs.check.take_line.Goals as goal

pub returns : goal.returns
returns g c =
    let Takes = λ (line : LineRead). OnOk c.take.result (g.S.Entries.takes c.args.sink.now line c.take.new.self) in
    let as_read = seen_as_read c.args.dialect c.without_line_feed-is_fed.result.0.now c.in_ok-entry.entry c.without_line_feed-is_fed.result.1 c.in_ok-entry.ensures.seen
    c.in_ok-entry.ensures.exact in
    let of_text = ap (λ text. read_in c.args.dialect text c.without_line_feed-is_fed.result.1) c.without_line_feed-is_fed.ensures.text in
    let of_feed = ap (read_in c.args.dialect (without_line_feed c.args.line.now)) c.without_line_feed-is_fed.ensures.fed in
    subst Takes (as_read ∙ of_text ∙ of_feed) c.take.ensures

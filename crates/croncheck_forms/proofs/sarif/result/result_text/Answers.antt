use Rattle.std.proofs.Common.{string_bytes}
use Rattle.serde_json.specs.View.{view}
use Rattle.croncheck_forms.proofs.Sarifs.{result_written}
use Rattle.croncheck_forms.proofs.sarif.result.result_text.Goals as goal

pub returns : goal.returns
returns c =
    result_written c.args.file.now c.args.line c.args.columns c.args.finding.now (view c.in_ok-object.object) (string_bytes c.in_ok-text.text)
    c.in_ok-object.ensures c.in_ok-text.ensures.text

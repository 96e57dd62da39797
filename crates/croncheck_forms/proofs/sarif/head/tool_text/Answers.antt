use Rattle.std.proofs.Common.{string_bytes}
use Rattle.serde_json.specs.View.{view}
use Rattle.croncheck_forms.proofs.Sarifs.{tool_written}
use Rattle.croncheck_forms.proofs.sarif.head.tool_text.Goals as goal

pub returns : goal.returns
returns c =
    tool_written c.args.version.now c.args.rules.now (view c.in_ok-object.object) (string_bytes c.in_ok-text.text) c.in_ok-object.ensures
    c.in_ok-text.ensures.text

use Rattle.std.proofs.Common.{string_bytes}
use Rattle.serde_json.specs.View.{view}
use Rattle.cronplan_json.proofs.Whole.{text_of_plan}
use Rattle.cronplan_json.proofs.document.plan_json.Goals as goal

pub returns : goal.returns
returns c = text_of_plan c.args.view c.args.read_first.now (view c.in_ok-object.object) (string_bytes c.in_ok-text.text) c.in_ok-object.ensures c.in_ok-text.ensures.text

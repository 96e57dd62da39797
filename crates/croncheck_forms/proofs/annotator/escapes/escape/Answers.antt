use Rattle.std.proofs.Common.{◌≡◌, rules}
use Rattle.croncheck_forms.specs.Annotations.{escaped_bytes}
use Rattle.croncheck_forms.proofs.Annotated.{all_closed}
use Rattle.croncheck_forms.proofs.annotator.escapes.escape.Goals as goal

pub returns-clause-closed : goal.returns-clause-closed
returns-clause-closed c =
    let is : c.push_escaped.new.line.items ≡ escaped_bytes c.args.is_property c.args.bytes.now = search rules in
    all_closed c.args.is_property c.args.bytes.now c.push_escaped.new.line.items is

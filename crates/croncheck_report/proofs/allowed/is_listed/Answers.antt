use Rattle.std.proofs.Common.{◌∙◌}
use Rattle.croncheck_report.proofs.AllowedNames.{any_of_names}
use Rattle.croncheck_report.proofs.allowed.is_listed.Goals as goal

pub returns : goal.returns
returns c = c.is_one_of.ensures ∙ any_of_names c.args.name.now c.args.names.now

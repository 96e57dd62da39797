use Rattle.croncheck_report.proofs.AllowedNames.{names_over}
use Rattle.croncheck_report.proofs.allowed.strict_names_in_vain.Goals as goal

pub returns : goal.returns
returns c = names_over c.args.settings.now c.args.job.now c.args.above.now c.in_ok-names.names.items c.in_ok-names.ensures

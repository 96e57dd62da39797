use Rattle.croncheck_report.proofs.AllowedNames.{names_of_list}
use Rattle.croncheck_report.proofs.allowed.comment.names_in.Goals as goal

pub returns : goal.returns
returns c = names_of_list c.args.list.now c.known_names.result.now c.in_ok-names.names.items c.known_names.ensures c.in_ok-names.ensures

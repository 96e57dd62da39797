use Rattle.std.proofs.Common.{◌∙◌, ap}
use Rattle.croncheck_moments.specs.Zone.{fault_of_set_zone}
use Rattle.croncheck_moments.proofs.zone.fault_of_setting.Goals as goal

pub returns : goal.returns
returns c = c.fault_of_set_zone.ensures ∙ ap fault_of_set_zone c.without_colon.ensures

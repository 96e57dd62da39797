use Rattle.croner_base.proofs.clocks.CivilCalm.{civil_calm, civil_single}
use Rattle.croner_base.proofs.laws.clocks.civil_time_is_calm.Goals as goal

pub returns-clause-calm : goal.returns-clause-calm
returns-clause-calm c = civil_calm

pub returns-clause-single : goal.returns-clause-single
returns-clause-single c = civil_single

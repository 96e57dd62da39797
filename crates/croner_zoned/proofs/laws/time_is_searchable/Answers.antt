use Rattle.croner_zoned.proofs.ZoneRuns.{starts_calm, searchable, on_clock}
use Rattle.croner_zoned.proofs.laws.time_is_searchable.Goals as goal

pub returns-clause-calm : goal.returns-clause-calm
returns-clause-calm c = starts_calm c.args.time.now

pub returns-clause-searchable : goal.returns-clause-searchable
returns-clause-searchable c = λ h. searchable c.args.time.now h

pub returns-clause-on_clock : goal.returns-clause-on_clock
returns-clause-on_clock c = λ h. on_clock c.args.time.now h

use Rattle.croncheck_report.proofs.told.is_past.Goals as goal

pub returns : goal.returns
returns c = record { shown = c.to_civil.result; shows = c.to_civil.ensures; none = c.names_none_from.ensures }

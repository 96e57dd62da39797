use Rattle.crontab_runs.proofs.PartStarts.{first_forward, later_forward, later_backward, first_backward}
use Rattle.crontab_runs.proofs.stretch_search.StretchSearch.nearest_start.Goals as goal

pub returns-in-Some : goal.returns-in-Some
returns-in-Some c = first_forward c.args.self.now c.in-Forward.is c.in-Some.start c.in-Some.ensures

pub returns-in-None : goal.returns-in-None
returns-in-None c = later_forward c.args.self.now c.start_after_begin.result c.in-None.ensures c.start_after_begin.ensures

pub returns-in-Some-start_after_begin : goal.returns-in-Some-start_after_begin
returns-in-Some-start_after_begin c = later_backward c.args.self.now c.in-Backward.is c.in-Some-start_after_begin.start c.in-Some-start_after_begin.ensures

pub returns-in-None-start_after_begin : goal.returns-in-None-start_after_begin
returns-in-None-start_after_begin c = first_backward c.args.self.now c.in-Backward.is c.start_at_begin_within.result c.in-None-start_after_begin.ensures c.start_at_begin_within.ensures

use Rattle.croner.specs.search.PatternJob.{timetable_of}
use Rattle.croner.specs.Views.{job_of}
use Rattle.croner_zoned.proofs.ZoneRuns.{runs_same}
use Rattle.croner_zoned.proofs.laws.runs_are_the_zones.Goals as goal

pub returns : goal.returns
returns c = λ i h. runs_same c.args.clock.now (timetable_of (job_of c.args.cron.now)) i h

use Rattle.std.proofs.Common.{take}
use Rattle.croner_base.specs.TableZone.{table_zone}
use Rattle.cronplan_jobs.proofs.GatheredJobs.{Gathered}
use Rattle.cronplan_jobs.proofs.jobs.plan_of.Given as goal

abbrev pub invariant-loop-place : goal.invariant-loop-place
invariant-loop-place l = Gathered (table_zone l.fn.table) l.fn.span l.fn.most_a_day (take l.place l.fn.jobs) l.gathering

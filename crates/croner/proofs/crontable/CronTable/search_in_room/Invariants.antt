use Rattle.std.proofs.Common.{◌≤◌}
use Rattle.std.specs.Prelude.{vec_len, vec_capacity}
use Rattle.croner.specs.crontable.Tables.{patterns_of}
use Rattle.croner.specs.Private.crontable.Met.{met_of}
use Rattle.croner.proofs.crontable.TableRuns.{Searched}
use Rattle.croner.proofs.crontable.CronTable.search_in_room.Given as goal

abbrev pub invariant-loop-place : goal.invariant-loop-place
invariant-loop-place g l = record {
  searched : Searched g.T.CronDateTime.moment l.direction l.inclusive (patterns_of l.self) (g.T.CronDateTime.moment l.start) l.place (met_of l.met);
  filled : vec_len l.met.places ≤ l.place;
  room : vec_len l.self.jobs ≤ vec_capacity l.met.places;
}

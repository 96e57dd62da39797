use Rattle.std.proofs.Common.{◌≡◌, ◌≤◌, length}
use Rattle.std.specs.Prelude.{vec_capacity}
use Rattle.croner_base.specs.TableZone.{table_moment}
use Rattle.croner.specs.crontable.TableListing.{table_standing_of}
use Rattle.croner.proofs.crontable.TableUntil.{GivesTableUntil}
use Rattle.croner.proofs.laws.crontable.next_table_runs_until.Given as goal

abbrev pub invariant-loop-call : goal.invariant-loop-call
invariant-loop-call l = record {
  gives : GivesTableUntil (table_standing_of table_moment l.initial.iterator') (table_standing_of table_moment l.iterator') l.until l.runs.items;
  each : length l.runs.items ≡ l._call;
  room : l.most ≤ vec_capacity l.runs;
}

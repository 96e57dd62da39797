use Rattle.std.proofs.Common.{◌≤◌, ◌<◌, true, IsTrue}
use Rattle.std.specs.Prelude.{vec_len, vec_capacity}
use Rattle.croner.specs.iterator.Faults.{IsMemoryAlone}
use Rattle.croner.specs.search.Premises.{IsSearchable}
use Rattle.croner.specs.crontable.TableListing.{table_standing_of}
use Rattle.croner.specs.crontable.TableItems.{table_items, TakesTableInTurn}
use Rattle.croner.proofs.crontable.TableItems.{TableGoes, IsTableOver}
use Rattle.croner.proofs.laws.crontable.next_table_runs.Given as goal

abbrev pub invariant-loop-call : goal.invariant-loop-call
invariant-loop-call g l = record {
  goes : TableGoes (table_standing_of g.T.CronDateTime.moment l.initial.iterator') (table_standing_of g.T.CronDateTime.moment l.iterator') (table_items g.T.CronDateTime.moment l.runs.items);
  over : IsTrue l.is_over → IsTableOver (table_standing_of g.T.CronDateTime.moment l.initial.iterator') (table_standing_of g.T.CronDateTime.moment l.iterator');
  called : TakesTableInTurn g.T.CronDateTime.moment l._call l.initial.iterator' l.iterator' l.runs.items l.is_over;
  fault : IsSearchable (table_standing_of g.T.CronDateTime.moment l.initial.iterator').position → 0 < l._call
      → IsMemoryAlone true (table_standing_of g.T.CronDateTime.moment l.iterator').fault;
  most : vec_len l.runs ≤ l._call;
  room : l.calls ≤ vec_capacity l.runs;
}

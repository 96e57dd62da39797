use Rattle.std.proofs.Common.{◌≡◌, ◌≤◌, ◌<◌, ◌⊎◌, IsTrue, false, length}
use Rattle.std.specs.Prelude.{vec_len, vec_capacity}
use Rattle.std.specs.List.{All}
use Rattle.croner.specs.iterator.Faults.{IsMemoryAlone}
use Rattle.croner.specs.iterator.Listing.{standing_of, instants, TakesInTurn}
use Rattle.croner.specs.laws.Neighbours.{IsWholeIn}
use Rattle.croner.specs.search.Premises.{IsSearchable}
use Rattle.croner.proofs.iterator.ItemsGiven.{Goes, IsOver}
use Rattle.croner.proofs.laws.listing.next_runs.Given as goal

abbrev pub invariant-loop-call : goal.invariant-loop-call
invariant-loop-call g l = record {
  goes : Goes (standing_of g.T.CronDateTime.moment l.initial.iterator') (standing_of g.T.CronDateTime.moment l.iterator') (instants g.T.CronDateTime.moment l.runs.items);
  over : IsTrue l.is_over → IsOver (standing_of g.T.CronDateTime.moment l.initial.iterator') (standing_of g.T.CronDateTime.moment l.iterator');
  called : TakesInTurn g.T.CronDateTime.moment g.T.CronDateTime.can_lack_memory l._call l.initial.iterator' l.iterator' l.runs.items l.is_over;
  wholes : All (λ t. IsWholeIn (standing_of g.T.CronDateTime.moment l.initial.iterator').position.zone (g.T.CronDateTime.moment t)) l.runs.items;
  counted : g.T.CronDateTime.can_lack_memory ≡ false → IsSearchable (standing_of g.T.CronDateTime.moment l.initial.iterator').position
      → (length l.runs.items ≡ l._call) ⊎ IsOver (standing_of g.T.CronDateTime.moment l.initial.iterator') (standing_of g.T.CronDateTime.moment l.iterator');
  fault : IsSearchable (standing_of g.T.CronDateTime.moment l.initial.iterator').position → 0 < l._call
      → IsMemoryAlone g.T.CronDateTime.can_lack_memory (standing_of g.T.CronDateTime.moment l.iterator').fault;
  most : vec_len l.runs ≤ l._call;
  room : l.calls ≤ vec_capacity l.runs;
}

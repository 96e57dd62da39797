use Rattle.std.proofs.Common.{◌≡◌, ◌≤◌, length}
use Rattle.std.specs.Prelude.{vec_capacity}
use Rattle.crontab_runs.proofs.StartLists.{GivesUntil}
use Rattle.crontab_runs.proofs.listing.starts_until.Given as goal

abbrev pub invariant-loop-call : goal.invariant-loop-call
invariant-loop-call l = record {
  gives : GivesUntil l.fn.iterator.direction l.fn.iterator.job.now l.fn.iterator.position l.until l.left l.starts.items;
  each : length l.starts.items ≡ l._call;
  room : l.most ≤ vec_capacity l.starts;
}

use Rattle.std.proofs.Common.{◌≡◌, ◌<◌, ◌≤◌, ℕ}
use Rattle.std.specs.Prelude.{vec_len, vec_capacity}
use Rattle.std.specs.List.{All, sum_by}
use Rattle.croner.specs.Private.crontable.Kept.{is_place}
use Rattle.croner.proofs.crontable.kept.all_places.Given as goal

abbrev pub invariant-loop-place : goal.invariant-loop-place
invariant-loop-place l = record {
  below : All (λ k. k < l.place) l.places.items;
  once : (k : ℕ) → k < l.place → sum_by (is_place k) l.places.items ≡ 1;
  other : (k : ℕ) → l.place ≤ k → sum_by (is_place k) l.places.items ≡ 0;
  filled : vec_len l.places ≡ l.place;
  room : l.jobs ≤ vec_capacity l.places;
}

use Rattle.std.proofs.Common.{◌≡◌, arith}
use Rattle.std.proofs.lemmas.List.Sorted.{sum_by-IsPermutation}
use Rattle.croner.specs.Private.crontable.Kept.{is_place}
use Rattle.croner.proofs.crontable.KeptRuns.{placed_below, placed_once, placed_other}
use Rattle.croner.proofs.crontable.kept.all_places.Goals as goal

pub loop-place-preserved : goal.loop-place-preserved
loop-place-preserved c =
    let held = c.loop-place.invariant in
    let items = c.push_reserved.ensures.items in
    record {
      below = placed_below c.loop-place.places.items c.push_reserved.new.self.items c.loop-place.place items held.below;
      once = placed_once c.loop-place.places.items c.push_reserved.new.self.items c.loop-place.place items held.once held.other;
      other = placed_other c.loop-place.places.items c.push_reserved.new.self.items c.loop-place.place items held.other;
      filled = omega (arith, c.push_reserved.ensures.len, held.filled);
      room = omega (arith, c.push_reserved.ensures.capacity, held.room);
    }

pub returns-clause-once : goal.returns-clause-once
returns-clause-once c = λ k lt.
    let all : c.loop-place.place ≡ c.args.jobs = omega arith in
    let a = sum_by-IsPermutation (is_place k) c.loop-place.places.items c.reverse.new.self.items c.reverse.ensures.permutation in
    let b = c.loop-place.invariant.once k (omega (arith, lt, all)) in
    omega (arith, a, b)

pub returns-clause-other : goal.returns-clause-other
returns-clause-other c = λ k le.
    let all : c.loop-place.place ≡ c.args.jobs = omega arith in
    let a = sum_by-IsPermutation (is_place k) c.loop-place.places.items c.reverse.new.self.items c.reverse.ensures.permutation in
    let b = c.loop-place.invariant.other k (omega (arith, le, all)) in
    omega (arith, a, b)

-- The moments of starts in the order of time.
use Rattle.std.proofs.Common.{◌≡◌, ◌≢◌, ◌∙◌, ◌<◌, ◌<ℤ◌, ℕ, ℤ, pos, List, length, get_or, take, is_lt, false, sym, ap, subst, arith}
use Rattle.std.proofs.lemmas.Cmp.{int_cmp_total}
use Rattle.std.proofs.lemmas.Int.{ints}
use Rattle.std.proofs.lemmas.List.{length-map, length-take, get_or-map, take_all}
use Rattle.std.proofs.lemmas.List.Elements.{All-weaker}
use Rattle.std.proofs.lemmas.List.Sorted.{ranks_by, sorted_far, All-permutation, Contains-permutation, IsPermutation-map, IsPermutation-trans}
use Rattle.std.specs.List.{AllPairs, Contains}
use Rattle.std.specs.List.Sorted.{IsPermutation, IsSortedByKey}
use Rattle.std.specs.Ordering.{int_cmp}
use Rattle.cronplan.specs.declared.moments.Moment.{Moment}
use Rattle.cronplan.specs.declared.start.JobStart.{JobStart}
use Rattle.cronplan.specs.Moments.{moment_seconds, IsMoment, AreMoments, AreFullest}
use Rattle.cronplan.proofs.FilteredLists.{AllPairs-permutation}

-- the second of a moment
abbrev second_of : Moment → ℤ
second_of m = m.second

-- what stands where there is none
abbrev none : Moment
none = record { second = pos 0; wall = pos 0; starts = 0 }

-- two moments have different seconds
abbrev Differ : Moment → Moment → Type 0
Differ m n = m.second ≢ n.second

differ_back : (m n : Moment) → Differ m n → Differ n m
differ_back m n ne = λ e. ne (sym e)

-- of moments that rise each has a second of its own
rising_differ : (ms : List Moment) → AllPairs (λ i j. i <ℤ j) (moment_seconds ms) → AllPairs Differ ms
rising_differ ms rise = λ i j d lt inside same.
    let size = length-map ms second_of in
    let first : get_or (moment_seconds ms) i d.second ≡ (get_or ms i d).second = get_or-map second_of ms i d d.second (omega arith) in
    let later : get_or (moment_seconds ms) j d.second ≡ (get_or ms j d).second = get_or-map second_of ms j d d.second inside in
    let less : get_or (moment_seconds ms) i d.second <ℤ get_or (moment_seconds ms) j d.second = rise i j d.second lt (omega (arith, inside, size)) in
    absurd (omega (arith, ints, less, first, later, same))

-- where each has, those in order rise
ordered_rise : (ms : List Moment) → IsSortedByKey second_of int_cmp ms → AllPairs Differ ms → AllPairs (λ i j. i <ℤ j) (moment_seconds ms)
ordered_rise ms up differ = λ i j e lt inside.
    let size = length-map ms second_of in
    let in_ms : j < length ms = omega (arith, inside, size) in
    let first : get_or (moment_seconds ms) i e ≡ (get_or ms i none).second = get_or-map second_of ms i none e (omega arith) in
    let later : get_or (moment_seconds ms) j e ≡ (get_or ms j none).second = get_or-map second_of ms j none e in_ms in
    let far : is_lt (int_cmp (get_or ms j none).second (get_or ms i none).second) ≡ false =
    sorted_far (λ (m n : Moment). is_lt (int_cmp m.second n.second)) (ranks_by int_cmp_total second_of) ms up i j none (omega arith) in_ms in
    let less : (get_or ms i none).second <ℤ (get_or ms j none).second = apart (get_or ms i none).second (get_or ms j none).second far (differ i j none lt in_ms) in
    rw (first, later) less where
      apart : (a b : ℤ) → is_lt (int_cmp b a) ≡ false → a ≢ b → a <ℤ b
      apart a b h ne = grind (arith, ints)

-- fewer than so many of some are all of them
all_of : (most : ℕ) (xs ys : List Moment) → ys ≡ take most xs → length ys < most → ys ≡ xs
all_of most xs ys e few = e ∙ take_all most xs (omega (arith, few, ap length e, length-take most xs))

-- the fullest moments, which are fewer than were asked for, in the order of their seconds
pub earliest_first : (starts : List JobStart) (most : ℕ) (fullest ordered : List Moment) → AreFullest starts most fullest → length fullest < most
    → IsPermutation fullest ordered → IsSortedByKey second_of int_cmp ordered → AreMoments starts ordered
earliest_first starts most fullest ordered are few same up =
    let all : fullest ≡ are.ordered = all_of most are.ordered fullest are.first few in
    let moved : IsPermutation are.moments ordered =
    IsPermutation-trans are.moments are.ordered ordered are.same (subst (λ (ms : List Moment). IsPermutation ms ordered) all same) in
    record {
      each = All-permutation (IsMoment starts) are.moments ordered moved are.are_moments.each;
      rise = ordered_rise ordered up (AllPairs-permutation Differ differ_back are.moments ordered moved (rising_differ are.moments are.are_moments.rise));
      complete = All-weaker (λ s. Contains (moment_seconds are.moments) s.second) (λ s. Contains (moment_seconds ordered) s.second)
          (λ s has. Contains-permutation (moment_seconds are.moments) (moment_seconds ordered) s.second (IsPermutation-map second_of are.moments ordered moved) has)
          starts are.are_moments.complete;
    }

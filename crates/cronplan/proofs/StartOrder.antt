-- The order of starts, and what is kept of them.
use Rattle.std.proofs.Common.{◌≡◌, ◌∙◌, ℕ, ℤ, zero, suc, Bool, true, false, ◌≤ℤ◌, List, [], ◌∷◌, ◌++◌, take, drop, refl, sym, ap, subst, arith, cond, add-one, is_lt, int_lt, Some, filter, Option, None}
use Rattle.std.proofs.lemmas.Int.{ints}
use Rattle.std.proofs.lemmas.Cmp.{nat_cmp_total, int_cmp_total, on_total, then_total}
use Rattle.std.proofs.lemmas.List.Elements.{All-nil, All-cons, All-head, All-tail, All-weaker, All-map, All-same, All-filter, filter-append}
use Rattle.std.proofs.lemmas.List.Sorted.{ranks_by, All-permutation}
use Rattle.std.proofs.lemmas.List.Kept.{IsSortedBy-filter}
use Rattle.std.proofs.lemmas.List.{take-append-drop, append-nil}
use Rattle.std.specs.Cmp.{IsTotalOrder, IsStrictWeakOrder}
use Rattle.std.specs.List.{All}
use Rattle.std.specs.List.Sorted.{IsSorted, IsPermutation}
use Rattle.cronplan.specs.declared.start.JobStart.{JobStart}
use Rattle.cronplan.specs.Starts.{start_cmp, seconds_of, second_at, earlier_of, most_starts, IsMerged}
use Rattle.cronplan.proofs.FilteredLists.{filter_none, All-from_map}
use Rattle.cronplan.proofs.GapWindows.{Climbs}

start_total : IsTotalOrder start_cmp
start_total =
    then_total (on_total (λ (s : JobStart). s.second) int_cmp_total)
    (then_total (on_total (λ (s : JobStart). s.job) nat_cmp_total) (then_total (on_total (λ (s : JobStart). s.count) nat_cmp_total) (on_total (λ (s : JobStart). s.wall) int_cmp_total)))

pub start_weak : IsStrictWeakOrder (λ (x y : JobStart). is_lt (start_cmp x y))
start_weak = ranks_by start_total (λ (s : JobStart). s)

-- one that is no less than another is no earlier
pub no_earlier : (x y : JobStart) → is_lt (start_cmp y x) ≡ false → x.second ≤ℤ y.second
no_earlier x y e = grind (arith, ints)

-- without its first start a list is in order still
sorted_tail : (x : JobStart) (xs : List JobStart) → IsSorted start_cmp (x ∷ xs) → IsSorted start_cmp xs
sorted_tail x xs up = λ k d low h. rw add-one (simp add-one at (up (suc k) d (omega arith) (omega arith)))

pub climbs : (xs : List JobStart) → IsSorted start_cmp xs → Climbs (seconds_of xs)
climbs [] up = tt
climbs (x ∷ []) up = (All-nil (λ t. x.second ≤ℤ t), tt)
climbs (x ∷ y ∷ ys) up =
    let rest : Climbs (seconds_of (y ∷ ys)) = climbs (y ∷ ys) (sorted_tail x (y ∷ ys) up) in
    let first : x.second ≤ℤ y.second = no_earlier x y (up 0 x (omega arith) (omega arith)) in
    (All-cons (λ t. x.second ≤ℤ t) y.second (seconds_of ys) first (All-weaker (λ t. y.second ≤ℤ t) (λ t. x.second ≤ℤ t) (λ t le. omega (arith, ints, first, le)) (seconds_of ys) rest.0), rest)

pub to_seconds : (P : ℤ → Type 0) (xs : List JobStart) → All (λ (s : JobStart). P s.second) xs → All P (seconds_of xs)
to_seconds P xs h = All-map P (λ (s : JobStart). s.second) xs h

earlier_of-le : (end i : ℤ) → earlier_of end (Some i) ≤ℤ i
earlier_of-le end i = at (int_lt i end) refl where
  at : (b : Bool) → int_lt i end ≡ b → cond b i end ≤ℤ i
  at true h = omega (arith, ints)
  at false h = grind (arith, ints)

-- after the start at a place none is earlier
late : (xs : List JobStart) (m : ℕ) (end : ℤ) → Climbs (seconds_of xs) → All (λ (s : JobStart). earlier_of end (second_at xs m) ≤ℤ s.second) (drop m xs)
late [] zero end up = All-nil (λ (s : JobStart). end ≤ℤ s.second)
late [] (suc m) end up = All-nil (λ (s : JobStart). end ≤ℤ s.second)
late (x ∷ xs) zero end up =
    let le : earlier_of end (Some x.second) ≤ℤ x.second = earlier_of-le end x.second in
    All-cons (λ (s : JobStart). earlier_of end (Some x.second) ≤ℤ s.second) x xs le
    (All-from_map (λ (s : JobStart). s.second) (λ t. earlier_of end (Some x.second) ≤ℤ t) xs
    (All-weaker (λ t. x.second ≤ℤ t) (λ t. earlier_of end (Some x.second) ≤ℤ t) (λ t h. omega (arith, ints, le, h)) (seconds_of xs) up.0))
late (x ∷ xs) (suc m) end up = late xs m end up.1

not_before : (i kept : ℤ) → kept ≤ℤ i → int_lt i kept ≡ false
not_before i kept le = grind (arith, ints)

-- those before such an end are among the first ones
first_ones : (xs : List JobStart) (m : ℕ) (end kept : ℤ) → IsSorted start_cmp xs → kept ≡ earlier_of end (second_at xs m)
    → filter (λ (s : JobStart). int_lt s.second kept) xs ≡ filter (λ (s : JobStart). int_lt s.second kept) (take m xs)
first_ones xs m end kept up e =
    let p : JobStart → Bool = λ s. int_lt s.second kept in
    let after : All (λ (s : JobStart). kept ≤ℤ s.second) (drop m xs) =
    subst (λ (i : ℤ). All (λ (s : JobStart). i ≤ℤ s.second) (drop m xs)) (sym e) (late xs m end (climbs xs up)) in
    let none : filter p (drop m xs) ≡ [] =
    filter_none p (drop m xs) (All-weaker (λ (s : JobStart). kept ≤ℤ s.second) (λ (s : JobStart). p s ≡ false) (λ s le. not_before s.second kept le) (drop m xs) after) in
    ap (filter p) (sym (take-append-drop m xs)) ∙ filter-append p (take m xs) (drop m xs) ∙ ap (λ ys. filter p (take m xs) ++ ys) none ∙ append-nil (filter p (take m xs))

pub merged_are : (all ordered cut starts : List JobStart) (end kept : ℤ) → IsPermutation all ordered → IsSorted start_cmp ordered
    → kept ≡ earlier_of end (second_at ordered most_starts) → cut ≡ take most_starts ordered → starts ≡ filter (λ (s : JobStart). int_lt s.second kept) cut
    → IsMerged all end starts kept
merged_are all ordered cut starts end kept same order e f g = record {
  ordered = ordered;
  same = same;
  order = order;
  kept_is = e;
  starts_are = g ∙ ap (filter (λ (s : JobStart). int_lt s.second kept)) f ∙ sym (first_ones ordered most_starts end kept order e);
}

-- what is kept is in order, and what holds of all holds of it
pub merged_order : (all starts : List JobStart) (end kept : ℤ) → IsMerged all end starts kept → IsSorted start_cmp starts
merged_order all starts end kept h =
    subst (λ (xs : List JobStart). IsSorted start_cmp xs) (sym h.starts_are)
    (IsSortedBy-filter (λ (x y : JobStart). is_lt (start_cmp x y)) start_weak (λ (s : JobStart). int_lt s.second kept) h.ordered h.order)

pub merged_all : (P : JobStart → Type 0) (all starts : List JobStart) (end kept : ℤ) → IsMerged all end starts kept → All P all → All P starts
merged_all P all starts end kept h every =
    All-same P starts (filter (λ (s : JobStart). int_lt s.second kept) h.ordered) h.starts_are
    (All-filter (λ (s : JobStart). int_lt s.second kept) P h.ordered (All-permutation P all h.ordered h.same every))

-- where all come from a second on, such an end is no earlier than that second, and no later than the end that was given
pub earlier_late : (xs : List JobStart) (m : ℕ) (first end : ℤ) → All (λ (s : JobStart). first ≤ℤ s.second) xs → first ≤ℤ end → first ≤ℤ earlier_of end (second_at xs m)
earlier_late [] zero first end h le = le
earlier_late [] (suc m) first end h le = le
earlier_late (x ∷ xs) zero first end h le = at (int_lt x.second end) where
  at : (b : Bool) → first ≤ℤ cond b x.second end
  at true = All-head (λ (s : JobStart). first ≤ℤ s.second) x xs h
  at false = le
earlier_late (x ∷ xs) (suc m) first end h le = earlier_late xs m first end (All-tail (λ (s : JobStart). first ≤ℤ s.second) x xs h) le

pub earlier_early : (end : ℤ) (o : Option ℤ) → earlier_of end o ≤ℤ end
earlier_early end None = omega (arith, ints)
earlier_early end (Some i) = at (int_lt i end) refl where
  at : (b : Bool) → int_lt i end ≡ b → cond b i end ≤ℤ end
  at true h = grind (arith, ints)
  at false h = omega (arith, ints)

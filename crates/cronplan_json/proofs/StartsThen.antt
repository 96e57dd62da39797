-- Starts in order: those from a second on.
use Rattle.std.proofs.Common.{◌≡◌, ◌+◌, ◌<◌, ◌≤◌, ◌<ℤ◌, ◌≤ℤ◌, ℕ, ℤ, true, false, int_lt, List, length, get_or, take, drop, sym, subst, arith}
use Rattle.std.proofs.lemmas.Int.{ints}
use Rattle.std.proofs.lemmas.List.{get_or-take, get_or-drop, length-take-le, length-drop}
use Rattle.std.proofs.lemmas.List.Elements.{All-from_get_or}
use Rattle.std.specs.List.{All}
use Rattle.std.specs.List.Sorted.{IsSorted}
use Rattle.cronplan.specs.declared.start.JobStart.{JobStart}
use Rattle.cronplan.specs.Starts.{start_cmp}
use Rattle.cronplan.proofs.MomentStarts.{none_start, climbs_at}

-- those before a second stand before the others
pub partitioned_before : (i : ℤ) (xs : List JobStart) → IsSorted start_cmp xs → (j k : ℕ) (d : JobStart) → j ≤ k → k < length xs
    → int_lt (get_or xs k d).second i ≡ true → int_lt (get_or xs j d).second i ≡ true
partitioned_before i xs up j k d le inside h = let climb = climbs_at xs up j k d le inside in grind (arith, ints)

before : (a b : ℤ) → int_lt a b ≡ true → a <ℤ b
before a b h = grind (arith, ints)

not_before : (a b : ℤ) → int_lt a b ≡ false → b ≤ℤ a
not_before a b h = grind (arith, ints)

-- the first ones
pub all_before : (i : ℤ) (xs : List JobStart) (n : ℕ) → n ≤ length xs → ((k : ℕ) (d : JobStart) → 0 ≤ k → k < n → int_lt (get_or xs k d).second i ≡ true)
    → All (λ s. s.second <ℤ i) (take n xs)
all_before i xs n le front =
    All-from_get_or (λ s. s.second <ℤ i) (take n xs) none_start
    (λ k h. let below : k < n = omega (arith, h, length-take-le n xs le) in
    subst (λ (x : JobStart). x.second <ℤ i) (sym (get_or-take n xs k none_start below)) (before (get_or xs k none_start).second i (front k none_start (omega arith) below)))

-- and the others
pub none_before : (i : ℤ) (xs : List JobStart) (n : ℕ) → ((k : ℕ) (d : JobStart) → n ≤ k → k < length xs → int_lt (get_or xs k d).second i ≡ false)
    → All (λ s. i ≤ℤ s.second) (drop n xs)
none_before i xs n back =
    All-from_get_or (λ s. i ≤ℤ s.second) (drop n xs) none_start
    (λ k h. subst (λ (x : JobStart). i ≤ℤ x.second) (sym (get_or-drop n xs k none_start))
    (not_before (get_or xs (n + k) none_start).second i (back (n + k) none_start (omega arith) (omega (arith, h, length-drop n xs)))))

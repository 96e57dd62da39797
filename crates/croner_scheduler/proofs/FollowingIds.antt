-- Ids that follow one another.
use Rattle.std.proofs.Common.{◌≡◌, refl, sym, ap, ◌∙◌, arith, ◌⊎◌, inl, inr, ℕ, zero, suc, ◌+◌, ◌-◌, ◌<◌, ◌≤◌, max, false, [], ◌∷◌, ◌++◌, length, get_or, slice_index_or, nat_cmp, Ordering, Less, Equal, Greater}
use Rattle.std.proofs.lemmas.Cmp.{ranked}
use Rattle.std.specs.BTreeMap.{is_at}
use Rattle.std.specs.List.{AllByRecursion}
use Rattle.std.specs.Ordering.{MatchOrdering}
use Rattle.croner_scheduler.proofs.SameIds.{other_id}
use Rattle.croner_scheduler.specs.Private.Places.{ids_from}

length_from : (first n : ℕ) → length (ids_from first n) ≡ n
length_from first zero = refl
length_from first (suc n) = ap suc (length_from (first + 1) n)

id_at : (first n place : ℕ) → place < n → get_or (ids_from first n) place 0 ≡ first + place
id_at first zero place lt = absurd (omega (arith, lt))
id_at first (suc n) zero lt = omega arith
id_at first (suc n) (suc place) lt = let is = id_at (first + 1) n place (omega (arith, lt)) in omega (arith, is)

-- the place of an id is how far it is behind the first one
pub found_at : (first next id : ℕ) → first ≤ id → id < next
    → (id - first < length (ids_from first (next - first))) × (slice_index_or (ids_from first (next - first)) (id - first) 0 ≡ id)
found_at first next id le lt =
    let many = length_from first (next - first) in
    let is = id_at first (next - first) (id - first) (omega (arith, le, lt)) in
    (omega (arith, le, lt, many), omega (arith, le, is))

-- an id before the first one or behind the last is none of them
none_before : (first n id : ℕ) → id < first → AllByRecursion (λ other. is_at (nat_cmp id) other ≡ false) (ids_from first n)
none_before first zero id lt = tt
none_before first (suc n) id lt = (other_id id first (λ same. omega (arith, lt, same)), none_before (first + 1) n id (omega (arith, lt)))

none_behind : (first n id : ℕ) → first + n ≤ id → AllByRecursion (λ other. is_at (nat_cmp id) other ≡ false) (ids_from first n)
none_behind first zero id le = tt
none_behind first (suc n) id le = (other_id id first (λ same. omega (arith, le, same)), none_behind (first + 1) n id (omega (arith, le)))

pub none_below : (first next id : ℕ) → id < first → AllByRecursion (λ other. is_at (nat_cmp id) other ≡ false) (ids_from first (next - first))
none_below first next = none_before first (next - first)

pub none_above : (first next id : ℕ) → first ≤ next → next ≤ id → AllByRecursion (λ other. is_at (nat_cmp id) other ≡ false) (ids_from first (next - first))
none_above first next id le above = none_behind first (next - first) id (omega (arith, le, above))

-- between an id and the lowest that isn't below it there is none, and where that is behind the last there is none above
module _ (first next id lowest : ℕ) (le : first ≤ next) (is : lowest ≡ max id first) where
  pub none_between : lowest < next → (other : ℕ) → id ≤ other → other < lowest → AllByRecursion (λ item. is_at (nat_cmp other) item ≡ false) (ids_from first (next - first))
  none_between lt other above below = none_below first next other (omega (arith, is, above, below))

  pub none_left : next ≤ lowest → (other : ℕ) → id ≤ other → AllByRecursion (λ item. is_at (nat_cmp other) item ≡ false) (ids_from first (next - first))
  none_left ge other above = by (other_or_first (nat_cmp other first) (ranked other first _ refl))
    where
      other_or_first : (r : Ordering) → MatchOrdering r (other < first) (other ≡ first) (first < other) → (other < first) ⊎ (first ≤ other)
      other_or_first Less lt = inl lt
      other_or_first Equal same = inr (omega (arith, same))
      other_or_first Greater gt = inr (omega (arith, gt))

      by : (other < first) ⊎ (first ≤ other) → AllByRecursion (λ item. is_at (nat_cmp other) item ≡ false) (ids_from first (next - first))
      by (inl lt) = none_below first next other lt
      by (inr ge') = none_above first next other le (omega (arith, is, ge, above, ge'))

-- the next one goes behind them
one_behind : (first n : ℕ) → ids_from first n ++ (first + n) ∷ [] ≡ ids_from first (suc n)
one_behind first zero = let same : first + zero ≡ first = omega arith in ap (λ id. id ∷ []) same
one_behind first (suc n) =
    let same : first + suc n ≡ first + 1 + n = omega arith in
    ap (λ ids. first ∷ ids) (ap (λ id. ids_from (first + 1) n ++ id ∷ []) same ∙ one_behind (first + 1) n)

pub next_behind : (first next : ℕ) → first ≤ next → ids_from first (next + 1 - first) ≡ ids_from first (next - first) ++ next ∷ []
next_behind first next le =
    let last : first + (next - first) ≡ next = omega (arith, le) in
    let many : next + 1 - first ≡ suc (next - first) = omega (arith, le) in
    ap (ids_from first) many ∙ sym (one_behind first (next - first)) ∙ ap (λ id. ids_from first (next - first) ++ id ∷ []) last

-- The equality, the order and the hash of iterators: by pattern, position, first mark, inclusive mark and direction, in that
-- order. The kept fault has no part in them, nor has the pattern's text. The proofs of their laws stand here since the laws of
-- an impl may cite this crate's specs alone.
use Rattle.std.specs.Prelude.{◌≡◌, ℕ, pos, Bool, true, ◌&&◌, Option, Some, List, ◌++◌}
use Rattle.std.specs.declared.cmp.Ordering.{Ordering}
use Rattle.std.specs.Ordering.{nat_cmp, bool_cmp, on, then_cmp, partial_ordering_then, eq_by_cmp}
use Rattle.std.specs.Cmp.{IsPartialEquivalence, IsEquivalence, IsPartialOrder, IsTotalOrder, partial_equiv_from_equiv, eq_by_cmp_equiv, and_per, and_equiv, on_per, on_equiv, on_po, on_total, then_po, then_total, partial_order_from_total, nat_cmp_total, bool_cmp_total, first_so, second_so}
use Rattle.std.specs.Hash as fed
use Rattle.std.proofs.Common.{ap}
use Rattle.croner_base.specs.declared.time.Direction.{Direction}
use Rattle.croner_base.specs.declared.time.Direction.TheVariants.{Forward, Backward}
use Rattle.croner_base.specs.Written.{tie, nat_tie, bool_tie}
use Rattle.croner_pattern.specs.Order.{pattern_cmp, pattern_cmp_total}
use Rattle.croner_pattern.specs.Written.{pattern_writes, patterns_alike}
use Rattle.croner.specs.declared.iterator.CronIterator.{CronIterator}

-- forward comes before backward
abbrev pub direction_place : Direction → ℕ
direction_place Forward = 0
direction_place Backward = 1

-- by the two marks and the direction
abbrev pub marks_cmp : {T : Type 0} → CronIterator T → CronIterator T → Ordering
marks_cmp {T} =
    then_cmp (then_cmp (on (λ (i : CronIterator T). i.is_first) bool_cmp) (on (λ i. i.inclusive) bool_cmp)) (on (λ i. direction_place i.direction) nat_cmp)

-- the first difference decides, by an order of the positions that may have no answer
abbrev pub iterator_cmp : {T : Type 0} → (T → T → Option Ordering) → CronIterator T → CronIterator T → Option Ordering
iterator_cmp compare x y =
    partial_ordering_then (Some (pattern_cmp x.cron.pattern y.cron.pattern)) (partial_ordering_then (compare x.position y.position) (Some (marks_cmp x y)))

-- equal in all of them, by an equality of the positions
abbrev pub iterator_eq : {T : Type 0} → (T → T → Bool) → CronIterator T → CronIterator T → Bool
iterator_eq equal x y = eq_by_cmp pattern_cmp x.cron.pattern y.cron.pattern && (equal x.position y.position && eq_by_cmp marks_cmp x y)

-- what an iterator's hash is made of
abbrev pub iterator_writes : {T : Type 0} → (T → List (List ℕ)) → CronIterator T → List (List ℕ)
iterator_writes write i =
    pattern_writes i.cron.pattern ++ write i.position ++ fed.bool i.is_first ++ fed.bool i.inclusive ++ fed.isize (pos (direction_place i.direction))

-- ---- their laws

marks_cmp_total : {T : Type 0} → IsTotalOrder (marks_cmp {T = T})
marks_cmp_total {T} =
    then_total (then_total (on_total (λ (i : CronIterator T). i.is_first) bool_cmp_total) (on_total (λ (i : CronIterator T). i.inclusive) bool_cmp_total))
    (on_total (λ (i : CronIterator T). direction_place i.direction) nat_cmp_total)

pub iterator_eq_per : {T : Type 0} {equal : T → T → Bool} → IsPartialEquivalence equal → IsPartialEquivalence (iterator_eq equal)
iterator_eq_per {T} p =
    and_per (on_per (λ (i : CronIterator T). i.cron.pattern) (partial_equiv_from_equiv (eq_by_cmp_equiv pattern_cmp_total)))
    (and_per (on_per (λ (i : CronIterator T). i.position) p) (partial_equiv_from_equiv (eq_by_cmp_equiv marks_cmp_total)))

pub iterator_eq_equiv : {T : Type 0} {equal : T → T → Bool} → IsEquivalence equal → IsEquivalence (iterator_eq equal)
iterator_eq_equiv {T} p =
    and_equiv (on_equiv (λ (i : CronIterator T). i.cron.pattern) (eq_by_cmp_equiv pattern_cmp_total))
    (and_equiv (on_equiv (λ (i : CronIterator T). i.position) p) (eq_by_cmp_equiv marks_cmp_total))

pub iterator_po : {T : Type 0} {equal : T → T → Bool} {compare : T → T → Option Ordering} → IsPartialOrder equal compare → IsPartialOrder (iterator_eq equal) (iterator_cmp compare)
iterator_po {T} o =
    then_po (on_po (λ (i : CronIterator T). i.cron.pattern) (partial_order_from_total pattern_cmp_total))
    (then_po (on_po (λ (i : CronIterator T). i.position) o) (partial_order_from_total marks_cmp_total))

-- five equal parts make equal wholes
joined : (a b c d e a₂ b₂ c₂ d₂ e₂ : List (List ℕ)) → a ≡ a₂ → b ≡ b₂ → c ≡ c₂ → d ≡ d₂ → e ≡ e₂ → a ++ b ++ c ++ d ++ e ≡ a₂ ++ b₂ ++ c₂ ++ d₂ ++ e₂
joined a b c d e a₂ b₂ c₂ d₂ e₂ p q r s t = cc

-- equal iterators are hashed alike, where equal positions are
pub iterators_alike : {T : Type 0} {equal : T → T → Bool} {write : T → List (List ℕ)} → ((a b : T) → equal a b ≡ true → write a ≡ write b) → (x y : CronIterator T) → iterator_eq equal x y ≡ true → iterator_writes write x ≡ iterator_writes write y
iterators_alike {T} {equal} {write} alike x y h =
    let rest = second_so (eq_by_cmp pattern_cmp x.cron.pattern y.cron.pattern) (equal x.position y.position && eq_by_cmp marks_cmp x y) h in
    let t2 = tie _ _ (second_so (equal x.position y.position) (eq_by_cmp marks_cmp x y) rest) in
    let t1 = tie _ _ t2.0 in
    let pattern = patterns_alike x.cron.pattern y.cron.pattern (first_so (eq_by_cmp pattern_cmp x.cron.pattern y.cron.pattern) _ h) in
    let position = alike x.position y.position (first_so (equal x.position y.position) (eq_by_cmp marks_cmp x y) rest) in
    let first = bool_tie x.is_first y.is_first t1.0 in
    let inclusive = bool_tie x.inclusive y.inclusive t1.1 in
    let place = nat_tie (direction_place x.direction) (direction_place y.direction) t2.1 in
    joined (pattern_writes x.cron.pattern) (write x.position) (fed.bool x.is_first) (fed.bool x.inclusive) (fed.isize (pos (direction_place x.direction)))
    (pattern_writes y.cron.pattern) (write y.position) (fed.bool y.is_first) (fed.bool y.inclusive) (fed.isize (pos (direction_place y.direction)))
    pattern position (ap fed.bool first) (ap fed.bool inclusive) (ap (λ n. fed.isize (pos n)) place)

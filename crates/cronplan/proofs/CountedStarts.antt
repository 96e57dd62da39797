-- Counts of starts, one start after the other.
use Rattle.std.proofs.Common.{◌≡◌, ◌+◌, unwrap_or, refl, ap, subst, ◌<◌, ◌≤◌, ℕ, ℤ, Bool, true, false, cond, List, length, get_or, take, arith}
use Rattle.std.proofs.lemmas.List.Sums.{sum_by_more, sum_by-take-le}
use Rattle.std.proofs.lemmas.Int.{ints}
use Rattle.std.specs.BTreeMap.{BTreeMap, get}
use Rattle.std.specs.Ordering.{int_eq, int_cmp}
use Rattle.cronplan.specs.declared.counts.Unit.{Unit}
use Rattle.cronplan.specs.declared.start.JobStart.{JobStart}
use Rattle.cronplan.specs.Counts.{key_of, starts_at, added_at}

-- one start more
pub starts_at-more : (unit : Unit) (q : ℤ) (starts : List JobStart) (i : ℕ) (d : JobStart) → i < length starts
    → starts_at unit q (take (i + 1) starts) ≡ starts_at unit q (take i starts) + added_at unit q (get_or starts i d)
starts_at-more unit q starts i d h = sum_by_more (added_at unit q) starts i d h

-- it adds no more than its count
pub added_at_small : (unit : Unit) (q : ℤ) (s : JobStart) → added_at unit q s ≤ s.count
added_at_small unit q s = small (int_eq (key_of unit s) q) s.count where
  small : (b : Bool) (n : ℕ) → cond b n 0 ≤ n
  small true n = omega arith
  small false n = omega arith

-- the first ones are no more than all of them
pub starts_at-first : (unit : Unit) (q : ℤ) (starts : List JobStart) (i : ℕ) → starts_at unit q (take i starts) ≤ starts_at unit q starts
starts_at-first unit q starts i = sum_by-take-le (added_at unit q) starts i

-- where one day has no more than so many starts, each has no more
pub few-more : (old new : BTreeMap ℤ ℕ) (unit : Unit) (most : ℕ) (s : JobStart) (n : ℕ) → ((q : ℤ) → unwrap_or (get int_cmp old q) 0 ≤ most)
    → ((q : ℤ) → unwrap_or (get int_cmp new q) 0 ≡ unwrap_or (get int_cmp old q) 0 + added_at unit q s)
    → n ≡ unwrap_or (get int_cmp new (key_of unit s)) 0 → n ≤ most → (q : ℤ) → unwrap_or (get int_cmp new q) 0 ≤ most
few-more old new unit most s n few added count here q = by_eq (int_eq (key_of unit s) q) refl where
  by_eq : (b : Bool) → int_eq (key_of unit s) q ≡ b → unwrap_or (get int_cmp new q) 0 ≤ most
  by_eq true e = let same : key_of unit s ≡ q = grind (arith, ints) in subst (λ (i : ℤ). unwrap_or (get int_cmp new i) 0 ≤ most) same (omega arith)
  by_eq false e = let none : added_at unit q s ≡ 0 = ap (λ (b : Bool). cond b s.count 0) e in omega (arith, added q, few q)

pub ruleset counted = (starts_at-more, added_at_small, starts_at-first)

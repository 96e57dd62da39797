-- What the tests of a table say.
use Rattle.std.proofs.Common.{◌≡◌, ◌⊎◌, inl, inr, Bool, true, false, not, refl, arith, ◌&&◌, ℤ, pos, neg_ℤ, ◌-ℤ◌, ◌<ℤ◌, ◌≤ℤ◌, int_le, int_lt}
use Rattle.std.specs.Bool.{Decides}
use Rattle.std.specs.Ordering.{int_eq}
use Rattle.std.proofs.lemmas.Bool.Decides.{Decides-and}
use Rattle.std.proofs.lemmas.Int.{ints, by_lt_z}
use Rattle.croner_base.specs.Limits.{gap_limit, fold_limit}
use Rattle.croner_base.specs.Table.{first_instant, last_instant, is_offset, is_table_second, is_step, offset_limit}

pub both_parts : (a b : Bool) → (a && b) ≡ true → (a ≡ true) × (b ≡ true)
both_parts true true h = (refl, refl)
both_parts true false h = absurd (cc)
both_parts false b h = absurd (cc)

pub not_true : (b : Bool) → (b ≡ true → ⊥) → b ≡ false
not_true true h = absurd (h refl)
not_true false h = refl

pub le_of : (a b : ℤ) → int_le a b ≡ true → a ≤ℤ b
le_of a b h = grind (arith, ints)

pub lt_of : (a b : ℤ) → int_lt a b ≡ true → a <ℤ b
lt_of a b h = grind (arith, ints)

pub le_test : (a b : ℤ) → a ≤ℤ b → int_le a b ≡ true
le_test a b h = grind (arith, ints)

pub lt_test : (a b : ℤ) → a <ℤ b → int_lt a b ≡ true
lt_test a b h = grind (arith, ints)

pub le_false : (a b : ℤ) → b <ℤ a → int_le a b ≡ false
le_false a b h = grind (arith, ints)

pub lt_false : (a b : ℤ) → b ≤ℤ a → int_lt a b ≡ false
lt_false a b h = grind (arith, ints)

-- each test with what it tells
pub le_tells : (a b : ℤ) → ((int_le a b ≡ true) × (a ≤ℤ b)) ⊎ ((int_le a b ≡ false) × (b <ℤ a))
le_tells a b = by_lt_z b a (λ gt. inr (le_false a b gt, gt)) (λ le. inl (le_test a b le, le))

pub lt_tells : (a b : ℤ) → ((int_lt a b ≡ true) × (a <ℤ b)) ⊎ ((int_lt a b ≡ false) × (b ≤ℤ a))
lt_tells a b = by_lt_z a b (λ lt. inl (lt_test a b lt, lt)) (λ ge. inr (lt_false a b ge, ge))

-- a number between two bounds
pub between : (low high i : ℤ) → Decides (int_le low i && int_le i high) ((low ≤ℤ i) × (i ≤ℤ high))
between low high i = Decides-and (int_le low i) (int_le i high) (le_of low i, le_test low i) (le_of i high, le_test i high)

pub between_test : (low high i : ℤ) → low ≤ℤ i → i ≤ℤ high → (int_le low i && int_le i high) ≡ true
between_test low high i from to = (between low high i).1 (from, to)

pub between_false : (low high i : ℤ) → (low ≤ℤ i → i ≤ℤ high → ⊥) → (int_le low i && int_le i high) ≡ false
between_false low high i out = not_true _ (λ h. let b = (between low high i).0 h in out b.0 b.1)

-- an instant of the UTC years -9999 to 9999
pub instant_bounds : (i : ℤ) → is_table_second i ≡ true → (first_instant ≤ℤ i) × (i ≤ℤ last_instant)
instant_bounds i = (between first_instant last_instant i).0

pub instant_test : (i : ℤ) → first_instant ≤ℤ i → i ≤ℤ last_instant → is_table_second i ≡ true
instant_test i = between_test first_instant last_instant i

-- an offset of at most a day
pub offset_bounds : (o : ℤ) → is_offset o ≡ true → (neg_ℤ (pos offset_limit) ≤ℤ o) × (o ≤ℤ pos offset_limit)
offset_bounds o = (between (neg_ℤ (pos offset_limit)) (pos offset_limit) o).0

-- what a change does to the clock
abbrev pub IsSmallStep : ℤ → ℤ → Type 0
IsSmallStep before after = (neg_ℤ (pos fold_limit) ≤ℤ (after -ℤ before)) × ((after -ℤ before) ≤ℤ pos gap_limit)

pub step_parts : (before after : ℤ) → is_step before after ≡ true → IsSmallStep before after
step_parts before after h =
    let p = both_parts _ _ h in
    (le_of _ _ (both_parts _ _ p.0).1, le_of _ _ p.1)

pub step_moves : (before after : ℤ) → is_step before after ≡ true → before ≡ after → ⊥
step_moves before after h same =
    let by = after -ℤ before in
    let parts = both_parts (not (int_eq before after) && int_le (neg_ℤ (pos fold_limit)) by) (int_le by (pos gap_limit)) h in
    let moved : not (int_eq before after) ≡ true = (both_parts (not (int_eq before after)) (int_le (neg_ℤ (pos fold_limit)) by) parts.0).0 in
    grind (arith, ints)

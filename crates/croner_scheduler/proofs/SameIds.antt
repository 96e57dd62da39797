-- Ids: when two are one.
use Rattle.std.proofs.Common.{◌≡◌, refl, sym, subst, arith, ℕ, ◌<◌, Bool, true, false, nat_cmp, Ordering, Less, Equal, Greater, is_eq}
use Rattle.std.proofs.lemmas.Bool.{false≢true}
use Rattle.std.proofs.lemmas.Cmp.{ranked}
use Rattle.std.specs.BTreeMap.{is_at}
use Rattle.std.specs.Ordering.{MatchOrdering}

pub same_id : (x y : ℕ) → is_at (nat_cmp x) y ≡ true → x ≡ y
same_id x y e = by (nat_cmp x y) (ranked x y _ refl) e
  where
    by : (r : Ordering) → MatchOrdering r (x < y) (x ≡ y) (y < x) → is_eq r ≡ true → x ≡ y
    by Less lt e = absurd (false≢true e)
    by Equal same e = same
    by Greater lt e = absurd (false≢true e)

pub own_id : (x : ℕ) → is_at (nat_cmp x) x ≡ true
own_id x = by (nat_cmp x x) (ranked x x _ refl)
  where
    by : (r : Ordering) → MatchOrdering r (x < x) (x ≡ x) (x < x) → is_eq r ≡ true
    by Less lt = absurd (omega (arith, lt))
    by Equal same = refl
    by Greater lt = absurd (omega (arith, lt))

pub other_id : (x y : ℕ) → ¬ (y ≡ x) → is_at (nat_cmp x) y ≡ false
other_id x y apart = by (is_at (nat_cmp x) y) refl
  where
    by : (b : Bool) → is_at (nat_cmp x) y ≡ b → b ≡ false
    by true e = absurd (apart (sym (same_id x y e)))
    by false e = refl

-- what holds of one id and of each other holds of all
pub each : (id : ℕ) (P : ℕ → Type 0) → P id → ((k : ℕ) → is_at (nat_cmp id) k ≡ false → P k) → (k : ℕ) → P k
each id P here apart k = by (is_at (nat_cmp id) k) refl
  where
    by : (b : Bool) → is_at (nat_cmp id) k ≡ b → P k
    by true e = subst P (same_id id k e) here
    by false e = apart k e

-- The nearest value that passes a test, upwards and downwards.
-- Private contracts alone cite these definitions.
use Rattle.std.specs.Prelude.{ℕ, ◌≡◌, ◌<◌, ◌≤◌, Bool, true, false}

-- no value passes that is asked for
abbrev pub NonePasses : (ℕ → Bool) → (ℕ → Type 0) → Type 0
NonePasses test asked = (v : ℕ) → asked v → test v ≡ false

-- the value is asked for and passes, and none does that is nearer
pub record IsNearest (test : ℕ → Bool) (asked nearer : ℕ → Type 0) (found : ℕ) : Type 0 where
  pub is_asked : asked found
  pub passes : test found ≡ true
  pub first : (v : ℕ) → asked v → nearer v → test v ≡ false

-- from a value on, and up to one
abbrev pub NoneFrom : (ℕ → Bool) → ℕ → Type 0
NoneFrom test from = NonePasses test (λ v. from ≤ v)

abbrev pub IsLeast : (ℕ → Bool) → ℕ → ℕ → Type 0
IsLeast test from least = IsNearest test (λ v. from ≤ v) (λ v. v < least) least

abbrev pub NoneTo : (ℕ → Bool) → ℕ → Type 0
NoneTo test to = NonePasses test (λ v. v ≤ to)

abbrev pub IsGreatest : (ℕ → Bool) → ℕ → ℕ → Type 0
IsGreatest test to greatest = IsNearest test (λ v. v ≤ to) (λ v. greatest < v) greatest

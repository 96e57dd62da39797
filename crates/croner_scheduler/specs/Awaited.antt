-- Which of the next runs comes first, in every zone. Source: this crate's documentation.
use Rattle.std.specs.Prelude.{◌≡◌, ◌≤◌, ℕ, ℤ, ◌<ℤ◌, ◌≤ℤ◌, Option, None, Some, IfSome}
use Rattle.std.specs.Option.{IsSomeAnd}
use Rattle.croner_scheduler.specs.declared.turns.Turn.{Turn}
use Rattle.croner_scheduler.specs.Standing.{Standing, Held}

-- the next run of the job of the id l, if it has one, doesn't come before i of k: it isn't earlier, and at the same instant l isn't lower
abbrev pub WaitsAfter : {J : Type 0} → ℕ → ℤ → ℕ → Standing J → Type 0
WaitsAfter k i l s = IfSome s.next (λ j. (i ≤ℤ j) × (j ≡ i → k ≤ l))

-- it is the next run of its job, and no other job's comes before it; or no job has one
abbrev pub AwaitsFirst : {J : Type 0} → Held J → Option Turn → Type 0
AwaitsFirst h (Some due) = IsSomeAnd (h.jobs due.id) (λ s. s.next ≡ Some due.second) × ((l : ℕ) → IfSome (h.jobs l) (WaitsAfter due.id due.second l))
AwaitsFirst h None = (l : ℕ) → IfSome (h.jobs l) (λ s. s.next ≡ None)

-- what is given is the first of the next runs; or each comes later than now
abbrev pub TakesAwaited : {J : Type 0} → Held J → ℤ → Option Turn → Type 0
TakesAwaited h now (Some due) = AwaitsFirst h (Some due)
TakesAwaited h now None = (l : ℕ) → IfSome (h.jobs l) (λ s. IfSome s.next (λ j. now <ℤ j))

-- the wake-up is at the first of the next runs
abbrev pub WakesFirst : {J : Type 0} → Held J → Option ℤ → Type 0
WakesFirst h (Some i) = (k : ℕ) × AwaitsFirst h (Some (record { id = k; second = i }))
WakesFirst h None = AwaitsFirst h None

-- a next run lies no later than now
abbrev pub IsSomeDue : {J : Type 0} → Held J → ℤ → Type 0
IsSomeDue h now = (k : ℕ) × IsSomeAnd (h.jobs k) (λ s. IsSomeAnd s.next (λ j. j ≤ℤ now))

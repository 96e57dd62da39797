-- The order in which the next runs come: by their instants, and of several at one instant by the ids of their jobs; and the heap in which they
-- stand. Private contracts alone cite these definitions.
use Rattle.std.specs.Prelude.{◌≡◌, ◌≤◌, ℕ, ℤ, ◌≤ℤ◌, Bool, true, false, cond, Option, None, Some, List, [], ◌∷◌}
use Rattle.std.specs.BTreeMap.{is_at}
use Rattle.std.specs.BinaryHeap.{IsHeap}
use Rattle.std.specs.List.{list_any}
use Rattle.std.specs.Ordering.{nat_cmp, int_cmp, ordering_then}
use Rattle.std.specs.declared.cmp.Ordering.{Ordering}
use Rattle.std.specs.declared.cmp.Reverse.{Reverse}
use Rattle.croner_scheduler.specs.declared.turns.Turn.{Turn}
use Rattle.croner_scheduler.specs.declared.waiting.Next.{Next}
use Rattle.croner_scheduler.specs.declared.waiting.Next.TheVariants.{Run}
use Rattle.croner_scheduler.specs.declared.waiting.Waiting.{Waiting}
use Rattle.croner_scheduler.specs.Private.Steps.{is_awaited_at}

-- by the instant, and then by the id
abbrev pub turn_cmp : ℤ × ℕ → ℤ × ℕ → Ordering
turn_cmp x y = ordering_then (int_cmp x.0 y.0) (nat_cmp x.1 y.1)

-- a heap has its greatest on top, and that is to be the first
abbrev pub heap_cmp : Reverse (ℤ × ℕ) → Reverse (ℤ × ℕ) → Ordering
heap_cmp x y = turn_cmp y.0 x.0

-- the two are one turn
abbrev pub is_turn : ℤ → ℕ → ℤ → ℕ → Bool
is_turn second id other_second other = is_at (turn_cmp (second, id)) (other_second, other)

-- one of the turns is that of the id at that second
abbrev pub has_turn : List (Reverse (ℤ × ℕ)) → ℤ → ℕ → Bool
has_turn turns second id = list_any (λ turn. is_turn turn.0.0 turn.0.1 second id) turns

-- it is the turn of a job's next run
abbrev pub is_next_turn : Next → ℕ → ℤ → ℕ → Bool
is_next_turn (Run i) id second other = is_turn i id second other
is_next_turn next id second other = false

-- the one on top; none where there is no turn
abbrev pub top_of : List (Reverse (ℤ × ℕ)) → Option Turn
top_of [] = None
top_of (turn ∷ turns) = Some (record { id = turn.0.1; second = turn.0.0 })

-- the first of the turns; none where there is no turn
abbrev pub IsFirstTurn : (ℤ → ℕ → Bool) → Option Turn → Type 0
IsFirstTurn has (Some due) = (has due.second due.id ≡ true)
    × ((second : ℤ) (id : ℕ) → has second id ≡ true → (due.second ≤ℤ second) × (second ≡ due.second → due.id ≤ id))
IsFirstTurn has None = (second : ℤ) (id : ℕ) → has second id ≡ false

-- each next run has its turn
abbrev pub AreListed : {J T : Type 0} → (ℕ → Option (Waiting J T)) → List (Reverse (ℤ × ℕ)) → Type 0
AreListed jobs turns = (second : ℤ) (id : ℕ) → is_awaited_at second (jobs id) ≡ true → has_turn turns second id ≡ true

-- each but that of one job, which has this one next
abbrev pub AreListedBut : {J T : Type 0} → (ℕ → Option (Waiting J T)) → Next → ℕ → List (Reverse (ℤ × ℕ)) → Type 0
AreListedBut jobs next id turns =
    (second : ℤ) (other : ℕ) → is_awaited_at second (jobs other) ≡ true → cond (is_next_turn next id second other) true (has_turn turns second other) ≡ true

-- if there is a first turn, its job awaits it
abbrev pub is_awaited : {J T : Type 0} → (ℕ → Option (Waiting J T)) → Option Turn → Bool
is_awaited jobs (Some turn) = is_awaited_at turn.second (jobs turn.id)
is_awaited jobs None = true

-- the turns of the jobs: in the order of a heap, each next run has its turn, and the first turn is one of these
abbrev pub AreTurnsOf : {J T : Type 0} → (ℕ → Option (Waiting J T)) → List (Reverse (ℤ × ℕ)) → Type 0
AreTurnsOf jobs turns = IsHeap heap_cmp turns × AreListed jobs turns × (is_awaited jobs (top_of turns) ≡ true)

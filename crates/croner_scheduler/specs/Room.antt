-- For how many more there is room without asking for memory, and how many may be gone where there is none. Source: this crate's documentation.
use Rattle.std.specs.Prelude.{ℕ, ◌-◌, ◌/◌, ◌≤◌, ◌⊎◌, Bool, IsTrue, vec_len, vec_capacity}
use Rattle.std.specs.BinaryHeap.{heap_capacity}
use Rattle.std.specs.declared.collections.binary_heap.BinaryHeap.{BinaryHeap}
use Rattle.std.specs.declared.vec.Vec.{Vec}

-- in a row
abbrev pub row_room : {X Z : Type 0} → Vec X Z → ℕ
row_room row = vec_capacity row - vec_len row

-- in a heap with a turn of each of so many jobs: any other turn can be taken away
abbrev pub heap_room : {X Z : Type 0} → BinaryHeap X Z → ℕ → ℕ
heap_room heap jobs = heap_capacity heap - jobs

-- a call can lack memory: the times can, or there is room for so many jobs, and there are as many
abbrev pub CanLack : Bool → ℕ → ℕ → Type 0
CanLack times_can room jobs = IsTrue times_can ⊎ (room ≤ jobs)

-- of so many at most an eighth is gone, where so many are left
abbrev pub FewGone : ℕ → ℕ → Type 0
FewGone len left = len - len / 8 ≤ left

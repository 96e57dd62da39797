-- Zones whose clock changes seldom and by little, and what a search needs a backend to hold.
use Rattle.std.specs.Prelude.{◌≡◌, ◌↔◌, ◌⊎◌, ℕ, ◌+◌, ◌≤◌, true, if◌then◌else◌, int_lt, ℤ, pos, neg_ℤ, ◌+ℤ◌, ◌-ℤ◌, ◌<ℤ◌, ◌≤ℤ◌, unsigned_abs, List, [], ◌∷◌, length, Some, IsSome}
use Rattle.std.specs.List.{All}
use Rattle.croner_base.specs.declared.time.civil.CivilDateTime.{CivilDateTime}
use Rattle.croner_base.specs.declared.time.value.Resolution.{Resolution}
use Rattle.croner_base.specs.declared.time.value.Resolution.TheVariants.{Single, Ambiguous, Gap}
use Rattle.croner_base.specs.Civil.{wall_second}
use Rattle.croner_base.specs.Limits.{gap_limit, fold_limit, apart_limit, most_changes, most_gap_seconds, near_limit, first_searched, last_searched, first_needed, last_needed, first_start, last_start}
use Rattle.croner_base.specs.Zone.{Zone, Moment, reading}

-- at d the clock does not go on by one second
abbrev pub IsChange : Zone → ℤ → Type 0
IsChange z d = ¬ (z.reads d ≡ z.reads (d -ℤ pos 1) +ℤ pos 1)

-- how many seconds the clock is moved forward there: negative where it is moved back
abbrev pub jump : Zone → ℤ → ℤ
jump z d = z.reads d -ℤ z.reads (d -ℤ pos 1) -ℤ pos 1

-- a wall second of the years 1 to 5000
abbrev pub IsSearched : ℤ → Type 0
IsSearched w = (first_searched ≤ℤ w) × (w ≤ℤ last_searched)

-- a change with a reading in those years, at it or just before it
abbrev pub IsMet : Zone → ℤ → Type 0
IsMet z d = IsChange z d × (IsSearched (z.reads d) ⊎ IsSearched (z.reads (d -ℤ pos 1)))

-- from each to the next the list rises
abbrev pub Rises : List ℤ → Type 0
Rises [] = Unit {0}
Rises (d ∷ ds) = All (λ e. d <ℤ e) ds × Rises ds

-- the seconds that the clock skips at these changes
abbrev pub gap_seconds : Zone → List ℤ → ℕ
gap_seconds z [] = 0
gap_seconds z (d ∷ ds) = (if int_lt (pos 0) (jump z d) then unsigned_abs (jump z d) else 0) + gap_seconds z ds

-- the resolution names all instants that show the second, the earlier first
abbrev pub NamesAll : Zone → ℤ → Resolution ℤ → Type 0
NamesAll z w (Single a) = (i : ℤ) → (z.reads i ≡ w) ↔ (i ≡ a)
NamesAll z w (Ambiguous a b) = (a <ℤ b) × ((i : ℤ) → (z.reads i ≡ w) ↔ ((i ≡ a) ⊎ (i ≡ b)))
NamesAll z w Gap = (i : ℤ) → ¬ (z.reads i ≡ w)

-- the zone is calm
pub record IsCalm (z : Zone) : Type 0 where
  -- each second that is held is resolved to exactly the instants that show it
  pub exact : (c : CivilDateTime) (r : Resolution ℤ) → z.resolves c ≡ Some r → NamesAll z (wall_second c) r
  -- each change moves the clock by little
  pub small : (d : ℤ) → IsChange z d → (neg_ℤ (pos fold_limit) ≤ℤ jump z d) × (jump z d ≤ℤ pos gap_limit)
  -- changes lie far apart
  pub apart : (d e : ℤ) → IsChange z d → IsChange z e → d <ℤ e → (d +ℤ pos apart_limit) <ℤ e
  -- a search meets few of them, and few skipped seconds
  pub few : (ds : List ℤ) → Rises ds → All (IsMet z) ds → (length ds ≤ most_changes) × (gap_seconds z ds ≤ most_gap_seconds)

-- y lies at most two days from x
abbrev pub IsNear : ℤ → ℤ → Type 0
IsNear x y = ((x -ℤ pos near_limit) ≤ℤ y) × (y ≤ℤ (x +ℤ pos near_limit))

-- a wall second of the years 0 to 5001
abbrev pub IsInReach : ℤ → Type 0
IsInReach w = (first_needed ≤ℤ w) × (w ≤ℤ last_needed)

-- a wall second of the years -9997 to 9997
abbrev pub IsStart : ℤ → Type 0
IsStart w = (first_start ≤ℤ w) × (w ≤ℤ last_start)

-- what a search from a moment needs held
pub record HoldsAround (m : Moment) : Type 0 where
  -- the wall seconds of the years 0 to 5001
  pub years : (c : CivilDateTime) → IsInReach (wall_second c) → IsSome (m.zone.resolves c)
  -- the instants that read these
  pub year_instants : (i : ℤ) → IsInReach (m.zone.reads i) → m.zone.holds i ≡ true
  -- the wall seconds around the moment's reading
  pub near : (c : CivilDateTime) → IsNear (reading m) (wall_second c) → IsSome (m.zone.resolves c)
  -- and the instants around the moment
  pub near_instants : (i : ℤ) → IsNear m.instant i → m.zone.holds i ≡ true

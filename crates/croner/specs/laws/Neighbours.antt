-- What the items of an iterator are as values: whole seconds of its zone, and how each compares with the one before it.
use Rattle.std.specs.Prelude.{◌≡◌, ◌+◌, ◌-◌, ◌<◌, ℕ, List, length}
use Rattle.std.specs.List.{slice_index_or}
use Rattle.std.specs.Ordering.{int_cmp}
use Rattle.std.specs.declared.cmp.Ordering.{Ordering}
use Rattle.std.specs.declared.cmp.Ordering.TheVariants.{Less, Greater}
use Rattle.croner_base.specs.declared.time.Direction.{Direction}
use Rattle.croner_base.specs.declared.time.Direction.TheVariants.{Forward, Backward}
use Rattle.croner_base.specs.Zone.{Zone, Moment, nanos_of}

-- how an item compares with the one before it: later forward, earlier backward
abbrev pub onward : Direction → Ordering
onward Forward = Greater
onward Backward = Less

-- one order fewer than items, each that of an item and the one before it by their nanoseconds since the epoch
pub record AreCompared {T : Type 0} (moment : T → Moment) (items : List T) (orders : List Ordering) : Type 0 where
  pub counted : length orders ≡ length items - 1
  pub each : (k : ℕ) (d : T) (o : Ordering) → k < length orders
      → slice_index_or orders k o ≡ int_cmp (nanos_of (moment (slice_index_or items (k + 1) d))) (nanos_of (moment (slice_index_or items k d)))

-- a whole second of the zone
pub record IsWholeIn (z : Zone) (m : Moment) : Type 0 where
  pub zone : m.zone ≡ z
  pub whole : m.fraction ≡ 0

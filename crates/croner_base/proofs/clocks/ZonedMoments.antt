-- What jiff's zoned date-times do as moments.
use Rattle.std.proofs.Common.{◌≡◌, Bool, true, false, refl, sym, ap, ◌∙◌, arith, ℤ, pos, ◌+ℤ◌, ◌-ℤ◌, ◌*ℤ◌, ◌≤ℤ◌, int_eq, int_lt, unsigned_abs}
use Rattle.std.proofs.lemmas.Int.{ints}
use Rattle.std.specs.Int.{int_div_euclid, int_rem_euclid}
use Rattle.jiff_core.specs.DateTime.{civil_seconds, civil_nanos}
use Rattle.jiff_core.specs.Timestamp.{nanos_of_seconds, IsTimestampNanos}
use Rattle.jiff_core.specs.declared.offset.Offset.{Offset}
use Rattle.jiff_core.specs.declared.civil.datetime.DateTime.{DateTime}
use Rattle.jiff_core.proofs.SignedLemmas.{signed_arith}
use Rattle.jiff_core.proofs.DateTimeLemmas.{civil_nanos-civil_seconds}
use Rattle.jiff_tz.specs.Ambiguous.{instant_of}
use Rattle.jiff_tz.specs.Zone.{offset_at}
use Rattle.jiff_tz.specs.declared.timezone.TimeZone.{TimeZone}
use Rattle.jiff_zoned.specs.declared.zoned.Zoned.{Zoned}
use Rattle.croner_base.specs.Zone.{later, nanos_of, reading}
use Rattle.croner_base.proofs.tables.TableTests.{between_test, between_false}
use Rattle.croner_base.specs.ZonedZone.{zoned_moment, zoned_zone, zone_reads, is_timestamp_second, nearest_timestamp, first_timestamp, last_timestamp}

-- the reading of a moment
pub reading-zoned : (z : Zoned) → reading (zoned_moment z) ≡ zone_reads z.time_zone (int_div_euclid z.timestamp.nanosecond (pos 1_000_000_000))
unfolding zoned_zone
reading-zoned z = refl

-- an instant that jiff has is its own nearest
pub nearest_own : (i : ℤ) → first_timestamp ≤ℤ i → i ≤ℤ last_timestamp → nearest_timestamp i ≡ i
nearest_own i low high =
    let a : int_lt i first_timestamp ≡ false = grind (arith, ints) in
    let b : int_lt last_timestamp i ≡ false = grind (arith, ints) in
    rw (a, b)

-- there the clock reads by its own offset
pub zone_reads-held : (tz : TimeZone) (i : ℤ) → first_timestamp ≤ℤ i → i ≤ℤ last_timestamp → zone_reads tz i ≡ i +ℤ offset_at tz (nanos_of_seconds i)
zone_reads-held tz i low high = ap (λ (j : ℤ). i +ℤ offset_at tz (nanos_of_seconds j)) (nearest_own i low high)

-- a date-time that a zone shows at a whole second
pub shown_is : (tz : TimeZone) (dt : DateTime) (i n : ℤ) → n ≡ i *ℤ pos 1_000_000_000 → IsTimestampNanos n → civil_nanos dt ≡ n +ℤ nanos_of_seconds (offset_at tz n) → civil_seconds dt ≡ zone_reads tz i
shown_is tz dt i n e r h =
    let h2 : civil_nanos dt ≡ nanos_of_seconds i +ℤ nanos_of_seconds (offset_at tz (nanos_of_seconds i)) = rw e at h in
    let held = zone_reads-held tz i (omega (arith, signed_arith, e, r)) (omega (arith, signed_arith, e, r)) in
    omega (arith, signed_arith, civil_nanos-civil_seconds dt, dt.time.subsec_in, h2, held)

pub nanos_of-zoned : (z : Zoned) → nanos_of (zoned_moment z) ≡ z.timestamp.nanosecond
nanos_of-zoned z = omega (arith, signed_arith)

pub is_timestamp_second-true : (i : ℤ) → first_timestamp ≤ℤ i → i ≤ℤ last_timestamp → is_timestamp_second i ≡ true
is_timestamp_second-true i low high = between_test first_timestamp last_timestamp i low high

pub is_timestamp_second-false : (i : ℤ) → (first_timestamp ≤ℤ i → i ≤ℤ last_timestamp → ⊥) → is_timestamp_second i ≡ false
is_timestamp_second-false i h = between_false first_timestamp last_timestamp i h

-- elapsed seconds later
pub zoned_later : (a b : Zoned) (s n : ℤ) → n ≡ s *ℤ pos 1_000_000_000 → b.timestamp.nanosecond ≡ a.timestamp.nanosecond +ℤ n → b.time_zone ≡ a.time_zone
    → (zoned_moment b ≡ later (zoned_moment a) s) × ((zoned_zone a.time_zone).holds (int_div_euclid a.timestamp.nanosecond (pos 1_000_000_000) +ℤ s) ≡ true)
unfolding zoned_zone
zoned_later a b s n m h z =
    let second : int_div_euclid b.timestamp.nanosecond (pos 1_000_000_000) ≡ int_div_euclid a.timestamp.nanosecond (pos 1_000_000_000) +ℤ s = omega (arith, signed_arith) in
    let fraction : unsigned_abs (int_rem_euclid b.timestamp.nanosecond (pos 1_000_000_000)) ≡ unsigned_abs (int_rem_euclid a.timestamp.nanosecond (pos 1_000_000_000)) = omega (arith, signed_arith) in (
      rw (second, fraction, z),
      is_timestamp_second-true (int_div_euclid a.timestamp.nanosecond (pos 1_000_000_000) +ℤ s)
          (omega (arith, signed_arith, b.timestamp.in_range)) (omega (arith, signed_arith, b.timestamp.in_range)),
    )

pub zoned_past : (a : Zoned) (s n : ℤ) → n ≡ s *ℤ pos 1_000_000_000 → (IsTimestampNanos (a.timestamp.nanosecond +ℤ n) → ⊥)
    → (zoned_zone a.time_zone).holds (int_div_euclid a.timestamp.nanosecond (pos 1_000_000_000) +ℤ s) ≡ false
unfolding zoned_zone
zoned_past a s n m h =
    is_timestamp_second-false (int_div_euclid a.timestamp.nanosecond (pos 1_000_000_000) +ℤ s) (λ low high. h
    (omega (arith, signed_arith, m), omega (arith, signed_arith, m)))

-- a zoned date-time at one choice of offset, and whether it shows the second
pub record OffsetChoice (tz : TimeZone) (w : ℤ) (o : Offset) (z : Zoned) (b : Bool) : Type 0 where
  pub second : int_div_euclid z.timestamp.nanosecond (pos 1_000_000_000) ≡ w -ℤ o.seconds
  pub whole : unsigned_abs (int_rem_euclid z.timestamp.nanosecond (pos 1_000_000_000)) ≡ 0
  pub nanos : z.timestamp.nanosecond ≡ nanos_of_seconds (w -ℤ o.seconds)
  pub zone : z.time_zone ≡ tz
  pub test : int_eq (zone_reads tz (w -ℤ o.seconds)) w ≡ b

same_test : (x y r w : ℤ) → x ≡ r *ℤ pos 1_000_000_000 → y ≡ w *ℤ pos 1_000_000_000 → int_eq x y ≡ int_eq r w
same_test x y r w e f = grind (arith, ints, e, f)

pub offset_choice : (tz : TimeZone) (w : ℤ) (o : Offset) (z : Zoned) (dt : DateTime) (b : Bool) → civil_nanos dt ≡ w *ℤ pos 1_000_000_000 → z.timestamp.nanosecond ≡ instant_of dt o → z.time_zone ≡ tz → int_eq (civil_nanos z.datetime) (civil_nanos dt) ≡ b → OffsetChoice tz w o z b
offset_choice tz w o z dt b e h zone test =
    let at : z.timestamp.nanosecond ≡ nanos_of_seconds (w -ℤ o.seconds) = omega (arith, signed_arith, e, h) in
    let offset : z.offset.seconds ≡ offset_at tz (nanos_of_seconds (w -ℤ o.seconds)) = z.offset_is ∙ rw (at, zone) in
    let held = zone_reads-held tz (w -ℤ o.seconds) (omega (arith, signed_arith, at, z.timestamp.in_range)) (omega (arith, signed_arith, at, z.timestamp.in_range)) in
    let shows : civil_nanos z.datetime ≡ zone_reads tz (w -ℤ o.seconds) *ℤ pos 1_000_000_000 = omega (arith, signed_arith, z.shows, at, offset, held) in
    record {
      second = omega (arith, signed_arith, at);
      whole = omega (arith, signed_arith, at);
      nanos = at;
      zone = zone;
      test = sym (same_test (civil_nanos z.datetime) (civil_nanos dt) (zone_reads tz (w -ℤ o.seconds)) w shows e) ∙ test;
    }

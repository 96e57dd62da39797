-- Two clocks that show the same in a window have the same runs well in it, and so have listings over them.
use Rattle.std.proofs.Common.{◌≡◌, ◌∙◌, inl, inr, refl, sym, ap, subst, arith, Bool, false, ℕ, zero, suc, length, get_or, length-append, ℤ, pos, ◌+ℤ◌, ◌-ℤ◌, ◌<ℤ◌, ◌≤ℤ◌, int_lt, List, [], ◌∷◌, ◌++◌}
use Rattle.std.proofs.lemmas.Int.{ints, by_lt_z}
use Rattle.std.proofs.lemmas.List.{get_or-map, get_or_append_left, length-map, map-append}
use Rattle.std.proofs.lemmas.List.Elements.{All-weaker, All-contains, Contains-append_left, Contains-append_right, Contains-append_cases}
use Rattle.std.specs.List.{All, AllPairs, Contains}
use Rattle.jiff_core.specs.Timestamp.{IsOffsetSeconds, nanos_of_seconds}
use Rattle.jiff_core.proofs.SignedLemmas.{signed_arith}
use Rattle.jiff_tz.specs.PosixRule as Posix
use Rattle.jiff_tz.specs.Tzif as Table
use Rattle.jiff_tz.specs.Zone.{offset_at}
use Rattle.jiff_tz.specs.declared.timezone.TimeZone.{TimeZone}
use Rattle.jiff_tz.specs.declared.timezone.TimeZone.TheVariants.{UTC, Unknown, Fixed, Posix as OfRule, Tzif as OfTable}
use Rattle.croner_base.specs.declared.time.table.ClockTable.{ClockTable}
use Rattle.croner_base.specs.Table.{offset_limit}
use Rattle.croner_base.specs.TableZone.{clock, table_zone}
use Rattle.croner_base.specs.Zone.{Zone, Moment}
use Rattle.croner_base.specs.ZonedZone.{zoned_zone, nearest_timestamp}
use Rattle.croner_base.specs.ZoneTable.{ahead_at, nearest_in}
use Rattle.croner_base.proofs.tables.TableOffsets.{calm_offset}
use Rattle.croner_base.proofs.tables.TableTests.{lt_test}
use Rattle.croner_base.proofs.clocks.ZonedMoments.{zone_reads-held}
use Rattle.croner.specs.crontable.TableItems.{BeginsTableRest, item_instants}
use Rattle.croner.specs.crontable.TableListing.{TableStanding, IsLeftAt, IsTableLeft, counts_table_position}
use Rattle.croner.specs.crontable.Tables.{ArePlaces}
use Rattle.croner.specs.iterator.Listing.{BeginsWhere, Standing, IsLeft, counts_position}
use Rattle.croner.specs.laws.Zones.{day_margin, IsWellIn, IsClockOf, IsOnClockOf, in_zone, table_in_zone}
use Rattle.croner.specs.search.Limit.{InSpan}
use Rattle.croner.specs.search.PatternJob.{timetable_of}
use Rattle.croner.specs.search.Runs.{Timetable, job_in, OwnRun, CarriedRun, Run, Counts, NearestWhere}
use Rattle.croner.proofs.zone.Ahead.{Direction, Forward, Backward, Precedes, Reaches, either}
use Rattle.croner.proofs.zone.Walks.{counts_reaches}

module _ (tz : TimeZone) (first last : ℤ) where
  -- well in a window is two days after its first second, or more
  two_days_in : (i : ℤ) → IsWellIn tz first last i → (first +ℤ pos day_margin) ≤ℤ i
  two_days_in i (inl far, high) = omega (arith, signed_arith, far)
  two_days_in i (inr far, high) = far.1

  -- and so is what comes after it in the window
  later_well : (i j : ℤ) → IsWellIn tz first last i → i ≤ℤ j → j ≤ℤ last → IsWellIn tz first last j
  later_well i j (inl far, high) order within = (inl (omega (arith, signed_arith, far, order)), within)
  later_well i j (inr far, high) order within = (inr (far.0, omega (arith, signed_arith, far.1, order)), within)

  -- an instant between two that are well in the window is well in it
  between : (direction : Direction) (s i item : ℤ) → IsWellIn tz first last s → IsWellIn tz first last item → Reaches direction s i → Reaches direction i item
      → IsWellIn tz first last i
  between Forward s i item hs hx from to = later_well s i hs from (omega (arith, signed_arith, hx.1, to))
  between Backward s i item hs hx from to = later_well item i hx (omega (arith, signed_arith, to)) (omega (arith, signed_arith, hs.1, from))

  -- two clocks that show the same in a window, and before it less than well in it
  pub record Alike (z t : Zone) : Type 0 where
    pub same : (i : ℤ) → first ≤ℤ i → i ≤ℤ last → z.reads i ≡ t.reads i
    pub below : (i k : ℤ) → i <ℤ first → IsWellIn tz first last k → (z.reads i <ℤ z.reads k) × (t.reads i <ℤ t.reads k)

  alike_back : (z t : Zone) → Alike z t → Alike t z
  alike_back z t h = record { same = λ i low high. sym (h.same i low high); below = λ i k early inside. let b = h.below i k early inside in (b.1, b.0) }

  module _ (z t : Zone) (timetable : Timetable) (a : Alike z t) where
    own_run : (i : ℤ) → IsWellIn tz first last i → OwnRun (job_in t timetable) i → OwnRun (job_in z timetable) i
    own_run i inside h =
        let far = two_days_in i inside in
        let here = a.same i (omega (arith, signed_arith, far)) inside.1 in (
          subst timetable.scheduled (sym here) h.0,
          λ fixed j lt e. by_lt_z j first
              (λ early. let b = a.below j i early inside in absurd (omega (arith, signed_arith, b.0, e)))
              (λ from. h.1 fixed j lt (sym (a.same j from (omega (arith, signed_arith, lt, inside.1))) ∙ e ∙ here)),
        )

    run : (i : ℤ) → IsWellIn tz first last i → Run (job_in t timetable) i → Run (job_in z timetable) i
    run i inside (inl h) = inl (own_run i inside h)
    run i inside (inr h) =
        let far = two_days_in i inside in
        let here = a.same i (omega (arith, signed_arith, far)) inside.1 in
        let before = a.same (i -ℤ pos 1) (omega (arith, signed_arith, far)) (omega (arith, signed_arith, inside.1)) in
        let carried : CarriedRun (job_in z timetable) i = rw (here, before) h in
        inr carried

    counts : (direction : Direction) (inclusive : Bool) (s i : ℤ) → IsWellIn tz first last s → IsWellIn tz first last i
        → Counts direction inclusive (job_in t timetable) s i → Counts direction inclusive (job_in z timetable) s i
    counts direction inclusive s i hs hi (inl h) = inl (h.0, run i hi h.1)
    counts Forward inclusive s i hs hi (inr h) = inr (h.0, h.1, own_run s hs h.2)
    counts Backward inclusive s i hs hi (inr h) = inr (h.0, h.1, run s hs h.2)

  -- well in a window the same instants count, and from the start on
  pub record SameWell (direction : Direction) (s : ℤ) (own other : ℤ → Type 0) : Type 0 where
    pub start : IsWellIn tz first last s
    pub to : (i : ℤ) → IsWellIn tz first last i → own i → other i
    pub back : (i : ℤ) → IsWellIn tz first last i → other i → own i
    pub from : (i : ℤ) → other i → Reaches direction s i

  pub same_counts : (direction : Direction) (inclusive : Bool) (z t : Zone) (timetable : Timetable) (s : ℤ) → Alike z t → IsWellIn tz first last s
      → SameWell direction s (Counts direction inclusive (job_in t timetable) s) (Counts direction inclusive (job_in z timetable) s)
  same_counts direction inclusive z t timetable s a hs = record {
    start = hs;
    to = λ i hi c. counts z t timetable a direction inclusive s i hs hi c;
    back = λ i hi c. counts t z timetable (alike_back z t a) direction inclusive s i hs hi c;
    from = λ i c. counts_reaches direction inclusive (job_in z timetable) s i c;
  }

  pub nearest_well : (direction : Direction) (s r : ℤ) (own other : ℤ → Type 0) → SameWell direction s own other → IsWellIn tz first last r
      → NearestWhere direction own r → NearestWhere direction other r
  nearest_well direction s r own other h hr n = record {
    counts = h.to r hr n.counts;
    nearest = λ j c. elim (either direction j r) [
      | inr on ↦ on
      | inl before ↦ n.nearest j (h.back j (between direction s j r h.start hr (h.from j c) (omega (arith, ints))) c)
    ];
  }

  -- outside the window the clock of a table goes on from what it shows at the ends
  pub record GoesOn (t : Zone) : Type 0 where
    pub before : (i : ℤ) → i <ℤ first → t.reads i ≤ℤ t.reads first
    pub later : (i : ℤ) → last <ℤ i → t.reads last ≤ℤ t.reads i

  pub span : (direction : Direction) (z t : Zone) (i : ℤ) → Alike z t → GoesOn t → IsWellIn tz first last i → InSpan direction z.reads i → InSpan direction t.reads i
  span Forward z t i a g inside h =
      let low = two_days_in i inside in
      λ j le. by_lt_z j first
      (λ early.
      let shown = a.same first (omega (arith, ints)) (omega (arith, ints, inside.1)) in
      omega (arith, ints, h first (omega (arith, ints)), shown, g.before j early))
      (λ from. omega (arith, ints, h j le, a.same j from (omega (arith, ints, inside.1))))
  span Backward z t i a g inside h =
      let low = two_days_in i inside in
      λ j le. by_lt_z last j
      (λ late.
      let shown = a.same last (omega (arith, ints, inside.1)) (omega (arith, ints)) in
      omega (arith, ints, h last (omega (arith, ints, inside.1)), shown, g.later j late))
      (λ to. omega (arith, ints, h j le, a.same j (omega (arith, ints)) to))

-- every offset of jiff is less than 26 hours
offset_bound : (tz : TimeZone) (n : ℤ) → IsOffsetSeconds (offset_at tz n)
unfolding offset_at
offset_bound UTC n = (omega (arith, signed_arith), omega (arith, signed_arith))
offset_bound Unknown n = (omega (arith, signed_arith), omega (arith, signed_arith))
offset_bound (Fixed offset) n = offset.in_range
offset_bound (OfRule tz) n = (Posix.offset_at tz n).in_range
offset_bound (OfTable z) n = (Table.offset_at z.now n).in_range

int_lt-false : (a b : ℤ) → b ≤ℤ a → int_lt a b ≡ false
int_lt-false a b h = grind (arith, ints)

own_nearest : (first last i : ℤ) → first ≤ℤ i → i ≤ℤ last → nearest_in first last i ≡ i
own_nearest first last i low high = rw (int_lt-false i first low, int_lt-false last i high) refl

-- a table's own offsets are at most a day
table_bound : (table : ClockTable) (i : ℤ) → ((i -ℤ pos offset_limit) ≤ℤ (table_zone table).reads i) × ((table_zone table).reads i ≤ℤ (i +ℤ pos offset_limit))
unfolding clock
table_bound table i =
    let o = calm_offset table.first_offset table.changes.items i table.calm in
    (omega (arith, signed_arith, o), omega (arith, signed_arith, o))

-- before a window the zone shows less than a day before what is well in it
earlier_reading : (tz : TimeZone) (first last i k : ℤ) → i <ℤ first → IsWellIn tz first last k → (zoned_zone tz).reads i <ℤ (k -ℤ pos offset_limit)
unfolding zoned_zone
earlier_reading tz first last i k early (inl far, high) = omega (arith, signed_arith, offset_bound tz (nanos_of_seconds (nearest_timestamp i)), early, far)
earlier_reading tz first last i k early (inr far, high) =
    let o : offset_at tz (nanos_of_seconds (nearest_timestamp i)) ≤ℤ pos 86_400 = far.0 (nearest_timestamp i) in
    omega (arith, signed_arith, o, early, far.1)

-- what the clock of a window shows, by the second of the window that is nearest
shows_by : (tz : TimeZone) (first last i n : ℤ) (t : Zone) → IsClockOf tz first last t → nearest_in first last i ≡ n → t.reads i ≡ i +ℤ ahead_at tz n
shows_by tz first last i n t c e = c.shows i ∙ ap (λ (j : ℤ). i +ℤ ahead_at tz j) e

zone_reading : (tz : TimeZone) (first last i : ℤ) (t : Zone) → IsClockOf tz first last t → first ≤ℤ i → i ≤ℤ last → (zoned_zone tz).reads i ≡ t.reads i
unfolding zoned_zone
zone_reading tz first last i t c low high =
    let held = zone_reads-held tz i (omega (arith, signed_arith, c.window.held_first, low)) (omega (arith, signed_arith, c.window.held_last, high)) in
    held ∙ sym (shows_by tz first last i i t c (own_nearest first last i low high))

-- the clock of a window and its zone
pub alike : (tz : TimeZone) (first last : ℤ) (table : ClockTable) → IsClockOf tz first last (table_zone table) → Alike tz first last (zoned_zone tz) (table_zone table)
alike tz first last table c = record {
  same = λ i low high. zone_reading tz first last i (table_zone table) c low high;
  below = λ i k early inside.
      let far = two_days_in tz first last k inside in
      let here = zone_reading tz first last k (table_zone table) c (omega (arith, signed_arith, far)) inside.1 in
      let low = table_bound table k in
      let high = table_bound table i in
      let other = earlier_reading tz first last i k early inside in
      (omega (arith, signed_arith, here, low, other), omega (arith, signed_arith, low, high, early, far));
}

pub goes_on : (tz : TimeZone) (first last : ℤ) (t : Zone) → IsClockOf tz first last t → GoesOn tz first last t
goes_on tz first last t c = record {
  before = λ i early.
      let is = shows_by tz first last i first t c (rw (lt_test i first early) refl) in
      let at = shows_by tz first last first first t c (own_nearest first last first (omega (arith, signed_arith)) c.window.order) in
      omega (arith, signed_arith, is, at, early);
  later = λ i late.
      let a = int_lt-false i first (omega (arith, signed_arith, late, c.window.order)) in
      let is = shows_by tz first last i last t c (rw (a, lt_test last i late) refl) in
      let at = shows_by tz first last last last t c (own_nearest first last last c.window.order (omega (arith, signed_arith))) in
      omega (arith, signed_arith, is, at, late);
}

-- ---- listings

module _ (tz : TimeZone) (first last : ℤ) (table : ClockTable) where
  -- the clock that a moment lies on and its zone show the same
  on_clock : (m : Moment) → IsOnClockOf tz first last (table_zone table) m → Alike tz first last (zoned_zone tz) m.zone
  on_clock m h = subst (λ (z : Zone). Alike tz first last (zoned_zone tz) z) (sym h.zone_is) (alike tz first last table h.clock)

  -- the span of the zone well in the window is the clock's
  pub span_well : (m : Moment) (direction : Direction) (i : ℤ) → IsOnClockOf tz first last (table_zone table) m → IsWellIn tz first last i
      → InSpan direction (zoned_zone tz).reads i → InSpan direction m.zone.reads i
  span_well m direction i h hi inside =
      let goes = subst (λ (z : Zone). GoesOn tz first last z) (sym h.zone_is) (goes_on tz first last (table_zone table) h.clock) in
      span tz first last direction (zoned_zone tz) m.zone i (on_clock m h) goes hi inside

  pub same_left : (s : Standing) → IsOnClockOf tz first last (table_zone table) s.position
      → SameWell tz first last s.direction s.position.instant (IsLeft s) (IsLeft (in_zone (zoned_zone tz) s))
  same_left s h =
      same_counts tz first last s.direction (counts_position s) (zoned_zone tz) s.position.zone (timetable_of s.pattern) s.position.instant (on_clock s.position h) h.well_in

  -- at each place of a table of patterns
  pub same_left_at : (s : TableStanding) (k : ℕ) → IsOnClockOf tz first last (table_zone table) s.position
      → SameWell tz first last s.direction s.position.instant (IsLeftAt s k) (IsLeftAt (table_in_zone (zoned_zone tz) s) k)
  same_left_at s k h =
      let same = λ (asked : Timetable).
      same_counts tz first last s.direction (counts_table_position s) (zoned_zone tz) s.position.zone asked s.position.instant (on_clock s.position h) h.well_in in
      record {
        start = h.well_in;
        to = λ i hi c. record { pattern = c.pattern; stands = c.stands; counts = (same (timetable_of c.pattern)).to i hi c.counts };
        back = λ i hi c. record { pattern = c.pattern; stands = c.stands; counts = (same (timetable_of c.pattern)).back i hi c.counts };
        from = λ i c. (same (timetable_of c.pattern)).from i c.counts;
      }

  pub same_table_left : (s : TableStanding) → IsOnClockOf tz first last (table_zone table) s.position
      → SameWell tz first last s.direction s.position.instant (IsTableLeft s) (IsTableLeft (table_in_zone (zoned_zone tz) s))
  same_table_left s h = record {
    start = h.well_in;
    to = λ i hi c. (c.0, (same_left_at s c.0 h).to i hi c.1);
    back = λ i hi c. (c.0, (same_left_at s c.0 h).back i hi c.1);
    from = λ i c. (same_left_at s c.0 h).from i c.1;
  }

-- what comes first of a list that goes strictly on precedes the rest
before_more : (R : ℤ → ℤ → Type 0) (items more : List ℤ) (item i : ℤ) → AllPairs R (items ++ more) → Contains items item → Contains more i → R item i
before_more R [] more item i ordered has later = absurd (omega (arith, has.1))
before_more R (x ∷ xs) more item i ordered (zero, lt, e) later =
    let all : All (R x) (xs ++ more) = λ k d within. ordered 0 (suc k) d (omega arith) (omega (arith, within)) in
    subst (λ (y : ℤ). R y i) e (All-contains (R x) (xs ++ more) i all (Contains-append_right xs more i later))
before_more R (x ∷ xs) more item i ordered (suc k, lt, e) later =
    before_more R xs more item i (λ a b d before within. ordered (suc a) (suc b) d (omega (arith, before)) (omega (arith, within))) (k, omega (arith, lt), e) later

-- the pairs of what comes first
first_pairs : (R : ℤ → ℤ → Type 0) (items more : List ℤ) → AllPairs R (items ++ more) → AllPairs R items
first_pairs R items more ordered = λ a b d before within.
    let longer = length-append items more in
    let one = get_or_append_left items more d a (omega (arith, before, within)) in
    let two = get_or_append_left items more d b within in
    subst (λ (y : ℤ). R (get_or items a d) y) two (subst (λ (x : ℤ). R x (get_or (items ++ more) b d)) one (ordered a b d before (omega (arith, within, longer))))

first_all : {X : Type 0} (P : X → Type 0) (items more : List X) → All P (items ++ more) → All P items
first_all P items more h = λ k d within.
    let longer = length-append items more in subst P (get_or_append_left items more d k within) (h k d (omega (arith, within)))

pub begins_well : (tz : TimeZone) (first last : ℤ) (direction : Direction) (s : ℤ) (own other : ℤ → Type 0) (items more : List ℤ) → SameWell tz first last direction s own other
    → BeginsWhere direction own (items ++ more) → All (IsWellIn tz first last) items → BeginsWhere direction other items
begins_well tz first last direction s own other items more h n well = record {
  ordered = first_pairs (Precedes direction) items more n.ordered;
  counts = λ k d within. h.to (get_or items k d) (well k d within) (first_all own items more n.counts k d within);
  complete = λ i item o has reaches.
      let inside = between tz first last direction s i item h.start (All-contains (IsWellIn tz first last) items item well has) (h.from i o) reaches in
      elim (Contains-append_cases items more i (n.complete i item (h.back i inside o) (Contains-append_left items more item has) reaches)) [
        | inl had ↦ had
        | inr later ↦ absurd (omega (arith, ints, before_more (Precedes direction) items more item i n.ordered has later))
      ];
}

-- ---- places

places_well : (own other : ℕ → Type 0) (places : List ℕ) → ((k : ℕ) → own k → other k) → ((k : ℕ) → other k → own k) → ArePlaces own places → ArePlaces other places
places_well own other places to back h = record {
  ordered = h.ordered;
  count = All-weaker own other to places h.count;
  complete = λ k c. h.complete k (back k c);
}

pub begins_table_well : (tz : TimeZone) (first last : ℤ) (table : ClockTable) (s : TableStanding) (items more : List (ℤ × List ℕ))
    → IsOnClockOf tz first last (table_zone table) s.position → BeginsTableRest s (items ++ more) → All (IsWellIn tz first last) (item_instants items)
    → BeginsTableRest (table_in_zone (zoned_zone tz) s) items
begins_table_well tz first last table s items more h n well =
    let z = zoned_zone tz in
    record {
      runs = begins_well tz first last s.direction s.position.instant (IsTableLeft s) (IsTableLeft (table_in_zone z s)) (item_instants items) (item_instants more)
          (same_table_left tz first last table s h) (subst (BeginsWhere s.direction (IsTableLeft s)) (map-append (λ (item : ℤ × List ℕ). item.0) items more) n.runs) well;
      places = λ k d within.
          let item = get_or items k d in
          let instants = item_instants items in
          let same : length instants ≡ length items = length-map items (λ (x : ℤ × List ℕ). x.0) in
          let at = get_or-map (λ (x : ℤ × List ℕ). x.0) items k d item.0 within in
          let inside = subst (IsWellIn tz first last) at (well k item.0 (omega (arith, within, same))) in
          places_well (λ p. IsLeftAt s p item.0) (λ p. IsLeftAt (table_in_zone z s) p item.0) item.1
          (λ p c. (same_left_at tz first last table s p h).to item.0 inside c)
          (λ p c. (same_left_at tz first last table s p h).back item.0 inside c)
          (first_all (λ x. ArePlaces (λ p. IsLeftAt s p x.0) x.1) items more n.places k d within);
    }

-- What a zone of jiff resolves a civil second to.
use Rattle.std.proofs.Common.{◌≡◌, inl, inr, Bool, true, false, refl, ap, ◌∙◌, arith, ℤ, pos, neg_ℤ, ◌-ℤ◌, ◌*ℤ◌, ◌<ℤ◌, ◌≤ℤ◌, Some, None, if◌then◌else◌, int_eq, int_lt}
use Rattle.std.proofs.lemmas.Int.{ints}
use Rattle.jiff_core.specs.DateTime.{civil_seconds, civil_nanos}
use Rattle.jiff_core.specs.declared.offset.Offset.{Offset}
use Rattle.jiff_core.specs.declared.civil.datetime.DateTime.{DateTime}
use Rattle.jiff_core.proofs.SignedLemmas.{signed_arith}
use Rattle.jiff_core.proofs.DateTimeLemmas.{civil_nanos-civil_seconds}
use Rattle.jiff_core.specs.Timestamp.{IsTimestampNanos}
use Rattle.croner_base.specs.Limits.{year_limit}
use Rattle.croner_base.specs.CivilZone.{IsWhole}
use Rattle.jiff_tz.specs.Ambiguous.{instant_of, earlier_offset, later_offset}
use Rattle.jiff_tz.specs.Zone.{ambiguous_at}
use Rattle.jiff_tz.specs.declared.ambiguous.AmbiguousOffset.{AmbiguousOffset}
use Rattle.jiff_tz.specs.declared.timezone.TimeZone.{TimeZone}
use Rattle.jiff_zoned.proofs.SameLemmas.{same_datetime}
use Rattle.jiff.specs.ZonedView.{plain_zoned, zoned_nanos}
use Rattle.jiff.specs.declared.zoned.Zoned.{Zoned}
use Rattle.croner_base.specs.declared.errors.CronError.TheVariants.{InvalidDate}
use Rattle.croner_base.specs.declared.time.civil.CivilDateTime.{CivilDateTime}
use Rattle.croner_base.specs.declared.time.value.Resolution.TheVariants.{Single, Ambiguous}
use Rattle.croner_base.specs.Civil.{wall_second}
use Rattle.croner_base.specs.Zone.{Names, IsUnheld, IsResolved}
use Rattle.croner_base.specs.ZonedZone.{zoned_zone, zone_reads, is_near_year, jiff_datetime, pick, pick_offsets, resolve_by}
use Rattle.croner_base.specs.ZonedValue.{value_moment, chosen}
use Rattle.croner_base.proofs.calendar.JiffSeconds.{wall_second-civil_seconds, near_second}
use Rattle.croner_base.proofs.tables.TableTests.{between_test}
use Rattle.croner_base.proofs.clocks.ZonedMoments.{OffsetChoice, offset_choice}

pub is_near_year-true : (y : ℤ) → neg_ℤ (pos year_limit) ≤ℤ y → y ≤ℤ pos year_limit → is_near_year y ≡ true
is_near_year-true y low high = between_test (neg_ℤ (pos year_limit)) (pos year_limit) y low high

pub is_near_year-low : (y : ℤ) → y <ℤ neg_ℤ (pos year_limit) → is_near_year y ≡ false
is_near_year-low y low = grind (arith, ints)

pub is_near_year-high : (y : ℤ) → pos year_limit <ℤ y → is_near_year y ≡ false
is_near_year-high y high = grind (arith, ints)

resolve_near : (tz : TimeZone) (c : CivilDateTime) (dt : DateTime) → civil_nanos dt ≡ wall_second c *ℤ pos 1_000_000_000 → (b : Bool) (e : is_near_year c.date.year ≡ b) → b ≡ true → resolve_by tz c b e ≡ Some (pick_offsets tz (wall_second c) (ambiguous_at tz dt))
resolve_near tz c dt h true e is =
    let own = civil_nanos-civil_seconds (jiff_datetime c e) in
    let second : wall_second c ≡ civil_seconds (jiff_datetime c e) = wall_second-civil_seconds c (jiff_datetime c e) (record { year = refl; month = refl; day = refl; hour = refl; minute = refl; second = refl }) in
    let nanos : civil_nanos (jiff_datetime c e) ≡ civil_nanos dt = omega (arith, signed_arith, own, second, h) in
    let same : jiff_datetime c e ≡ dt = same_datetime _ _ nanos in
    ap (λ (d : DateTime). Some (pick_offsets tz (wall_second c) (ambiguous_at tz d))) same
resolve_near tz c dt h false e is = absurd (cc)

pub resolves_near : (tz : TimeZone) (c : CivilDateTime) (dt : DateTime) → is_near_year c.date.year ≡ true → civil_nanos dt ≡ wall_second c *ℤ pos 1_000_000_000 → (zoned_zone tz).resolves c ≡ Some (pick_offsets tz (wall_second c) (ambiguous_at tz dt))
unfolding zoned_zone
resolves_near tz c dt h e = resolve_near tz c dt e _ refl h

resolve_far : (tz : TimeZone) (c : CivilDateTime) (b : Bool) (e : is_near_year c.date.year ≡ b) → b ≡ false → resolve_by tz c b e ≡ None
resolve_far tz c true e is = absurd (cc)
resolve_far tz c false e is = refl

pub unheld_far : (tz : TimeZone) (c : CivilDateTime) → is_near_year c.date.year ≡ false → IsUnheld false (zoned_zone tz) c InvalidDate
unfolding zoned_zone
unheld_far tz c h = inr (inl refl, resolve_far tz c _ refl h)

-- what two sides come to
pub names_choice : (tz : TimeZone) (w : ℤ) (o : Offset) (z : Zoned) → OffsetChoice tz w o (plain_zoned z) true → Names value_moment (zoned_zone tz) w z
unfolding zoned_zone
names_choice tz w o z s =
    let reads : zone_reads tz (w -ℤ o.seconds) ≡ w = grind (arith, ints, s.test) in
    record { zone_is = ap zoned_zone s.zone; whole = s.whole; reads_it = rw s.second reads }

-- the facts of one call: the two values at the two choices of offset
pub record OffsetChoices (tz : TimeZone) (c : CivilDateTime) (dt : DateTime) (e l : Zoned) (b₁ b₂ : Bool) : Type 0 where
  pub near : is_near_year c.date.year ≡ true
  pub nanos : civil_nanos dt ≡ wall_second c *ℤ pos 1_000_000_000
  pub earlier : OffsetChoice tz (wall_second c) (earlier_offset (ambiguous_at tz dt)) (plain_zoned e) b₁
  pub later : OffsetChoice tz (wall_second c) (later_offset (ambiguous_at tz dt)) (plain_zoned l) b₂

picked : (tz : TimeZone) (c : CivilDateTime) (dt : DateTime) (e l : Zoned) (b₁ b₂ : Bool) → OffsetChoices tz c dt e l b₁ b₂ → (zoned_zone tz).resolves c ≡ Some (pick b₁ b₂ (value_moment e).instant (value_moment l).instant)
picked tz c dt e l b₁ b₂ s = resolves_near tz c dt s.near s.nanos ∙ rw (s.earlier.test, s.later.test, s.earlier.second, s.later.second)

lt_of : (a b : ℤ) → int_lt a b ≡ true → a <ℤ b
lt_of a b h = grind (arith, ints, h)

le_of : (a b : ℤ) → int_lt a b ≡ false → b ≤ℤ a
le_of a b h = grind (arith, ints, h)

pick_less : (a b : ℤ) → a <ℤ b → pick true true a b ≡ Ambiguous a b
pick_less a b h = let t : int_lt a b ≡ true = grind (arith, ints) in rw t

pick_greater : (a b : ℤ) → b <ℤ a → pick true true a b ≡ Ambiguous b a
pick_greater a b h = let t : int_lt a b ≡ false = grind (arith, ints) in let u : int_lt b a ≡ true = grind (arith, ints) in rw (t, u)

pick_equal : (a b : ℤ) → a ≡ b → pick true true a b ≡ Single a
pick_equal a b h = let t : int_lt a b ≡ false = grind (arith, ints) in let u : int_lt b a ≡ false = grind (arith, ints) in rw (t, u)

in_order : (tz : TimeZone) (c : CivilDateTime) (dt : DateTime) (e l : Zoned) → OffsetChoices tz c dt e l true true → (p q : Bool) → int_lt (zoned_nanos e) (zoned_nanos l) ≡ p → int_lt (zoned_nanos l) (zoned_nanos e) ≡ q → IsResolved value_moment (zoned_zone tz) c (if p then Ambiguous e l else (if q then Ambiguous l e else Single e))
in_order tz c dt e l s true q h k =
    let before : (value_moment e).instant <ℤ (value_moment l).instant = omega (arith, signed_arith, s.earlier.nanos, s.later.nanos, s.earlier.second, s.later.second, lt_of (zoned_nanos e) (zoned_nanos l) h) in
    (names_choice tz _ _ e s.earlier, names_choice tz _ _ l s.later, before, picked tz c dt e l true true s ∙ ap Some (pick_less _ _ before))
in_order tz c dt e l s false true h k =
    let before : (value_moment l).instant <ℤ (value_moment e).instant = omega (arith, signed_arith, s.earlier.nanos, s.later.nanos, s.earlier.second, s.later.second, lt_of (zoned_nanos l) (zoned_nanos e) k) in
    (names_choice tz _ _ l s.later, names_choice tz _ _ e s.earlier, before, picked tz c dt e l true true s ∙ ap Some (pick_greater _ _ before))
in_order tz c dt e l s false false h k =
    let same : (value_moment e).instant ≡ (value_moment l).instant = omega (arith, signed_arith, s.earlier.nanos, s.later.nanos, s.earlier.second, s.later.second, le_of (zoned_nanos e) (zoned_nanos l) h, le_of (zoned_nanos l) (zoned_nanos e) k) in
    (names_choice tz _ _ e s.earlier, picked tz c dt e l true true s ∙ ap Some (pick_equal _ _ same))

-- what is chosen of two is what the zone resolves the second to
pub chosen_resolved : (tz : TimeZone) (c : CivilDateTime) (dt : DateTime) (e l : Zoned) (b₁ b₂ : Bool) → OffsetChoices tz c dt e l b₁ b₂ → IsResolved value_moment (zoned_zone tz) c (chosen b₁ b₂ e l)
chosen_resolved tz c dt e l true true s = in_order tz c dt e l s _ _ refl refl
chosen_resolved tz c dt e l true false s = (names_choice tz _ _ e s.earlier, picked tz c dt e l true false s)
chosen_resolved tz c dt e l false true s = (names_choice tz _ _ l s.later, picked tz c dt e l false true s)
chosen_resolved tz c dt e l false false s = picked tz c dt e l false false s

-- each offset gives an instant near these years
pub near_timestamp : (c : CivilDateTime) (dt : DateTime) (o : Offset) → neg_ℤ (pos year_limit) ≤ℤ c.date.year → c.date.year ≤ℤ pos year_limit → civil_nanos dt ≡ wall_second c *ℤ pos 1_000_000_000 → IsTimestampNanos (instant_of dt o)
near_timestamp c dt o low high e =
    let b = near_second c low high in
    (omega (arith, signed_arith, b, e, o.in_range), omega (arith, signed_arith, b, e, o.in_range))

pub whole_nanos : (w : ℤ) (dt : DateTime) → IsWhole w dt → civil_nanos dt ≡ w *ℤ pos 1_000_000_000
whole_nanos w dt h = omega (arith, signed_arith, civil_nanos-civil_seconds dt, h.second_is, h.whole)

-- from what the calls said
pub offset_choices : (tz tz₁ : TimeZone) (c : CivilDateTime) (dt d₁ : DateTime) (offsets : AmbiguousOffset) (zone₁ : TimeZone) (e l : Zoned) (b₁ b₂ : Bool)
    → tz₁ ≡ tz → d₁ ≡ dt → offsets ≡ ambiguous_at tz₁ dt → zone₁ ≡ tz₁
    → neg_ℤ (pos year_limit) ≤ℤ c.date.year → c.date.year ≤ℤ pos year_limit → IsWhole (wall_second c) dt
    → (plain_zoned e).timestamp.nanosecond ≡ instant_of d₁ (earlier_offset offsets) → (plain_zoned e).time_zone ≡ zone₁
    → (plain_zoned l).timestamp.nanosecond ≡ instant_of d₁ (later_offset offsets) → (plain_zoned l).time_zone ≡ zone₁
    → int_eq (civil_nanos (plain_zoned e).datetime) (civil_nanos dt) ≡ b₁ → int_eq (civil_nanos (plain_zoned l).datetime) (civil_nanos dt) ≡ b₂
    → OffsetChoices tz c dt e l b₁ b₂
offset_choices tz tz₁ c dt d₁ offsets zone₁ e l b₁ b₂ p q r s low high w te ze tl zl xe xl =
    let o : offsets ≡ ambiguous_at tz dt = r ∙ ap (λ (z : TimeZone). ambiguous_at z dt) p in
    let n = whole_nanos (wall_second c) dt w in
    record {
      near = is_near_year-true c.date.year low high;
      nanos = n;
      earlier = offset_choice tz (wall_second c) _ (plain_zoned e) dt b₁ n (te ∙ rw (q, o)) (ze ∙ s ∙ p) xe;
      later = offset_choice tz (wall_second c) _ (plain_zoned l) dt b₂ n (tl ∙ rw (q, o)) (zl ∙ s ∙ p) xl;
    }

pub false_is_not_true : false ≡ true → ⊥
false_is_not_true h = cc

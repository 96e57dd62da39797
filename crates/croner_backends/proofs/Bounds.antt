-- Beyond the instants of a table the clock shows no second of the years that it holds.
use Rattle.std.proofs.Common.{◌≡◌, ◌∙◌, sym, refl, arith, Bool, true, false, ◌==◌, ℤ, pos, ◌+ℤ◌, ◌-ℤ◌, ◌<ℤ◌, ◌≤ℤ◌, int_lt}
use Rattle.std.proofs.lemmas.Int.{ints, by_lt_z}
use Rattle.std.specs.Ordering.{int_cmp, ordering_index}
use Rattle.std.specs.declared.cmp.Ordering.{Ordering}
use Rattle.std.specs.declared.cmp.Ordering.TheVariants.{Less, Equal, Greater}
use Rattle.croner_base.specs.declared.time.civil.CivilDateTime.{CivilDateTime}
use Rattle.croner_base.specs.declared.time.table.ClockTable.{ClockTable}
use Rattle.croner_base.specs.declared.time.table.TableTime.{TableTime}
use Rattle.croner_base.specs.Civil.{wall_second}
use Rattle.croner_base.specs.Table.{first_instant, last_instant, offset_limit, is_table_second}
use Rattle.croner_base.specs.TableZone.{clock, table_zone}
use Rattle.croner_base.specs.ZonedZone.{is_near_year}
use Rattle.croner_base.proofs.calendar.JiffSeconds.{first_near, last_near, near_second}
use Rattle.croner_base.proofs.tables.TableTests.{both_parts, le_of, instant_bounds, instant_test}
use Rattle.croner_base.proofs.tables.TableOffsets.{calm_offset}

pub less_of : (a b : ℤ) → a <ℤ b → int_cmp a b ≡ Less
less_of a b h = grind (arith, ints)

pub greater_of : (a b : ℤ) → b <ℤ a → int_cmp a b ≡ Greater
greater_of a b h = grind (arith, ints)

pub is_less : (a b : ℤ) → int_cmp a b ≡ Less → int_lt a b ≡ true
is_less a b h = grind (arith, ints)

lt_false : (a b : ℤ) → b ≤ℤ a → int_lt a b ≡ false
lt_false a b h = grind (arith, ints)

pub is_greater : (a b : ℤ) → int_cmp a b ≡ Greater → int_lt b a ≡ true
is_greater a b h = grind (arith, ints)

not_greater : (a b : ℤ) → (int_cmp a b ≡ Greater → ⊥) → int_lt b a ≡ false
not_greater a b h = by_lt_z b a (λ lt. absurd (h (greater_of a b lt))) (λ ge. lt_false b a ge)

near_bounds : (c : CivilDateTime) → is_near_year c.date.year ≡ true → (first_near ≤ℤ wall_second c) × (wall_second c ≤ℤ last_near)
near_bounds c h = let p = both_parts _ _ h in near_second c (le_of _ _ p.0) (le_of _ _ p.1)

-- what the clock shows is at most a day from the instant
shows_near : (t : ClockTable) (i : ℤ) → ((i -ℤ pos offset_limit) ≤ℤ (table_zone t).reads i) × ((table_zone t).reads i ≤ℤ (i +ℤ pos offset_limit))
unfolding clock
shows_near t i =
    let o = calm_offset t.first_offset t.changes.items i t.calm in
    (omega (arith, ints, o), omega (arith, ints, o))

-- before the instants of the table
pub shows_less : (t : ClockTable) (i : ℤ) (c : CivilDateTime) → i <ℤ first_instant → is_near_year c.date.year ≡ true → (table_zone t).reads i <ℤ wall_second c
shows_less t i c h near = let s = shows_near t i in let b = near_bounds c near in omega (arith, ints, s, b, h)

-- and after them
pub shows_more : (t : ClockTable) (i : ℤ) (c : CivilDateTime) → last_instant <ℤ i → is_near_year c.date.year ≡ true → wall_second c <ℤ (table_zone t).reads i
shows_more t i c h near = let s = shows_near t i in let b = near_bounds c near in omega (arith, ints, s, b, h)

-- so an instant that the table does not have lies on the same side of the table's instants as its reading of the second
pub compares_beyond : (x : TableTime) (i : ℤ) (c : CivilDateTime) → is_table_second i ≡ false → is_near_year c.date.year ≡ true → int_cmp i x.second ≡ int_cmp ((table_zone x.table.now).reads i) (wall_second c)
compares_beyond x i c out near =
    let t = x.table.now in
    let in_table = instant_bounds x.second x.held in
    by_lt_z i first_instant
    (λ before.
    let less = shows_less t i c before near in
    less_of i x.second (omega (arith, ints, before, in_table)) ∙ sym (less_of ((table_zone t).reads i) (wall_second c) less))
    (λ from.
    by_lt_z last_instant i
    (λ after.
    let more = shows_more t i c after near in
    greater_of i x.second (omega (arith, ints, after, in_table)) ∙ sym (greater_of ((table_zone t).reads i) (wall_second c) more))
    (λ to.
    let within = instant_test i from to in absurd (cc)))

-- ---- orders by their index

pub index_less : (o : Ordering) → true ≡ (ordering_index o == 0) → o ≡ Less
index_less Less h = refl
index_less Equal h = absurd (cc)
index_less Greater h = absurd (cc)

pub index_greater : (a b : ℤ) (o : Ordering) (r : Bool) → o ≡ int_cmp a b → r ≡ (ordering_index o == 2) → r ≡ int_lt b a
index_greater a b Less r e h =
    let never : int_cmp a b ≡ Greater → ⊥ = λ f. let both : Less ≡ Greater = e ∙ f in absurd (cc) in
    h ∙ sym (not_greater a b never)
index_greater a b Equal r e h =
    let never : int_cmp a b ≡ Greater → ⊥ = λ f. let both : Equal ≡ Greater = e ∙ f in absurd (cc) in
    h ∙ sym (not_greater a b never)
index_greater a b Greater r e h = h ∙ sym (is_greater a b (sym e))

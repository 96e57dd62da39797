-- What the seconds of a table do as moments.
use Rattle.std.proofs.Common.{◌≡◌, inl, inr, ap, sym, subst, true, false, refl, ℤ, Some}
use Rattle.croner_base.specs.declared.errors.CronError.TheVariants.{InvalidDate}
use Rattle.croner_base.specs.declared.time.civil.CivilDateTime.{CivilDateTime}
use Rattle.croner_base.specs.declared.time.table.ClockTable.{ClockTable}
use Rattle.croner_base.specs.declared.time.table.TableTime.{TableTime}
use Rattle.croner_base.specs.declared.time.value.Resolution.{Resolution}
use Rattle.croner_base.specs.declared.time.value.Resolution.TheVariants.{Single, Ambiguous, Gap}
use Rattle.croner_base.specs.Civil.{wall_second}
use Rattle.croner_base.specs.Calm.{NamesAll}
use Rattle.croner_base.specs.Zone.{Names, IsResolved, IsUnheld}
use Rattle.croner_base.specs.ZonedZone.{is_near_year}
use Rattle.croner_base.specs.TableZone.{clock, instants_of, table_zone, table_moment}
use Rattle.croner_base.specs.Private.TableSteps.{AreOn, seconds_of}
use Rattle.croner_base.proofs.tables.TableReadings.{names_instants}

-- a second of another year is not held
pub unheld : (t : ClockTable) (c : CivilDateTime) → is_near_year c.date.year ≡ false → IsUnheld false (table_zone t) c InvalidDate
unfolding clock
unheld t c year = inr (inl refl, rw year)

resolves_to : (t : ClockTable) (c : CivilDateTime) (r : Resolution ℤ) → is_near_year c.date.year ≡ true → r ≡ instants_of t.first_offset t.changes.items (wall_second c) → (table_zone t).resolves c ≡ Some r
unfolding clock
resolves_to t c r year e = rw (year, e)

named : (t : ClockTable) (w : ℤ) (x : TableTime) → x.table.now ≡ t → (table_zone t).reads x.second ≡ w → Names table_moment (table_zone t) w x
named t w x same r = record { zone_is = ap table_zone same; whole = refl; reads_it = r }

-- the seconds that the table names for a date and time are what it resolves to
pub resolved_to : (t : ClockTable) (c : CivilDateTime) (r : Resolution TableTime) → is_near_year c.date.year ≡ true → AreOn t r → seconds_of r ≡ instants_of t.first_offset t.changes.items (wall_second c) → IsResolved table_moment (table_zone t) c r
resolved_to t c r year on e =
    let names = subst (NamesAll (table_zone t) (wall_second c)) (sym e) (names_instants t.first_offset t.changes.items (wall_second c) t.calm) in
    by r on names (resolves_to t c (seconds_of r) year e)
  where
    by : (r : Resolution TableTime) → AreOn t r → NamesAll (table_zone t) (wall_second c) (seconds_of r) → (table_zone t).resolves c ≡ Some (seconds_of r) → IsResolved table_moment (table_zone t) c r
    by (Single x) on n v = (named t (wall_second c) x on ((n x.second).1 refl), v)
    by (Ambiguous x y) on n v = (named t (wall_second c) x on.0 ((n.1 x.second).1 (inl refl)), named t (wall_second c) y on.1 ((n.1 y.second).1 (inr refl)), n.0, v)
    by Gap on n v = v

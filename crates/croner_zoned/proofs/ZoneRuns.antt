-- Runs on the clock of a zone, in its window, are the zone's.
use Rattle.std.proofs.Common.{◌≡◌, ◌↔◌, inl, inr, refl, subst, arith, Bool, true, false, ℤ, pos, ◌+ℤ◌, ◌-ℤ◌, ◌≤ℤ◌, Option, Some, None, IsSome, IfSome, IfNone}
use Rattle.std.proofs.lemmas.Bool.{false≢true}
use Rattle.jiff.specs.ZoneView.{plain_zone}
use Rattle.jiff_core.proofs.SignedLemmas.{signed_arith}
use Rattle.croner_base.specs.declared.errors.CronError.{CronError}
use Rattle.croner_base.specs.declared.errors.CronError.TheVariants.{TimeSearchLimitExceeded}
use Rattle.croner_base.specs.declared.time.Direction.{Direction}
use Rattle.croner_base.specs.declared.time.Direction.TheVariants.{Forward, Backward}
use Rattle.croner_base.specs.declared.time.table.ClockTable.{ClockTable}
use Rattle.croner_base.specs.Limits.{first_start, last_start}
use Rattle.croner_base.specs.Table.{offset_limit}
use Rattle.croner_base.specs.TableZone.{clock, table_zone}
use Rattle.croner_base.specs.Zone.{Zone, reading}
use Rattle.croner_base.proofs.tables.TableCalm.{clock_calm, table_holds}
use Rattle.croner_base.proofs.tables.TableOffsets.{calm_offset}
use Rattle.croner.specs.laws.Zones.{margin, IsWellIn, IsOnClockOf}
use Rattle.croner.specs.search.Limit.{InSpan, NoneInSpan, year_2, year_5000}
use Rattle.croner.specs.search.Premises.{StartsCalm, IsSearchable}
use Rattle.croner.specs.search.Searches.{IsFound, IsRefused}
use Rattle.croner.specs.search.Runs.{Timetable, Job, job_in, Run, Counts, Nearest, Reaches}
use Rattle.croner.proofs.zone.Walks.{counts_reaches}
use Rattle.croner.proofs.zone.Windows.{SameWell, alike, same_counts, nearest_well}
use Rattle.croner_zoned.specs.declared.clock.ZoneClock.{ZoneClock}
use Rattle.croner_zoned.specs.declared.time.ZoneTime.{ZoneTime}
use Rattle.croner_zoned.specs.Windows.{own_zone, IsInWindow, IsTimeOn, IsNearestInZone, HasNoneInZone}
use Rattle.croner_zoned.specs.Years.{first_second, last_second}
use Rattle.croner_zoned.specs.ZoneMoment.{zone_moment}

-- the years by their numbers
pub years : (first_second ≡ (pos 0 -ℤ pos 62_072_524_800)) × (last_second ≡ pos 95_586_047_999) × (year_2 ≡ (pos 0 -ℤ pos 62_104_060_800)) × (year_5000 ≡ pos 95_617_584_000)
years = (refl, refl, refl, refl)

-- what the clock of a table shows is at most a day from the instant
shows_near : (t : ClockTable) (i : ℤ) → ((i -ℤ pos offset_limit) ≤ℤ (table_zone t).reads i) × ((table_zone t).reads i ≤ℤ (i +ℤ pos offset_limit))
unfolding clock
shows_near t i =
    let o = calm_offset t.first_offset t.changes.items i t.calm in
    (omega (arith, signed_arith, o), omega (arith, signed_arith, o))

-- the window of a clock lies in those years
in_years : (c : ZoneClock) (i : ℤ) → IsInWindow c i → ((pos 0 -ℤ pos 62_072_524_800) ≤ℤ i) × (i ≤ℤ pos 95_586_047_999)
in_years c i h =
    let y = years in
    (omega (arith, signed_arith, y.0, c.from, h.0), omega (arith, signed_arith, y.1, c.to, h.1))

-- and well in that of its table
pub well : (c : ZoneClock) (i : ℤ) → IsInWindow c i → IsWellIn (plain_zone c.zone) (c.first -ℤ pos margin) c.last i
well c i h = (inl (omega (arith, signed_arith, h.0)), h.1)

-- ---- runs

module _ (c : ZoneClock) (timetable : Timetable) (direction : Direction) (inclusive : Bool) (s : ℤ) (hs : IsInWindow c s) where
  same : SameWell (plain_zone c.zone) (c.first -ℤ pos margin) c.last direction s (Counts direction inclusive (job_in (table_zone c.table) timetable) s)
      (Counts direction inclusive (job_in (own_zone c) timetable) s)
  same =
      same_counts (plain_zone c.zone) (c.first -ℤ pos margin) c.last direction inclusive (own_zone c) (table_zone c.table) timetable s
      (alike (plain_zone c.zone) (c.first -ℤ pos margin) c.last c.table c.shows) (well c s hs)

  pub nearest_in_zone : (r : ℤ) → IsInWindow c r → Nearest direction inclusive (job_in (table_zone c.table) timetable) s r → Nearest direction inclusive (job_in (own_zone c) timetable) s r
  nearest_in_zone r hr n =
      nearest_well (plain_zone c.zone) (c.first -ℤ pos margin) c.last direction s r (Counts direction inclusive (job_in (table_zone c.table) timetable) s)
      (Counts direction inclusive (job_in (own_zone c) timetable) s) same (well c r hr) n

  -- what lies between two seconds of the window lies in it
  between : (d : Direction) (r i : ℤ) → IsInWindow c i → Reaches d s r → Reaches d r i → IsInWindow c r
  between Forward r i hi from to = (omega (arith, signed_arith, hs.0, from), omega (arith, signed_arith, hi.1, to))
  between Backward r i hi from to = (omega (arith, signed_arith, hi.0, to), omega (arith, signed_arith, hs.1, from))

  -- the nearest run over the table lies outside: the zone has none in the window
  pub none_past : (r : ℤ) → ¬ (IsInWindow c r) → Nearest direction inclusive (job_in (table_zone c.table) timetable) s r
      → (i : ℤ) → IsInWindow c i → ¬ (Counts direction inclusive (job_in (own_zone c) timetable) s i)
  none_past r out n i hi = λ counted.
      let to = n.nearest i (same.back i (well c i hi) counted) in
      let from = counts_reaches direction inclusive (job_in (table_zone c.table) timetable) s r n.counts in
      out (between direction r i hi from to)

  -- the window lies in the span
  in_span : (d : Direction) (i : ℤ) → IsInWindow c i → InSpan d (table_zone c.table).reads i
  in_span Forward i hi = λ j le.
      let y = years in
      omega (arith, signed_arith, y, in_years c i hi, shows_near c.table j, le)
  in_span Backward i hi = λ j le.
      let y = years in
      omega (arith, signed_arith, y, in_years c i hi, shows_near c.table j, le)

  -- no run over the table is left in the span: nor is one of the zone in the window
  pub none_left : NoneInSpan direction inclusive (job_in (table_zone c.table) timetable) s
      → (i : ℤ) → IsInWindow c i → ¬ (Counts direction inclusive (job_in (own_zone c) timetable) s i)
  none_left none i hi = λ counted. none i (in_span direction i hi) (same.back i (well c i hi) counted)

-- a run that counts from itself
run_of : (job : Job) (i : ℤ) → Counts Backward true job i i → Run job i
run_of job i (inl h) = h.1
run_of job i (inr h) = h.2

pub runs_same : (c : ZoneClock) (timetable : Timetable) (i : ℤ) → IsInWindow c i → Run (job_in (table_zone c.table) timetable) i ↔ Run (job_in (own_zone c) timetable) i
runs_same c timetable i h =
    let s = same c timetable Backward true i h in
    let t : Job = job_in (table_zone c.table) timetable in
    let z : Job = job_in (own_zone c) timetable in (
      λ r. run_of z i (s.to i (well c i h) (inr (refl, refl, r))),
      λ r. run_of t i (s.back i (well c i h) (inr (refl, refl, r))),
    )

-- ---- times

pub starts_calm : (t : ZoneTime) → StartsCalm (zone_moment t)
starts_calm t =
    let table = t.time.table.now in
    record { calm = clock_calm table.first_offset table.changes.items table.calm; whole = refl }

pub searchable : (t : ZoneTime) → IsInWindow t.clock.now t.time.second → IsSearchable (zone_moment t)
searchable t h =
    let y = in_years t.clock.now t.time.second h in
    let r = shows_near t.time.table.now t.time.second in
    let low : first_start ≤ℤ reading (zone_moment t) = omega (arith, signed_arith, y, r) in
    let high : reading (zone_moment t) ≤ℤ last_start = omega (arith, signed_arith, y, r) in
    record { starts = starts_calm t; held = table_holds t.time low high }

pub on_clock : (t : ZoneTime) → IsInWindow t.clock.now t.time.second
    → IsOnClockOf (plain_zone t.clock.now.zone) (t.clock.now.first -ℤ pos margin) t.clock.now.last (table_zone t.clock.now.table) (zone_moment t)
on_clock t h = record { clock = t.clock.now.shows; zone_is = t.on_clock; well_in = well t.clock.now t.time.second h }

-- ---- what a search found

-- a search from a time of the window found a run, and this is its time in the window, if it lies there
module _ (t run : ZoneTime) (asked : Timetable) (direction : Direction) (inclusive : Bool) (h : IsInWindow t.clock.now t.time.second) where
  on_table : IsFound direction inclusive asked (zone_moment t) (zone_moment run) → Nearest direction inclusive (job_in (table_zone t.clock.now.table) asked) t.time.second run.time.second
  on_table found =
      subst (λ (z : Zone). Nearest direction inclusive (job_in z asked) t.time.second run.time.second) t.on_clock (found.nearest (starts_calm t))

  pub some_found : (r : Option ZoneTime) → IsFound direction inclusive asked (zone_moment t) (zone_moment run) → IsSome r ↔ IsInWindow t.clock.now run.time.second
      → IfSome r (IsTimeOn t.clock.now run.time.second) → IfSome r (IsNearestInZone direction inclusive asked t)
  some_found (Some there) found some at = record {
    clock_is = at.clock_is;
    within = rw at.second_is (some.0 refl);
    nearest = rw at.second_is (nearest_in_zone t.clock.now asked direction inclusive t.time.second h run.time.second (some.0 refl) (on_table found));
  }
  some_found None found some at = tt

  pub none_found : (r : Option ZoneTime) → IsFound direction inclusive asked (zone_moment t) (zone_moment run) → IsSome r ↔ IsInWindow t.clock.now run.time.second
      → IfNone r (HasNoneInZone direction inclusive asked t)
  none_found (Some there) found some = tt
  none_found None found some =
      let out : ¬ (IsInWindow t.clock.now run.time.second) = λ inside. let both = some.1 inside in absurd (cc) in
      none_past t.clock.now asked direction inclusive t.time.second h run.time.second out (on_table found)

-- and a search that was refused met the limit
pub none_refused : (t : ZoneTime) (asked : Timetable) (direction : Direction) (inclusive : Bool) (e : CronError) → IsInWindow t.clock.now t.time.second
    → IsRefused false direction inclusive asked (zone_moment t) e → HasNoneInZone direction inclusive asked t
none_refused t asked direction inclusive e h refused =
    let limit : e ≡ TimeSearchLimitExceeded = elim (refused.promised (searchable t h)) [ inl is ↦ is | inr (lacks, can) ↦ absurd (false≢true can) ] in
    let none = subst (λ (z : Zone). NoneInSpan direction inclusive (job_in z asked) t.time.second) t.on_clock (refused.limit (starts_calm t) limit) in
    none_left t.clock.now asked direction inclusive t.time.second h none

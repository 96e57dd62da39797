-- Times on the table of a clock: they are in the clock's zone, which is calm, and a search from them finds what it needs.
use Rattle.std.proofs.Common.{◌≡◌, ◌∙◌, refl, ap, sym, subst, inl, inr, arith, Bool, true, false, ℤ, pos, ◌+ℤ◌, ◌-ℤ◌, ◌≤ℤ◌, List, Result, Ok, Err, MatchResult}
use Rattle.std.proofs.lemmas.Bool.{false≢true}
use Rattle.jiff_core.proofs.SignedLemmas.{signed_arith}
use Rattle.croner_base.specs.Limits.{first_start, last_start}
use Rattle.croner_base.specs.Table.{offset_limit}
use Rattle.croner_base.specs.TableZone.{clock, table_zone, table_moment}
use Rattle.croner_base.specs.Zone.{Zone, reading}
use Rattle.croner_base.specs.declared.errors.CronError.{CronError}
use Rattle.croner_base.specs.declared.errors.CronError.TheVariants.{TimeSearchLimitExceeded}
use Rattle.croner_base.specs.declared.time.Direction.{Direction}
use Rattle.croner_base.specs.declared.time.table.ClockTable.{ClockTable}
use Rattle.croner_base.specs.declared.time.table.TableTime.{TableTime}
use Rattle.croner_base.proofs.tables.TableCalm.{clock_calm, table_holds}
use Rattle.croner_base.proofs.tables.TableOffsets.{calm_offset}
use Rattle.croner_pattern.specs.Meaning.{Meaning}
use Rattle.croner.specs.search.Limit.{NoneInSpan}
use Rattle.croner.specs.search.PatternJob.{timetable_of, pattern_job}
use Rattle.croner.specs.search.Premises.{StartsCalm, IsSearchable}
use Rattle.croner.specs.search.Runs.{job_in, Nearest}
use Rattle.croner.specs.search.Searches.{IsFound, IsRefused}
use Rattle.croner_c.specs.Clocks.{is_calm, has, zone_of, IsZoneAt, IsTable, IsTableOf, IsTimeOn}
use Rattle.croner_c.specs.Searches.{IsRunIn, IsMatchIn, IsMatchOn}
use Rattle.croner_c.specs.declared.clock.Clock.{Clock}
use Rattle.croner_c.specs.declared.status.Reason.{Reason}
use Rattle.croner_c.specs.declared.status.Reason.TheVariants as reasons
use Rattle.croner_c.proofs.Windows.{accepted_bounds, within_bounds}

-- the zone of a clock's table is the clock's
pub zone_is : (c : Clock) (table : ClockTable) → IsTableOf c table → table_zone table ≡ zone_of c
zone_is c table on =
    ap (λ (o : ℤ). clock o table.changes.items) on.parts.first_is ∙ ap (λ (cs : List (ℤ × ℤ)). clock c.ahead cs) on.parts.changes_are

-- why a clock has no table is why it has no zone
pub no_table : (c : Clock) (i : ℤ) (reason : Reason) → IsTable c (Err reason) → IsZoneAt c i (Err reason)
no_table c i reasons.Refused h = absurd h
no_table c i reasons.Limit h = absurd h
no_table c i reasons.OutOfMemory h = tt
no_table c i reasons.Outside h = absurd h
no_table c i reasons.NotCalm h = h
no_table c i reasons.BadZone h = absurd h
no_table c i reasons.TooSmall h = absurd h
no_table c i reasons.BadArgument h = absurd h

-- a second outside the window has no zone
pub outside : (c : Clock) (i : ℤ) (reason : Reason) → is_calm c ≡ true → reason ≡ reasons.Outside → has c i ≡ false → IsZoneAt c i (Err reason)
outside c i reason calm is past = subst (λ (r : Reason). IsZoneAt c i (Err r)) (sym is) (calm, past)

-- one inside it has that of the clock
pub zone_at : (c : Clock) (i : ℤ) (t : TableTime) → t.second ≡ i → IsTimeOn c t → IsZoneAt c i (Ok (zone_of c))
zone_at c i t is on = (refl, on.table.calm, subst (λ (k : ℤ). has c k ≡ true) is on.within)

-- what the clock of a table shows is at most a day from the instant
shows_near : (t : ClockTable) (i : ℤ) → ((i -ℤ pos offset_limit) ≤ℤ (table_zone t).reads i) × ((table_zone t).reads i ≤ℤ (i +ℤ pos offset_limit))
unfolding clock
shows_near t i =
    let o = calm_offset t.first_offset t.changes.items i t.calm in
    (omega (arith, signed_arith, o), omega (arith, signed_arith, o))

-- a search from a time of the window starts on a calm clock
pub starts_calm : (t : TableTime) → StartsCalm (table_moment t)
starts_calm t = record { calm = clock_calm t.table.now.first_offset t.table.now.changes.items t.table.now.calm; whole = refl }

-- and finds held what it needs
pub searchable : (c : Clock) (t : TableTime) → IsTimeOn c t → IsSearchable (table_moment t)
searchable c t on =
    let a = accepted_bounds c on.accepted in
    let w = within_bounds c t.second on.within in
    let r = shows_near t.table.now t.second in
    let low : first_start ≤ℤ reading (table_moment t) = omega (arith, signed_arith, a, w, r) in
    let high : reading (table_moment t) ≤ℤ last_start = omega (arith, signed_arith, a, w, r) in
    record { starts = starts_calm t; held = table_holds t low high }

-- what a search found is the nearest run
pub nearest_found : (c : Clock) (direction : Direction) (inclusive : Bool) (m : Meaning) (start run : TableTime) → IsTimeOn c start
    → IsFound direction inclusive (timetable_of m) (table_moment start) (table_moment run) → Nearest direction inclusive (pattern_job m (zone_of c)) start.second run.second
nearest_found c direction inclusive m start run on found =
    subst (λ (z : Zone). Nearest direction inclusive (job_in z (timetable_of m)) start.second run.second) (zone_is c start.table.now on.table) (found.nearest (starts_calm start))

-- and a search that is refused met the limit
pub none_found : (c : Clock) (direction : Direction) (inclusive : Bool) (m : Meaning) (start : TableTime) (e : CronError) → IsTimeOn c start
    → IsRefused false direction inclusive (timetable_of m) (table_moment start) e → NoneInSpan direction inclusive (pattern_job m (zone_of c)) start.second
none_found c direction inclusive m start e on refused =
    let limit : e ≡ TimeSearchLimitExceeded = elim (refused.promised (searchable c start on)) [ inl is ↦ is | inr (lacks, can) ↦ absurd (false≢true can) ] in
    subst (λ (z : Zone). NoneInSpan direction inclusive (job_in z (timetable_of m)) start.second) (zone_is c start.table.now on.table) (refused.limit (starts_calm start) limit)

-- the answer of a search, by the run that was found
pub run_in : (c : Clock) (direction : Direction) (inclusive : Bool) (m : Meaning) (start run : TableTime) (second : ℤ) (answer : Result ℤ Reason) → IsTimeOn c start
    → IsFound direction inclusive (timetable_of m) (table_moment start) (table_moment run) → second ≡ run.second
    → MatchResult answer (λ i. (i ≡ second) × (has c second ≡ true)) (λ r. (r ≡ reasons.Outside) × (has c second ≡ false)) → IsRunIn direction inclusive m c start.second (zone_of c) answer
run_in c direction inclusive m start run second (Ok i) on found at h =
    let near = nearest_found c direction inclusive m start run on found in
    subst (λ (k : ℤ). IsRunIn direction inclusive m c start.second (zone_of c) (Ok k)) (sym (h.0 ∙ at)) (near, subst (λ (k : ℤ). has c k ≡ true) at h.1)
run_in c direction inclusive m start run second (Err r) on found at h =
    let near = nearest_found c direction inclusive m start run on found in
    subst (λ (q : Reason). IsRunIn direction inclusive m c start.second (zone_of c) (Err q)) (sym h.0) (run.second, near, subst (λ (k : ℤ). has c k ≡ false) at h.1)

-- whether a second is a scheduled one, by its time
pub match_on : (c : Clock) (m : Meaning) (t : TableTime) (i : ℤ) (answer : Result Bool Reason) → t.second ≡ i → IsTimeOn c t
    → IsMatchIn m t.second (table_zone t.table.now) answer → IsMatchOn m c i answer
match_on c m t i answer is on h =
    let in_table = subst (λ (k : ℤ). IsMatchIn m k (table_zone t.table.now) answer) is h in
    (Ok (zone_of c), zone_at c i t is on, subst (λ (z : Zone). IsMatchIn m i z answer) (zone_is c t.table.now on.table) in_table)

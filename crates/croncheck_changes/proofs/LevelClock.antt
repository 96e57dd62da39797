-- A clock on which each wall second is its own instant: its readings, and what counts on it.
use Rattle.std.proofs.Common.{◌≡◌, Bool, true, false, refl, sym, ◌∙◌, subst, inl, inr, arith, ℤ, pos, ◌+ℤ◌, ◌-ℤ◌, ◌<ℤ◌, ◌≤ℤ◌, Option, Some, None, [], Result, Ok, Err, w64, FitsSigned, to_z, of_z}
use Rattle.std.specs.Prelude.{◌↔◌, IsTrue, IfOk, IfErr, is_some, int_lt, if◌then◌else◌, MatchOption}
use Rattle.std.proofs.lemmas.Bool.{false≢true}
use Rattle.std.proofs.lemmas.Int.{ints, by_lt_z, to_z-of_z}
use Rattle.croner_base.specs.declared.errors.CronError.{CronError}
use Rattle.croner_base.specs.declared.time.Direction.TheVariants.{Forward}
use Rattle.croner_base.specs.declared.time.table.ClockTable.{ClockTable}
use Rattle.croner_base.specs.declared.time.table.TableTime.{TableTime}
use Rattle.croner_base.specs.Calm.{IsSearched}
use Rattle.croner_base.specs.Table.{is_calm_table}
use Rattle.croner_base.specs.TableZone.{clock, HasParts, table_zone, table_moment}
use Rattle.croner_base.specs.Zone.{reading}
use Rattle.croner_base.proofs.tables.TableTests.{lt_of, lt_test}
use Rattle.croner_pattern.specs.Meaning.{Meaning}
use Rattle.croner_pattern.specs.Schedule.{IsScheduled}
use Rattle.croner.specs.search.Limit.{year_5000, InSpan}
use Rattle.croner.specs.search.PatternJob.{timetable_of}
use Rattle.croner.specs.search.Runs.{job_in, OwnRun, Run, Counts}
use Rattle.croner.specs.search.Searches.{IsFound, IsRefused}
use Rattle.croncheck_changes.specs.Changes.{IsDueBeside, seconds_beside}
use Rattle.croncheck_changes.specs.declared.changes.Change.{Change}
use Rattle.croncheck_changes.specs.declared.changes.Range.{Range}
use Rattle.croncheck_changes.specs.declared.changes.Range.TheVariants as ranges
use Rattle.croncheck_changes.specs.Private.Level.{IsNoneFrom, IsLeastFrom, IsNoneWithin, IsLeastWithin, HasRoom, TellsDue, TellsDueAround, TellsDueBeside, second_found, if_before}
use Rattle.croncheck_runs.proofs.Listings.{starts_calm, searchable}
use Rattle.croncheck_changes.proofs.WatchedYears.{fits_in_years}

pub level_calm : is_calm_table (pos 0) [] ≡ true
unfolding is_calm_table
level_calm = refl

pub level_reads : (t : ClockTable) → HasParts (pos 0) [] t → (i : ℤ) → (table_zone t).reads i ≡ i
unfolding clock
level_reads t h i = rw (h.first_is, h.changes_are) (omega (arith, ints))

-- ---- what counts

own_run : (t : ClockTable) (m : Meaning) (i : ℤ) → HasParts (pos 0) [] t → IsScheduled m i → OwnRun (job_in (table_zone t) (timetable_of m)) i
own_run t m i h scheduled = (
  subst (λ (w : ℤ). IsScheduled m w) (sym (level_reads t h i)) scheduled,
  λ fixed j before same. let a = level_reads t h i in let b = level_reads t h j in omega (arith, ints, a, b, before, same),
)

scheduled_run : (t : ClockTable) (m : Meaning) (i : ℤ) → HasParts (pos 0) [] t → Run (job_in (table_zone t) (timetable_of m)) i → IsScheduled m i
scheduled_run t m i h run = elim run [
  | inl own ↦ subst (λ (w : ℤ). IsScheduled m w) (level_reads t h i) own.0
  | inr carried ↦
      let a = level_reads t h i in
      let b = level_reads t h (i -ℤ pos 1) in
      absurd (omega (arith, ints, a, b, carried.1.1, carried.1.2))
]

counted : (t : ClockTable) (m : Meaning) (s i : ℤ) → HasParts (pos 0) [] t → s ≤ℤ i → IsScheduled m i → Counts Forward true (job_in (table_zone t) (timetable_of m)) s i
counted t m s i h le scheduled =
    by_lt_z s i (λ lt. inl (lt, inl (own_run t m i h scheduled))) (λ ge.
    let same : i ≡ s = omega (arith, ints, ge, le) in
    inr (refl, same, own_run t m s h (subst (λ (w : ℤ). IsScheduled m w) same scheduled)))

counted_is : (t : ClockTable) (m : Meaning) (s i : ℤ) → HasParts (pos 0) [] t → Counts Forward true (job_in (table_zone t) (timetable_of m)) s i → (s ≤ℤ i) × IsScheduled m i
counted_is t m s i h counts = elim counts [
  | inl ahead ↦ (omega (arith, ints, ahead.0), scheduled_run t m i h ahead.1)
  | inr here ↦
      (omega (arith, ints, here.1), subst (λ (w : ℤ). IsScheduled m w) (sym here.1) (scheduled_run t m s h (inl here.2)))
]

found_least : (t run : TableTime) (m : Meaning) → HasParts (pos 0) [] t.table.now → IsFound Forward true (timetable_of m) (table_moment t) (table_moment run) → IsLeastFrom m t.second run.second
found_least t run m h found =
    let near = found.nearest (starts_calm t) in
    let here = counted_is t.table.now m t.second run.second h near.counts in
    record {
      reached = here.0;
      scheduled = here.1;
      least = λ v from scheduled. near.nearest v (counted t.table.now m t.second v h from scheduled);
    }

in_span : (t : ClockTable) (w : ℤ) → HasParts (pos 0) [] t → w <ℤ year_5000 → InSpan Forward (table_zone t).reads w
in_span t w h before = λ j reaches. let a = level_reads t h j in omega (arith, ints, a, before, reaches)

refused_none : (t : TableTime) (m : Meaning) (e : CronError) → HasParts (pos 0) [] t.table.now → IsSearched t.second → IsRefused false Forward true (timetable_of m) (table_moment t) e → IsNoneFrom m t.second
refused_none t m e h searched refused =
    let shows : reading (table_moment t) ≡ t.second = level_reads t.table.now h t.second in
    let can = searchable t (omega (arith, ints, shows, searched), omega (arith, ints, shows, searched)) in
    elim (refused.promised can) [
      | inl limit ↦ λ w from before scheduled. refused.limit (starts_calm t) limit w (in_span t.table.now w h before) (counted t.table.now m t.second w h from scheduled)
      | inr (memory, lack) ↦ absurd (false≢true lack)
    ]

-- what a search answers
pub found_from : (t : TableTime) (m : Meaning) (r : Result TableTime CronError) → IfErr r (IsRefused false Forward true (timetable_of m) (table_moment t))
    → IfOk r (λ run. IsFound Forward true (timetable_of m) (table_moment t) (table_moment run)) → HasParts (pos 0) [] t.table.now → IsSearched t.second
    → MatchOption (second_found r) (IsNoneFrom m t.second) (IsLeastFrom m t.second)
found_from t m (Ok run) tried found parts searched = found_least t run m parts found
found_from t m (Err e) refused none parts searched = refused_none t m e parts searched refused

-- at the same second; the first part of the conclusion shows `grind` what to match
pub seconds_at : (m : Meaning) (second : ℤ) (r : Option ℤ) → MatchOption r (IsNoneFrom m second) (IsLeastFrom m second)
    → MatchOption r (IsNoneFrom m second) (IsLeastFrom m second) × ((from : ℤ) → second ≡ from → MatchOption r (IsNoneFrom m from) (IsLeastFrom m from))
seconds_at m second r h = (h, λ from at. subst (λ x. MatchOption r (IsNoneFrom m x) (IsLeastFrom m x)) at h)

pub ruleset seconds_from = (to_z-of_z, seconds_at)

-- ---- before an end

before : (m : Meaning) (from end second : ℤ) (b : Bool) → int_lt second end ≡ b → IsLeastFrom m from second
    → MatchOption (if b then Some second else None) (IsNoneWithin m from end) (IsLeastWithin m from end)
before m from end second true test least = (least, lt_of second end test)
before m from end second false test least = λ w follows earlier scheduled.
    let le = least.least w follows scheduled in
    absurd (false≢true (sym test ∙ lt_test second end (omega (arith, ints, le, earlier))))

within : (m : Meaning) (from end : ℤ) (r : Option ℤ) → MatchOption r (IsNoneFrom m from) (IsLeastFrom m from) → end ≤ℤ year_5000
    → MatchOption (if_before r end) (IsNoneWithin m from end) (IsLeastWithin m from end)
within m from end None none le = λ w follows before scheduled. none w follows (omega (arith, ints, before, le)) scheduled
within m from end (Some second) least le = before m from end second (int_lt second end) refl least

-- the first part of the conclusion shows `grind` what to match
pub found_within : (m : Meaning) (from : ℤ) (r : Option ℤ) → MatchOption r (IsNoneFrom m from) (IsLeastFrom m from)
    → MatchOption r (IsNoneFrom m from) (IsLeastFrom m from)
    × ((first end : ℤ) (found : Option ℤ) → from ≡ first → end ≤ℤ year_5000 → found ≡ if_before r end → MatchOption found (IsNoneWithin m first end) (IsLeastWithin m first end))
found_within m from r h = (
  h,
  λ first end found at le same.
      subst (λ x. MatchOption x (IsNoneWithin m first end) (IsLeastWithin m first end)) (sym same) (within m first end r (subst (λ x. MatchOption r (IsNoneFrom m x) (IsLeastFrom m x)) at h) le),
)

pub ruleset seconds_within = (to_z-of_z, found_within)

-- ---- what is due

-- by the first scheduled second up to an end
pub due_by : (m : Meaning) (from end : ℤ) (r : Option ℤ) → MatchOption r (IsNoneWithin m from end) (IsLeastWithin m from end) → TellsDue m from end (is_some r)
unfolding TellsDue
due_by m from end None none = none
due_by m from end (Some w) least = (w, least.0.reached, least.1, least.0.scheduled)

pub ruleset due_seconds = (to_z-of_z, due_by)

-- in a range whose seconds are handed on
passed_as : (m : Meaning) (from end : ℤ) (b : Bool) → FitsSigned w64 from → FitsSigned w64 end → TellsDue m (to_z w64 (of_z w64 from)) (to_z w64 (of_z w64 end)) b → TellsDue m from end b
passed_as m from end b f g h = subst (λ x. TellsDue m from x b) (to_z-of_z w64 end g) (subst (λ x. TellsDue m x (to_z w64 (of_z w64 end)) b) (to_z-of_z w64 from f) h)

before_is : (m : Meaning) (first end : ℤ) (b : Bool) → b ≡ true → TellsDue m (first -ℤ pos seconds_beside) first b → TellsDueAround m first end b
unfolding TellsDue TellsDueAround
before_is m first end true is due = ((λ t. inl due), λ d. refl)
before_is m first end false is none = absurd (false≢true is)

after_is : (m : Meaning) (first end : ℤ) (b c : Bool) → b ≡ false → TellsDue m (first -ℤ pos seconds_beside) first b → TellsDue m end (end +ℤ pos seconds_beside) c → TellsDueAround m first end c
unfolding TellsDue TellsDueAround
after_is m first end true c is none due = absurd (false≢true (sym is))
after_is m first end false true is none due = ((λ t. inr due), λ d. refl)
after_is m first end false false is none none_from = (
  (λ t. absurd (false≢true t)),
  λ due. absurd (elim due [
    | inl before ↦ none before.0 before.1 before.2 before.3
    | inr follows ↦ none_from follows.0 follows.1 follows.2 follows.3
  ]),
)

pub due_before : (m : Meaning) (first end : ℤ) (b : Bool) → b ≡ true → HasRoom first end → FitsSigned w64 first
    → TellsDue m (to_z w64 (of_z w64 (first -ℤ pos seconds_beside))) (to_z w64 (of_z w64 first)) b → TellsDueAround m first end b
due_before m first end b is room f due = before_is m first end b is (passed_as m (first -ℤ pos seconds_beside) first b (omega (arith, ints, room.first_from, room.first_to)) f due)

-- the first part of the conclusion shows `grind` what to match
pub due_from : (m : Meaning) (from until : ℤ) (b : Bool) → TellsDue m from until b
    → TellsDue m from until b
    × ((first end : ℤ) (c : Bool) → from ≡ to_z w64 (of_z w64 (first -ℤ pos seconds_beside)) → until ≡ to_z w64 (of_z w64 first) → b ≡ false → HasRoom first end
    → FitsSigned w64 first → FitsSigned w64 end → TellsDue m (to_z w64 (of_z w64 end)) (to_z w64 (of_z w64 (end +ℤ pos seconds_beside))) c → TellsDueAround m first end c)
due_from m from until b before = (
  before,
  λ first end c at to is room f g due.
      let same = subst (λ x. TellsDue m (to_z w64 (of_z w64 (first -ℤ pos seconds_beside))) x b) to (subst (λ x. TellsDue m x until b) at before) in
      after_is m first end b c is (passed_as m (first -ℤ pos seconds_beside) first b (omega (arith, ints, room.first_from, room.first_to)) f same)
      (passed_as m end (end +ℤ pos seconds_beside) c g (omega (arith, ints, room.end_from, room.end_to)) due),
)

pub ruleset due_around = (due_before, due_from)

-- beside the range of a change
pub beside_gap : (m : Meaning) (range : Range) (c : Change) (b : Bool) → range ≡ ranges.Gap → TellsDueAround m c.before c.after b → TellsDueBeside m range c b
unfolding TellsDueAround TellsDueBeside
beside_gap m range c b is due = subst (λ r. IsTrue b ↔ IsDueBeside m r c) (sym is) due

pub beside_repeated : (m : Meaning) (range : Range) (c : Change) (b : Bool) → range ≡ ranges.Repeated → TellsDueAround m c.after c.before b → TellsDueBeside m range c b
unfolding TellsDueAround TellsDueBeside
beside_repeated m range c b is due = subst (λ r. IsTrue b ↔ IsDueBeside m r c) (sym is) due

pub ruleset ranges_beside = (to_z-of_z, fits_in_years, beside_gap, beside_repeated)

-- the first part of the conclusion shows `grind` what to match
pub due_as_told : (m : Meaning) (range : Range) (c : Change) (b : Bool) → TellsDueBeside m range c b → TellsDueBeside m range c b × (IsTrue b ↔ IsDueBeside m range c)
unfolding TellsDueBeside
due_as_told m range c b due = (due, due)

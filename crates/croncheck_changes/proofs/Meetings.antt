-- Changes that meet a job, and what becomes of its seconds there.
use Rattle.std.proofs.Common.{◌≡◌, ℕ, ◌+◌, ◌<◌, Bool, true, false, ◌&&◌, refl, sym, ap, ◌∙◌, subst, inl, inr, arith, ℤ, pos, ◌+ℤ◌, ◌-ℤ◌, ◌<ℤ◌, ◌≤ℤ◌, Option, Some, None, List, length, get_or}
use Rattle.std.specs.Prelude.{MatchOption, if◌then◌else◌}
use Rattle.std.proofs.lemmas.Bool.{cases_lt, false≢true}
use Rattle.std.proofs.lemmas.Int.{ints, by_lt_z, to_z-of_z}
use Rattle.std.proofs.lemmas.List.{get_or_default}
use Rattle.croner_base.specs.declared.errors.CronError.{CronError}
use Rattle.croner_base.specs.declared.time.Direction.TheVariants.{Forward}
use Rattle.croner_base.specs.declared.time.table.TableTime.{TableTime}
use Rattle.croner_base.specs.TableZone.{table_moment}
use Rattle.croner_base.specs.Zone.{Zone, Moment, at_instant, reading}
use Rattle.croner_base.proofs.tables.TableTests.{both_parts}
use Rattle.croner_pattern.specs.Meaning.{Meaning}
use Rattle.croner_pattern.specs.Schedule.{IsScheduled, DateMatches, is_fixed_time, is_plain, is_date_matching}
use Rattle.croner.specs.declared.job.JobType.TheVariants as types
use Rattle.croner.specs.search.Limit.{InSpan}
use Rattle.croner.specs.search.PatternJob.{timetable_of, pattern_job}
use Rattle.croner.specs.search.Runs.{job_in, Run, CarriedRun, Counts}
use Rattle.croner.specs.search.Searches.{IsFound, IsRefused}
use Rattle.croncheck_changes.specs.Changes.{IsJump, IsWatched, AreChanges, AreChangesFrom, LiesIn, Meets, MeetsFirst, is_never_met}
use Rattle.croncheck_changes.specs.declared.changes.Change.{Change}
use Rattle.croncheck_changes.specs.declared.changes.Range.{Range}
use Rattle.croncheck_runs.specs.declared.runs.Runner.{Runner}
use Rattle.croncheck_changes.specs.declared.changes.Range.TheVariants as ranges
use Rattle.croncheck_changes.specs.Private.Level.{IsNoneWithin, IsLeastWithin}
use Rattle.croncheck_changes.specs.Private.Met.{IsToldOf, IsNoneIn, IsFirstIn}
use Rattle.croncheck_changes.proofs.WatchedYears.{near_utc, fits_in_years}
use Rattle.croncheck_runs.proofs.Listings.{starts_calm, searchable}

-- ---- the first scheduled second of a range

in_gap : (m : Meaning) (c : Change) (r : Option ℤ) → MatchOption r (IsNoneWithin m c.before c.after) (IsLeastWithin m c.before c.after) → MatchOption r (IsNoneIn m ranges.Gap c) (IsFirstIn m ranges.Gap c)
in_gap m c None none = λ w lies. none w lies.0 lies.1
in_gap m c (Some w) least = record { lies = (least.0.reached, least.1); scheduled = least.0.scheduled; least = λ v lies s. least.0.least v lies.0 s }

in_repeated : (m : Meaning) (c : Change) (r : Option ℤ) → MatchOption r (IsNoneWithin m c.after c.before) (IsLeastWithin m c.after c.before) → MatchOption r (IsNoneIn m ranges.Repeated c) (IsFirstIn m ranges.Repeated c)
in_repeated m c None none = λ w lies. none w lies.0 lies.1
in_repeated m c (Some w) least = record { lies = (least.0.reached, least.1); scheduled = least.0.scheduled; least = λ v lies s. least.0.least v lies.0 s }

-- the first part of the conclusion shows `grind` what to match
pub first_in : (m : Meaning) (from end : ℤ) (r : Option ℤ) → MatchOption r (IsNoneWithin m from end) (IsLeastWithin m from end)
    → MatchOption r (IsNoneWithin m from end) (IsLeastWithin m from end)
    × ((range : Range) (c : Change) → range ≡ ranges.Gap → from ≡ c.before → end ≡ c.after → MatchOption r (IsNoneIn m range c) (IsFirstIn m range c))
    × ((range : Range) (c : Change) → range ≡ ranges.Repeated → from ≡ c.after → end ≡ c.before → MatchOption r (IsNoneIn m range c) (IsFirstIn m range c))
first_in m from end r h = (
  h,
  (λ range c is at to. subst (λ x. MatchOption r (IsNoneIn m x c) (IsFirstIn m x c)) (sym is)
      (in_gap m c r (subst (λ x. MatchOption r (IsNoneWithin m c.before x) (IsLeastWithin m c.before x)) to (subst (λ x. MatchOption r (IsNoneWithin m x end) (IsLeastWithin m x end)) at h)))),
  λ range c is at to. subst (λ x. MatchOption r (IsNoneIn m x c) (IsFirstIn m x c)) (sym is)
      (in_repeated m c r (subst (λ x. MatchOption r (IsNoneWithin m c.after x) (IsLeastWithin m c.after x)) to (subst (λ x. MatchOption r (IsNoneWithin m x end) (IsLeastWithin m x end)) at h))),
)

pub ruleset seconds_in_range = (to_z-of_z, fits_in_years, first_in)

-- ---- which kind of job it is

pub interval_job : (b : Bool) → (if b then types.FixedTime else types.IntervalWildcard) ≡ types.IntervalWildcard → b ≡ false
interval_job true e = absurd (cc)
interval_job false e = refl

pub fixed_job : (b : Bool) → (if b then types.FixedTime else types.IntervalWildcard) ≡ types.FixedTime → b ≡ true
fixed_job true e = refl
fixed_job false e = absurd (cc)

-- ---- the gap of a fixed-time job

date_of : (m : Meaning) (w : ℤ) → IsScheduled m w → DateMatches m w
date_of m w s =
    let c = s.shown in
    let date = is_date_matching m c.date in
    let hours = is_plain m.hours c.time.hour in
    let minutes = is_plain m.minutes c.time.minute in
    let after_seconds = (both_parts (is_plain m.seconds c.time.second) (minutes && (hours && date)) s.matches).1 in
    let after_minutes = (both_parts minutes (hours && date) after_seconds).1 in
    record { shown = s.shown; shows = s.shows; matches = (both_parts hours date after_minutes).1 }

carried : (t : TableTime) (m : Meaning) (c : Change) (w : ℤ) → IsToldOf t c → IsFirstIn m ranges.Gap c w → is_fixed_time m ≡ true → Run (pattern_job m (table_moment t).zone) c.instant → CarriedRun (pattern_job m (table_moment t).zone) c.instant
carried t m c w told first fixed run = elim run [
  | inl own ↦
      (fixed, (w, omega (arith, ints, told.0.before_is, first.lies.0), omega (arith, ints, told.0.after_is, first.lies.1), first.scheduled), date_of m ((table_moment t).zone.reads c.instant) own.0)
  | inr is ↦ is
]

counted_run : (m : Meaning) (z : Zone) (s i : ℤ) → Counts Forward false (pattern_job m z) s i → (s <ℤ i) × Run (pattern_job m z) i
counted_run m z s i counts = elim counts [ inl ahead ↦ ahead | inr here ↦ absurd (false≢true here.0) ]

-- by the search from the second before the change
pub is_moved : (t before run : TableTime) (m : Meaning) (c : Change) (w : ℤ) → table_moment before ≡ at_instant (table_moment t).zone (c.instant -ℤ pos 1)
    → IsFound Forward false (timetable_of m) (table_moment before) (table_moment run) → IsToldOf t c → IsFirstIn m ranges.Gap c w → is_fixed_time m ≡ true → run.second ≡ c.instant
    → CarriedRun (pattern_job m (table_moment t).zone) c.instant
is_moved t before run m c w same found told first fixed at =
    let near = found.nearest (starts_calm before) in
    let counts = subst (λ (x : Moment). Counts Forward false (job_in x.zone (timetable_of m)) x.instant run.second) same near.counts in
    let is_run = counted_run m (table_moment t).zone (c.instant -ℤ pos 1) run.second counts in
    carried t m c w told first fixed (subst (λ (i : ℤ). Run (pattern_job m (table_moment t).zone) i) at is_run.1)

pub is_left_out : (t before run : TableTime) (m : Meaning) (c : Change) → table_moment before ≡ at_instant (table_moment t).zone (c.instant -ℤ pos 1)
    → IsFound Forward false (timetable_of m) (table_moment before) (table_moment run) → (run.second ≡ c.instant → ⊥)
    → ¬ (CarriedRun (pattern_job m (table_moment t).zone) c.instant)
is_left_out t before run m c same found other is =
    let near = found.nearest (starts_calm before) in
    let counts = subst (λ (x : Moment). Counts Forward false (job_in x.zone (timetable_of m)) x.instant run.second) same near.counts in
    let is_run = counted_run m (table_moment t).zone (c.instant -ℤ pos 1) run.second counts in
    let own : Counts Forward false (pattern_job m (table_moment t).zone) (c.instant -ℤ pos 1) c.instant = inl (omega (arith, ints), inr is) in
    let here = subst (λ (x : Moment). Counts Forward false (job_in x.zone (timetable_of m)) x.instant c.instant) (sym same) own in
    let le : run.second ≤ℤ c.instant = near.nearest c.instant here in
    other (omega (arith, ints, le, is_run.0))

span_at : (t : TableTime) (c : Change) → IsToldOf t c → InSpan Forward (table_moment t).zone.reads c.instant
span_at t c told = λ j reaches. let near = near_utc t.table.now j in omega (arith, ints, near.1, reaches, told.1.before)

pub is_none_left : (t before : TableTime) (m : Meaning) (c : Change) (e : CronError) → table_moment before ≡ at_instant (table_moment t).zone (c.instant -ℤ pos 1)
    → IsRefused false Forward false (timetable_of m) (table_moment before) e → IsToldOf t c → ¬ (CarriedRun (pattern_job m (table_moment t).zone) c.instant)
is_none_left t before m c e same refused told is =
    let near = near_utc t.table.now (c.instant -ℤ pos 1) in
    let shows : reading (table_moment before) ≡ (table_moment t).zone.reads (c.instant -ℤ pos 1) = ap reading same in
    let w = told.1 in
    let can = searchable before (omega (arith, ints, shows, near.0, w.from), omega (arith, ints, shows, near.1, w.before)) in
    elim (refused.promised can) [
      | inl limit ↦
          let none = refused.limit (starts_calm before) limit in
          let counts : Counts Forward false (pattern_job m (table_moment t).zone) (c.instant -ℤ pos 1) c.instant = inl (omega (arith, ints), inr is) in
          let here = subst (λ (x : Moment). Counts Forward false (job_in x.zone (timetable_of m)) x.instant c.instant) (sym same) counts in
          let span = subst (λ (x : Moment). InSpan Forward x.zone.reads c.instant) (sym same) (span_at t c told) in
          none c.instant span here
      | inr (memory, lack) ↦ absurd (false≢true lack)
    ]

-- ---- the first change that meets a job

same_lies : (z : Zone) (c d : Change) (range : Range) (w : ℤ) → IsJump z c → IsJump z d → c.instant ≡ d.instant → LiesIn range d w → LiesIn range c w
same_lies z c d ranges.Gap w a b same lies =
    let before : c.before ≡ d.before = a.before_is ∙ ap (λ (i : ℤ). z.reads (i -ℤ pos 1) +ℤ pos 1) same ∙ sym b.before_is in
    let after : c.after ≡ d.after = a.after_is ∙ ap z.reads same ∙ sym b.after_is in
    (omega (arith, ints, before, lies.0), omega (arith, ints, after, lies.1))
same_lies z c d ranges.Repeated w a b same lies =
    let before : c.before ≡ d.before = a.before_is ∙ ap (λ (i : ℤ). z.reads (i -ℤ pos 1) +ℤ pos 1) same ∙ sym b.before_is in
    let after : c.after ≡ d.after = a.after_is ∙ ap z.reads same ∙ sym b.after_is in
    (omega (arith, ints, after, lies.0), omega (arith, ints, before, lies.1))

-- none of the first n changes has a scheduled second in the range
abbrev pub IsNoneOf : Meaning → Range → List Change → ℕ → Type 0
IsNoneOf m range changes n = (k : ℕ) (d : Change) → k < n → IsNoneIn m range (get_or changes k d)

pub none_more : (m : Meaning) (range : Range) (changes : List Change) (n : ℕ) → IsNoneOf m range changes n → ((d : Change) → IsNoneIn m range (get_or changes n d)) → IsNoneOf m range changes (n + 1)
none_more m range changes n none here = λ k d before. elim (cases_lt k n) [
  | inl old ↦ none k d old
  | inr new ↦ let at : n ≡ k = omega (arith, new, before) in subst (λ (j : ℕ). IsNoneIn m range (get_or changes j d)) at (here d)
]

-- a change that meets a job is another than each of these
others : (z : Zone) (start : ℤ) (runner : Runner) (m : Meaning) (range : Range) (changes : List Change) (n : ℕ) (c : Change) (w : ℤ) → AreChanges z start changes → IsNoneOf m range changes n → Meets z start runner m range c w
    → (k : ℕ) (d : Change) → k < n → k < length changes → ¬ ((get_or changes k d).instant ≡ c.instant)
others z start runner m range changes n c w are none meets = λ k d before inside same.
    none k d before w (same_lies z (get_or changes k d) c range w (are.each k d inside).0 meets.change same meets.lies) meets.scheduled

pub none_meets : (z : Zone) (start : ℤ) (runner : Runner) (m : Meaning) (range : Range) (changes : List Change) → AreChanges z start changes → IsNoneOf m range changes (length changes) → (c : Change) (w : ℤ) → ¬ (Meets z start runner m range c w)
none_meets z start runner m range changes are none c w meets =
    are.every c.instant meets.change.changes meets.watched (λ k d inside. others z start runner m range changes (length changes) c w are none meets k d inside inside)

-- those after the first that meets it come later
later : (z : Zone) (start : ℤ) (changes : List Change) (n : ℕ) (i : ℤ) → AreChanges z start changes → n < length changes → ((d : Change) → i <ℤ (get_or changes n d).instant)
    → (k : ℕ) (d : Change) → n < k + 1 → k < length changes → ¬ ((get_or changes k d).instant ≡ i)
later z start changes n i are inside before k d from within same = elim (cases_lt n k) [
  | inl follows ↦ let o = are.ordered n k d follows within in let b = before d in omega (arith, ints, o, b, same)
  | inr not_after ↦
      let at : n ≡ k = omega (arith, not_after, from) in
      let b = before d in
      let here = subst (λ (j : ℕ). (get_or changes j d).instant ≡ i) (sym at) same in
      omega (arith, ints, b, here)
]

pub first_meets : (z : Zone) (start : ℤ) (runner : Runner) (m : Meaning) (range : Range) (changes : List Change) (n : ℕ) (c : Change) (w : ℤ) → is_never_met runner m ≡ false → AreChanges z start changes
    → IsNoneOf m range changes n → n < length changes → ((d : Change) → get_or changes n d ≡ c) → IsFirstIn m range c w → MeetsFirst z start runner m range c w
first_meets z start runner m range changes n c w hours are none inside at first =
    let told = subst (λ (d : Change). IsJump z d × IsWatched start d.instant) (at c) (are.each n c inside) in
    record {
      meets = record { hours = hours; change = told.0; watched = told.1; lies = first.lies; scheduled = first.scheduled };
      first = λ d v meets. by_lt_z d.instant c.instant
          (λ earlier. absurd (are.every d.instant meets.change.changes meets.watched
          (λ k e within. elim (cases_lt k n) [
            | inl old ↦ others z start runner m range changes n d v are none meets k e old within
            | inr from ↦ later z start changes n d.instant are inside (λ f. let here : (get_or changes n f).instant ≡ c.instant = ap (λ (g : Change). g.instant) (at f) in omega (arith, ints, here, earlier)) k e (omega (arith, from)) within
          ])))
          (λ not_earlier. not_earlier);
      least = first.least;
    }

-- one of a start's changes
pub told_at : (t : TableTime) (items read : List Change) (n : ℕ) (d : Change) → read ≡ items → AreChangesFrom t items → n < length read → IsToldOf t (get_or read n d)
told_at t items read n d same are inside =
    subst (λ (xs : List Change). IsToldOf t (get_or xs n d)) (sym same) (are.each n d (subst (λ (xs : List Change). n < length xs) same inside))

-- it is the same, whatever is read past the end
pub read_at : (items read : List Change) (n : ℕ) (e : Change) → read ≡ items → n < length read → (d : Change) → get_or items n d ≡ get_or read n e
read_at items read n e same inside = λ d.
    get_or_default items n d e (subst (λ (xs : List Change). n < length xs) same inside) ∙ ap (λ (xs : List Change). get_or xs n e) (sym same)

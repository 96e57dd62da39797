-- An answer of a search of which it is only known that it holds, and not how: what makes it a run can be told from the zone and
-- the pattern.
use Rattle.std.proofs.Common.{◌≡◌, inl, inr, ℤ, pos, ◌+ℤ◌, ◌-ℤ◌, ◌<ℤ◌, ◌≤ℤ◌, arith, sym, ap, subst, ◌∙◌, Bool, true, false}
use Rattle.std.proofs.Props.{props}
use Rattle.std.proofs.Math.Logic.{∥∥₁_elim, ∥∥₁_map}
use Rattle.std.proofs.lemmas.Bool.{and_parts, false≢true}
use Rattle.std.proofs.lemmas.Int.{ints}
use mathlib.Core.HLevel.{is_prop→PathP}
use mathlib.Core.Sum.{⊎_set}
use Rattle.jiff_core.proofs.SignedLemmas.{signed_arith}
use Rattle.croner_base.specs.declared.time.Direction.{Direction}
use Rattle.croner_base.specs.declared.time.Direction.TheVariants.{Forward, Backward}
use Rattle.croner_base.specs.declared.time.civil.CivilDateTime.{CivilDateTime}
use Rattle.croner_base.specs.Calm.{IsCalm}
use Rattle.croner_base.specs.Civil.{wall_second, seconds_of_time}
use Rattle.croner_base.specs.Limits.{gap_limit}
use Rattle.croner_base.specs.Zone.{Zone, Moment}
use Rattle.croner_base.proofs.calendar.Chronology.{wall_second-injective}
use Rattle.croner_base.proofs.calendar.JiffSeconds.{wall_second-parts}
use Rattle.croner_pattern.specs.Meaning.{Meaning}
use Rattle.croner_pattern.specs.Schedule.{is_plain, is_scheduled, is_date_matching, is_fixed_time, IsScheduled, DateMatches}
use Rattle.croner_pattern.specs.Shapes.{has_field_shapes}
use Rattle.croner.specs.Private.search.Halves.{Break}
use Rattle.croner.specs.search.PatternJob.{pattern_job, timetable_of}
use Rattle.croner.specs.search.Searches.{IsFound}
use Rattle.croner.specs.search.Runs.{Reaches, OwnRun, CarriedRun, Run, StartCounts, Counts}
use Rattle.croner_pattern.proofs.civil.SingleValues.{single-value, single_time}
use Rattle.croner_pattern.proofs.questions.FieldShapes.{field_shapes}
use Rattle.croner.proofs.zone.Ahead.{either, not_both}
use Rattle.croner.proofs.zone.ZoneOrder.{calm_of, Calm, cases_lt_z, below_before}
use Rattle.croner.proofs.zone.Walks.{true_or_false, is_run}

-- a zone's values are told apart by what they answer
pub zone_set : (y z : Zone) → IsProp (y ≡ z)
zone_set = hlevel (⊎_set, props)

module _ (m : Meaning) where
  pub scheduled_prop : (w : ℤ) → IsProp (IsScheduled m w)
  scheduled_prop w a b =
      let e : a.shown ≡ b.shown = wall_second-injective a.shown b.shown (a.shows ∙ sym b.shows) in
      λ i. record {
        shown = e i;
        shows = is_prop→PathP (λ j. wall_second (e j) ≡ w) (λ j. hlevel props) a.shows b.shows i;
        matches = is_prop→PathP (λ j. is_scheduled m (e j) ≡ true) (λ j. hlevel props) a.matches b.matches i;
      }

  date_prop : (w : ℤ) → IsProp (DateMatches m w)
  date_prop w a b =
      let e : a.shown ≡ b.shown = wall_second-injective a.shown b.shown (a.shows ∙ sym b.shows) in
      λ i. record {
        shown = e i;
        shows = is_prop→PathP (λ j. wall_second (e j) ≡ w) (λ j. hlevel props) a.shows b.shows i;
        matches = is_prop→PathP (λ j. is_date_matching m (e j).date ≡ true) (λ j. hlevel props) a.matches b.matches i;
      }

  -- the time of day is named
  record IsTimed (c : CivilDateTime) : Type 0 where
    pub second : is_plain m.seconds c.time.second ≡ true
    pub minute : is_plain m.minutes c.time.minute ≡ true
    pub hour : is_plain m.hours c.time.hour ≡ true

  timed : (c : CivilDateTime) → is_scheduled m c ≡ true → IsTimed c
  timed c h =
      let one = and_parts _ _ h in
      let two = and_parts _ _ one.1 in
      let three = and_parts _ _ two.1 in
      record { second = one.0; minute = two.0; hour = three.0 }

  module _ (shapes : has_field_shapes m ≡ true) (fixed : is_fixed_time m ≡ true) where
    -- the scheduled seconds of a fixed-time job have one time of day
    one_time : (a b : CivilDateTime) → IsTimed a → IsTimed b → seconds_of_time a.time ≡ seconds_of_time b.time
    one_time a b s t =
        let single = single_time m fixed in
        let fields = field_shapes m shapes in
        let second_range = fields.seconds in
        let minute_range = fields.minutes in
        let hour_range = fields.hours in
        let second = single-value m.seconds 59 a.time.second b.time.second single.seconds second_range.min second_range.max (omega (arith, a.time.second_in)) (omega (arith, b.time.second_in)) s.second t.second in
        let minute = single-value m.minutes 59 a.time.minute b.time.minute single.minutes minute_range.min minute_range.max (omega (arith, a.time.minute_in)) (omega (arith, b.time.minute_in)) s.minute t.minute in
        let hour = single-value m.hours 23 a.time.hour b.time.hour single.hours hour_range.min hour_range.max (omega (arith, a.time.hour_in)) (omega (arith, b.time.hour_in)) s.hour t.hour in
        omega (arith, second, minute, hour)

    -- so no gap has two of them
    one_skipped : (from to v w : ℤ) → to ≤ℤ (from +ℤ pos 1 +ℤ pos gap_limit) → from <ℤ v → v <ℤ to → from <ℤ w → w <ℤ to → IsScheduled m v → IsScheduled m w → v ≡ w
    one_skipped from to v w short low high low2 high2 a b =
        let time = one_time a.shown b.shown (timed a.shown a.matches) (timed b.shown b.matches) in
        omega (arith, signed_arith, wall_second-parts a.shown, wall_second-parts b.shown, a.shows, b.shows, time, short, low, high, low2, high2)

  -- a scheduled second lies between
  abbrev Skipped : ℤ → ℤ → Type 0
  Skipped from to = (w : ℤ) × (from <ℤ w) × (w <ℤ to) × IsScheduled m w

  skipped_prop : has_field_shapes m ≡ true → is_fixed_time m ≡ true → (from to : ℤ) → to ≤ℤ (from +ℤ pos 1 +ℤ pos gap_limit) → IsProp (Skipped from to)
  skipped_prop shapes fixed from to short (v, low, high, a) (w, low2, high2, b) =
      let e : v ≡ w = one_skipped shapes fixed from to v w short low high low2 high2 a b in
      λ i. (
        e i,
        is_prop→PathP (λ j. from <ℤ e j) (λ j. hlevel props) low low2 i,
        is_prop→PathP (λ j. e j <ℤ to) (λ j. hlevel props) high high2 i,
        is_prop→PathP (λ j. IsScheduled m (e j)) (λ j. scheduled_prop (e j)) a b i,
      )

  -- the date and time of a wall second
  record IsShown (w : ℤ) : Type 0 where
    pub shown : CivilDateTime
    pub shows : wall_second shown ≡ w

  shown_prop : (w : ℤ) → IsProp (IsShown w)
  shown_prop w a b =
      let e : a.shown ≡ b.shown = wall_second-injective a.shown b.shown (a.shows ∙ sym b.shows) in
      λ i. record { shown = e i; shows = is_prop→PathP (λ j. wall_second (e j) ≡ w) (λ j. hlevel props) a.shows b.shows i }

  module _ (z : Zone) (shapes : has_field_shapes m ≡ true) (quiet : IsCalm z) where
    calm : Calm z.reads
    calm = calm_of z quiet

    own_prop : (i : ℤ) → IsProp (OwnRun (pattern_job m z) i)
    own_prop i = hlevel (scheduled_prop, props)

    -- at no gap's end it shows a scheduled second
    own_there : (i : ℤ) → z.reads i ≤ℤ (z.reads (i -ℤ pos 1) +ℤ pos 1) → Run (pattern_job m z) i → OwnRun (pattern_job m z) i
    own_there i none run = elim run [ inl own ↦ own | inr (fixed, (w, low, high, is), date) ↦ absurd (omega (arith, ints, none, low, high)) ]

    run_shown : (i : ℤ) → Run (pattern_job m z) i → IsShown (z.reads i)
    run_shown i run = elim run [
      | inl (own, least) ↦ record { shown = own.shown; shows = own.shows }
      | inr (fixed, skipped, date) ↦ record { shown = date.shown; shows = date.shows }
    ]

    -- before a gap the clock showed less than at its end
    first_there : (i : ℤ) → (z.reads (i -ℤ pos 1) +ℤ pos 1) <ℤ z.reads i → (j : ℤ) → j <ℤ i → z.reads j ≡ z.reads i → ⊥
    first_there i gap j before same =
        let p : ℤ = i -ℤ pos 1 in
        let end : z.reads (p +ℤ pos 1) ≡ z.reads i = ap z.reads (omega (arith, ints)) in
        let breaks : Break z.reads p = λ (e : z.reads (p +ℤ pos 1) ≡ z.reads p +ℤ pos 1). omega (arith, ints) in
        let low = below_before z.reads calm p j breaks (omega (arith, ints)) in
        omega (arith, ints)

    -- there it is carried, where nothing is scheduled at what it shows
    carried_there : (i : ℤ) (c : CivilDateTime) → wall_second c ≡ z.reads i → is_scheduled m c ≡ false → Run (pattern_job m z) i → CarriedRun (pattern_job m z) i
    carried_there i c at unnamed run = elim run [
      | inl (own, least) ↦
          let same : own.shown ≡ c = wall_second-injective own.shown c (own.shows ∙ sym at) in
          absurd (false≢true (sym unnamed ∙ subst (λ x. is_scheduled m x ≡ true) same own.matches))
      | inr carried ↦ carried
    ]

    carried_known : (i : ℤ) → ∥ CarriedRun (pattern_job m z) i ∥₁ → CarriedRun (pattern_job m z) i
    carried_known i h =
        let fixed : is_fixed_time m ≡ true = ∥∥₁_elim h (hlevel props) (λ x. x.0) in
        let here : ℤ = i -ℤ pos 1 in
        let end : z.reads (here +ℤ pos 1) ≡ z.reads i = ap z.reads (omega (arith, ints)) in
        let forth = calm.forth here in
        let short : z.reads i ≤ℤ (z.reads (i -ℤ pos 1) +ℤ pos 1 +ℤ pos gap_limit) = omega (arith, ints) in
        (fixed, ∥∥₁_elim h (skipped_prop shapes fixed (z.reads (i -ℤ pos 1)) (z.reads i) short) (λ x. x.1), ∥∥₁_elim h (date_prop (z.reads i)) (λ x. x.2))

    pub run_known : (i : ℤ) → ∥ Run (pattern_job m z) i ∥₁ → Run (pattern_job m z) i
    run_known i h = elim (cases_lt_z (z.reads (i -ℤ pos 1) +ℤ pos 1) (z.reads i)) [
      | inr none ↦ inl (∥∥₁_elim h (own_prop i) (own_there i none))
      | inl gap ↦
          let at : IsShown (z.reads i) = ∥∥₁_elim h (shown_prop (z.reads i)) (run_shown i) in
          elim (true_or_false (is_scheduled m at.shown)) [
            | inl named ↦ inl (record { shown = at.shown; shows = at.shows; matches = named }, λ fixed j before same. first_there i gap j before same)
            | inr unnamed ↦ inr (carried_known i (∥∥₁_map h (carried_there i at.shown at.shows unnamed)))
          ]
    ]

    start_known : (direction : Direction) (s : ℤ) → ∥ StartCounts direction (pattern_job m z) s ∥₁ → StartCounts direction (pattern_job m z) s
    start_known Forward s h = ∥∥₁_elim h (own_prop s) (λ x. x)
    start_known Backward s h = run_known s h

    at_start : (direction : Direction) (inclusive : Bool) (s i : ℤ) → Reaches direction i s → Counts direction inclusive (pattern_job m z) s i → (inclusive ≡ true) × (i ≡ s) × StartCounts direction (pattern_job m z) s
    at_start direction inclusive s i reach counts = elim counts [ inl (past, run) ↦ absurd (not_both direction s i past reach) | inr there ↦ there ]

    pub counts_known : (direction : Direction) (inclusive : Bool) (s i : ℤ) → ∥ Counts direction inclusive (pattern_job m z) s i ∥₁ → Counts direction inclusive (pattern_job m z) s i
    counts_known direction inclusive s i h = elim (either direction s i) [
      | inl past ↦ inl (past, run_known i (∥∥₁_map h (is_run direction inclusive (pattern_job m z) s i)))
      | inr reach ↦
          let there = ∥∥₁_map h (at_start direction inclusive s i reach) in
          inr (∥∥₁_elim there (hlevel props) (λ x. x.0), ∥∥₁_elim there (hlevel props) (λ x. x.1), start_known direction s (∥∥₁_map there (λ x. x.2)))
    ]

reaches_prop : (direction : Direction) (a b : ℤ) → IsProp (Reaches direction a b)
reaches_prop direction a b = hlevel props

-- what is kept of a job
pub found_known : (direction : Direction) (inclusive : Bool) (m : Meaning) (start found : Moment) → has_field_shapes m ≡ true → ∥ IsFound direction inclusive (timetable_of m) start found ∥₁
    → IsFound direction inclusive (timetable_of m) start found
found_known direction inclusive m start found shapes h = record {
  nearest = λ starts. record {
    counts = counts_known m start.zone shapes starts.calm direction inclusive start.instant found.instant (∥∥₁_map h (λ f. (f.nearest starts).counts));
    nearest = λ j counted. ∥∥₁_elim h (reaches_prop direction found.instant j) (λ f. (f.nearest starts).nearest j counted);
  };
  zone = ∥∥₁_elim h (zone_set found.zone start.zone) (λ f. f.zone);
  whole = ∥∥₁_elim h (hlevel props) (λ f. f.whole);
  shows = λ p. ∥∥₁_elim h (scheduled_prop m (start.zone.reads found.instant)) (λ f. f.shows p);
  left = λ past. ∥∥₁_elim h (λ a b. absurd a) (λ f. f.left past);
}

-- The run before the run after a run: the run itself.
use Rattle.std.proofs.Common.{◌≡◌, ℕ, arith, refl, sym, ap, subst, ◌∙◌, ℤ, pos, neg_ℤ, ◌+ℤ◌, ◌≤ℤ◌, Bool, false, IsTrue, inl, inr}
use Rattle.std.proofs.lemmas.Bool.{false≢true}
use Rattle.std.proofs.lemmas.Int.{ints}
use Rattle.jiff_core.specs.Calendar.{days_of_months}
use Rattle.croner_base.specs.declared.errors.CronError.{CronError}
use Rattle.croner_base.specs.declared.errors.CronError.TheVariants.{TimeSearchLimitExceeded, OutOfMemory}
use Rattle.croner_base.specs.declared.time.Direction.TheVariants.{Forward, Backward}
use Rattle.croner_base.specs.declared.time.civil.CivilDateTime.{CivilDateTime}
use Rattle.croner_base.specs.Calendar.{day_number, year_start, days_since_zero, days_until_zero}
use Rattle.croner_base.specs.Calm.{IsCalm, IsSearched, HoldsAround}
use Rattle.croner_base.specs.Civil.{wall_second}
use Rattle.croner_base.specs.Zone.{Zone, Moment, at_instant}
use Rattle.croner_base.proofs.calendar.Chronology.{year_reached}
use Rattle.croner_base.specs.Limits.{fold_limit}
use Rattle.croner_pattern.specs.Meaning.{Meaning}
use Rattle.croner_pattern.specs.SearchedYears.{matched_searched, scheduled_searched}
use Rattle.croner.specs.search.Limit.{InSpan, NoneInSpan, year_2}
use Rattle.croner.specs.search.PatternJob.{timetable_of, pattern_job}
use Rattle.croner.specs.search.Premises.{IsSearchable, StartsCalm}
use Rattle.croner.specs.search.Runs.{Run, Nearest}
use Rattle.croner.specs.search.Searches.{IsFound, IsRefused, IsReturnable}
use Rattle.croner.proofs.zone.Ahead.{opposite}
use Rattle.croner.proofs.zone.ZoneOrder.{calm_of, cases_lt_z, drifts, far, steady}
use Rattle.croner.proofs.iterator.Listings.{is_run, there_and_back}

first_of_3 : day_number (pos 3) 1 1 ≡ neg_ℤ (pos 718_432)
unfolding day_number year_start days_since_zero days_until_zero days_of_months
first_of_3 = refl

-- a second of year 3 or later lies further after the first of year 2 than the longest step back
late : (c : CivilDateTime) → pos 3 ≤ℤ c.date.year → (year_2 +ℤ pos fold_limit) ≤ℤ wall_second c
late c from = let begun = (year_reached c (pos 3)).0 from in omega (arith, ints, first_of_3)

-- so does each later instant of a calm zone
stays_late : (z : Zone) → IsCalm z → (i j : ℤ) → (year_2 +ℤ pos fold_limit) ≤ℤ z.reads i → i ≤ℤ j → year_2 ≤ℤ z.reads j
stays_late z calm i j low le =
    elim (cases_lt_z (i +ℤ pos fold_limit) j) [
      | inl away ↦ let up = far z.reads (calm_of z calm) i j away in omega (arith, ints)
      | inr near ↦ let up = drifts z.reads (calm_of z calm) i j le (omega (arith, ints)) in omega (arith, ints)
    ]

-- a run of year 3 or later lies in the span of a backward search
in_span : (m : Meaning) (start : Moment) → IsReturnable m start → InSpan Backward start.zone.reads start.instant
in_span m start r j le =
    let low : (year_2 +ℤ pos fold_limit) ≤ℤ start.zone.reads start.instant = subst (λ (w : ℤ). (year_2 +ℤ pos fold_limit) ≤ℤ w) r.from.shows (late r.from.shown r.from.from) in
    stays_late start.zone r.calm.calm start.instant j low (omega (arith, ints))

-- each run shows a second of the years 1 to 5000, so what a search needs held stays held from each run on
pub searched_run : (m : Meaning) (z : Zone) (i : ℤ) → Run (pattern_job m z) i → IsSearched (z.reads i)
searched_run m z i run = elim run [ inl own ↦ scheduled_searched m (z.reads i) own.0 | inr carried ↦ matched_searched m (z.reads i) carried.2 ]

holds_from : (m : Meaning) (start : Moment) → IsCalm start.zone → HoldsAround start → (i : ℤ) → Run (pattern_job m start.zone) i
    → HoldsAround (at_instant start.zone i)
holds_from m start calm held i run =
    let searched = searched_run m start.zone i run in
    record {
      years = held.years;
      year_instants = held.year_instants;
      near = λ c near. held.years c (omega (arith, ints), omega (arith, ints));
      near_instants = λ j near.
          let shows = steady start.zone.reads (calm_of start.zone calm) i j (omega (arith, ints)) (omega (arith, ints)) in
          held.year_instants j (omega (arith, ints), omega (arith, ints));
    }

-- what a search finds is searched from as well
pub searchable_run : (m : Meaning) (start found : Moment) → IsSearchable start → found.zone ≡ start.zone → found.fraction ≡ 0
    → Run (pattern_job m start.zone) found.instant → IsSearchable found
searchable_run m start found p same_zone whole run =
    let held = holds_from m start p.starts.calm p.held found.instant run in
    let in_zone : Zone → Moment = λ z. at_instant z found.instant in
    let with_fraction : ℕ → Moment = λ f. record { zone = found.zone; instant = found.instant; fraction = f } in
    let same : at_instant start.zone found.instant ≡ found = ap in_zone (sym same_zone) ∙ ap with_fraction (sym whole) in
    subst IsSearchable same (record { starts = record { calm = p.starts.calm; whole = refl }; held = held })

module _ (m : Meaning) (start next : Moment) (r : IsReturnable m start) (there : IsFound Forward false (timetable_of m) start next) where
  near : Nearest Forward false (pattern_job m start.zone) start.instant next.instant
  near = there.nearest r.calm

  calm_next : StartsCalm next
  calm_next = record { calm = subst IsCalm (sym there.zone) r.calm.calm; whole = there.whole }

  searchable_next : IsSearchable start → IsSearchable next
  searchable_next p = searchable_run m start next p there.zone there.whole (is_run Forward false (pattern_job m start.zone) start.instant next.instant near.counts)

  -- the search back finds the run
  pub returns_to : (back : Moment) → IsFound Backward false (timetable_of m) next back → back ≡ start
  returns_to back found =
      let P : Zone → Type 0 = λ z. Nearest Backward false (pattern_job m z) next.instant back.instant in
      let near_back = subst P there.zone (found.nearest calm_next) in
      let instant = there_and_back (pattern_job m start.zone) start.instant next.instant back.instant r.run near near_back in
      let whole : back.fraction ≡ start.fraction = found.whole ∙ sym r.calm.whole in
      let in_zone : Zone → Moment = λ z. record { zone = z; instant = back.instant; fraction = back.fraction } in
      let at : ℤ → Moment = λ i. record { zone = start.zone; instant = i; fraction = back.fraction } in
      let with_fraction : ℕ → Moment = λ f. record { zone = start.zone; instant = start.instant; fraction = f } in
      ap in_zone (found.zone ∙ there.zone) ∙ ap at instant ∙ ap with_fraction whole

  -- and does not answer the limit
  none_left : NoneInSpan Backward false (pattern_job m next.zone) next.instant → ⊥
  none_left none =
      let P : Zone → Type 0 = λ z. NoneInSpan Backward false (pattern_job m z) next.instant in
      elim near.counts [
        | inl (past, run) ↦ subst P there.zone none start.instant (in_span m start r) (inl (opposite Forward start.instant next.instant past, r.run))
        | inr (is, e, own) ↦ absurd (false≢true is)
      ]

  pub no_limit : (lack : Bool) (e : CronError) → IsRefused lack Backward false (timetable_of m) next e → e ≡ TimeSearchLimitExceeded → ⊥
  no_limit lack e refused is = none_left (refused.limit calm_next is)

  -- so where what a search needs is held it is lack of memory that refuses it
  pub only_memory : (lack : Bool) (e : CronError) → IsRefused lack Backward false (timetable_of m) next e → IsSearchable start → (e ≡ OutOfMemory) × IsTrue lack
  only_memory lack e refused p =
      elim (refused.promised (searchable_next p)) [
        | inl limit ↦ absurd (no_limit lack e refused limit)
        | inr memory ↦ memory
      ]

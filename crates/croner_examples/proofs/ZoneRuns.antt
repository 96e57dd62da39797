-- The next run of a text in a zone, from what a clock of the zone answers.
use Rattle.std.proofs.Common.{◌≡◌, ◌∙◌, sym, ap, subst, arith, false, ℕ, ℤ, ◌<ℤ◌, List, Ok, inl, inr}
use Rattle.std.proofs.lemmas.Bool.{false≢true}
use Rattle.std.proofs.lemmas.Int.{ints}
use Rattle.jiff.specs.ZoneView.{plain_zone}
use Rattle.jiff.specs.declared.tz.timezone.TimeZone.{TimeZone}
use Rattle.jiff.specs.declared.zoned.Zoned.{Zoned}
use Rattle.croner_base.specs.declared.time.Direction.TheVariants.{Forward}
use Rattle.croner.specs.Meaning.{Meaning}
use Rattle.croner.specs.Zone.{Moment, at_instant}
use Rattle.croner.specs.ZonedValue.{value_moment}
use Rattle.croner.specs.ZonedZone.{zoned_zone}
use Rattle.croner.specs.parser.Grammar.{outcome}
use Rattle.croner.specs.parser.Settings.{default_settings}
use Rattle.croner.specs.search.PatternJob.{timetable_of, pattern_job}
use Rattle.croner.specs.search.Runs.{Job, Counts, Nearest}
use Rattle.croner_zoned.specs.declared.clock.ZoneClock.{ZoneClock}
use Rattle.croner_zoned.specs.declared.time.ZoneTime.{ZoneTime}
use Rattle.croner_zoned.specs.Windows.{own_zone, IsClockIn, IsInWindow, IsTimeOn, IsShownAs, IsNearestInZone, HasNoneInZone}
use Rattle.croner_examples.specs.ZoneRuns.{IsNextRun, HasNoneUntil}

-- the run that is found and shown
pub next_run : (text : List ℕ) (zone : TimeZone) (second first last : ℤ) (m : Meaning) (clock : ZoneClock) (start run : ZoneTime) (z : Zoned)
    → outcome default_settings text ≡ Ok m → IsClockIn zone first last clock → IsTimeOn clock second start → IsNearestInZone Forward false (timetable_of m) start run
    → IsShownAs clock run.time.second z → IsNextRun text zone second z
next_run text zone second first last m clock start run z read is at near shown =
    let instant : (value_moment z).instant ≡ run.time.second = ap (λ (v : Moment). v.instant) shown in
    let whole : value_moment z ≡ at_instant (own_zone clock) (value_moment z).instant = shown ∙ ap (λ (i : ℤ). at_instant (own_zone clock) i) (sym instant) in
    let on_clock = subst (λ (c : ZoneClock). Nearest Forward false (pattern_job m (own_zone c)) start.time.second run.time.second) at.clock_is near.nearest in
    let from = subst (λ (i : ℤ). Nearest Forward false (pattern_job m (own_zone clock)) i run.time.second) at.second_is on_clock in
    let nearest = subst (λ (i : ℤ). Nearest Forward false (pattern_job m (own_zone clock)) second i) (sym instant) from in
    record {
      meaning = m;
      read = read;
      whole = subst (λ (t : TimeZone). value_moment z ≡ at_instant (zoned_zone (plain_zone t)) (value_moment z).instant) is.zone_is whole;
      nearest = subst (λ (t : TimeZone). Nearest Forward false (pattern_job m (zoned_zone (plain_zone t))) second (value_moment z).instant) is.zone_is nearest;
    }

-- a run that counts after a second, which doesn't count itself, lies after it
counts_after : (job : Job) (s i : ℤ) → Counts Forward false job s i → s <ℤ i
counts_after job s i counted = elim counted [ inl (past, run) ↦ past | inr (can, at, own) ↦ absurd (false≢true can) ]

-- no run is found
pub none_until : (text : List ℕ) (zone : TimeZone) (second first last : ℤ) (m : Meaning) (clock : ZoneClock) (start : ZoneTime)
    → outcome default_settings text ≡ Ok m → IsClockIn zone first last clock → IsInWindow clock second → IsTimeOn clock second start
    → HasNoneInZone Forward false (timetable_of m) start → HasNoneUntil text zone second last
none_until text zone second first last m clock start read is within at none =
    let on_clock = subst (λ (c : ZoneClock). (i : ℤ) → IsInWindow c i → ¬ (Counts Forward false (pattern_job m (own_zone c)) start.time.second i)) at.clock_is none in
    let from = subst (λ (s : ℤ). (i : ℤ) → IsInWindow clock i → ¬ (Counts Forward false (pattern_job m (own_zone clock)) s i)) at.second_is on_clock in
    let in_zone = subst (λ (t : TimeZone). (i : ℤ) → IsInWindow clock i → ¬ (Counts Forward false (pattern_job m (zoned_zone (plain_zone t))) second i)) is.zone_is from in
    record {
      meaning = m;
      read = read;
      none = λ i to counted.
          let after = counts_after (pattern_job m (zoned_zone (plain_zone zone))) second i counted in
          in_zone i (omega (arith, ints, within.0, after), omega (arith, ints, is.last_is, to)) counted;
    }

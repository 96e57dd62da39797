-- What is shown of a run, and of the clock of another zone.
use Rattle.std.proofs.Common.{◌≡◌, ◌∙◌, true, false, ℤ, pos, ◌+ℤ◌, ◌*ℤ◌, List, [], ℕ, ◌++◌, Option, Some, ap, refl, subst, sym, arith}
use Rattle.std.proofs.lemmas.Int.{ints}
use Rattle.jiff.specs.declared.tz.timezone.TimeZone.{TimeZone as JiffZone}
use Rattle.jiff.specs.ZoneView.{plain_zone}
use Rattle.jiff_core.specs.declared.civil.datetime.DateTime.{DateTime}
use Rattle.jiff_core.specs.DateTime.{civil_nanos, civil_seconds}
use Rattle.jiff_core.specs.Timestamp.{IsTimestampNanos, nanos_of_seconds}
use Rattle.jiff_tz.specs.Zone.{offset_at}
use Rattle.jiff_tz.specs.declared.timezone.TimeZone.{TimeZone}
use Rattle.croner_base.specs.declared.time.civil.CivilDateTime.{CivilDateTime}
use Rattle.croner_base.specs.declared.time.table.TableTime.{TableTime}
use Rattle.croner_base.specs.Civil.{wall_second, weekday_of_second}
use Rattle.croner_base.specs.TableZone.{table_moment}
use Rattle.croner_base.specs.Zone.{reading}
use Rattle.croner_base.specs.ZonedZone.{is_timestamp_second, zone_reads}
use Rattle.croner_base.proofs.clocks.ZonedMoments.{shown_is, is_timestamp_second-true, is_timestamp_second-false}
use Rattle.croncheck_report.specs.declared.settings.Tongue.{Tongue}
use Rattle.croncheck_report.specs.Offsets.{offset_of}
use Rattle.croncheck_shown.specs.Shown.{weekday_text, clock_text, other_clock_text, IsClockTextIn, IsOtherClockAt, IsOtherClockOf, IsOtherClockText}

-- the parts that were put after a text are what is shown
pub clock_said : (language : Tongue) (zone : TimeZone) (run : TableTime) (civil : CivilDateTime) (index : ℕ) (weekday old new : List ℕ) (ahead second : ℤ)
    → wall_second civil ≡ reading (table_moment run) → index ≡ weekday_of_second (reading (table_moment run)) → weekday ≡ weekday_text language index
    → ahead ≡ offset_of zone run.second → second ≡ run.second → new ≡ old ++ clock_text weekday civil ahead second
    → (said : List ℕ) × IsClockTextIn language zone run said × (new ≡ old ++ said)
clock_said language zone run civil index weekday old new ahead second wall index_is weekday_is ahead_is second_is is = (
  clock_text weekday civil ahead second,
  (
    civil,
    wall,
    ap (λ (w : List ℕ). clock_text w civil ahead second) (weekday_is ∙ ap (weekday_text language) index_is)
        ∙ ap (λ (a : ℤ). clock_text (weekday_text language (weekday_of_second (reading (table_moment run)))) civil a second) ahead_is
        ∙ ap (λ (s : ℤ). clock_text (weekday_text language (weekday_of_second (reading (table_moment run)))) civil (offset_of zone run.second) s) second_is,
  ),
  is,
)

-- ---- the clock of another zone

-- the parts that were put after a text are what is shown of the clock
pub other_said : (language : Tongue) (zone : TimeZone) (shown : DateTime) (second nanos : ℤ) (civil : CivilDateTime) (index : ℕ) (weekday old new : List ℕ) (ahead : ℤ)
    → nanos ≡ nanos_of_seconds second → IsTimestampNanos nanos → civil_nanos shown ≡ nanos +ℤ nanos_of_seconds (offset_at zone nanos)
    → wall_second civil ≡ civil_seconds shown → index ≡ weekday_of_second (civil_seconds shown) → weekday ≡ weekday_text language index
    → ahead ≡ offset_at zone nanos → new ≡ old ++ other_clock_text weekday civil ahead
    → (said : List ℕ) × IsOtherClockAt language zone second said × (new ≡ old ++ said)
other_said language zone shown second nanos civil index weekday old new ahead is held shows wall index_is weekday_is ahead_is new_is =
    let reads : civil_seconds shown ≡ zone_reads zone second = shown_is zone shown second nanos is held shows in (
      other_clock_text weekday civil ahead,
      (
        civil,
        wall ∙ reads,
        ap (λ (w : List ℕ). other_clock_text w civil ahead) (weekday_is ∙ ap (weekday_text language) (index_is ∙ ap weekday_of_second reads))
            ∙ ap (λ (a : ℤ). other_clock_text (weekday_text language (weekday_of_second (zone_reads zone second))) civil a) (ahead_is ∙ ap (offset_at zone) is),
      ),
      new_is,
    )

-- the zone has the seconds whose nanoseconds are those of a timestamp, and no others
pub has_second : (second : ℤ) → IsTimestampNanos (second *ℤ pos 1_000_000_000) → is_timestamp_second second ≡ true
has_second second held = is_timestamp_second-true second (omega (arith, ints, held.0)) (omega (arith, ints, held.1))

pub has_no_second : (second : ℤ) → (IsTimestampNanos (second *ℤ pos 1_000_000_000) → ⊥) → is_timestamp_second second ≡ false
has_no_second second none = is_timestamp_second-false second (λ low high. none (omega (arith, ints, low), omega (arith, ints, high)))

-- what is shown at a second that the zone has, and at another one
pub other_of : (language : Tongue) (zone : TimeZone) (second : ℤ) (text : List ℕ) → is_timestamp_second second ≡ true → IsOtherClockAt language zone second text
    → IsOtherClockOf language zone second text
other_of language zone second text has shown = (λ yes. shown, λ no. absurd (cc))

pub no_other_of : (language : Tongue) (zone : TimeZone) (second : ℤ) → is_timestamp_second second ≡ false → IsOtherClockOf language zone second []
no_other_of language zone second has = (λ yes. absurd (cc), λ no. refl)

-- what is shown of a zone is shown where that is the one to be shown
pub other_text : (language : Tongue) (zone : JiffZone) (other : Option JiffZone) (at second : ℤ) (text : List ℕ) → other ≡ Some zone → at ≡ second
    → IsOtherClockOf language (plain_zone zone) at text → IsOtherClockText language other second text
other_text language zone other at second text is same shown =
    subst (λ (o : Option JiffZone). IsOtherClockText language o second text) (sym is)
    (subst (λ (s : ℤ). IsOtherClockOf language (plain_zone zone) s text) same shown)

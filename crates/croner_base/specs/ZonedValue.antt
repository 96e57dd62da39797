-- What is seen of a zoned date-time of jiff: the moment that it names, and which of two show a date-time.
use Rattle.std.specs.Prelude.{Bool, true, false, if◌then◌else◌, int_lt}
use Rattle.std.specs.Ordering.{int_eq}
use Rattle.jiff_core.specs.DateTime.{civil_nanos}
use Rattle.jiff_core.specs.declared.civil.datetime.DateTime.{DateTime}
use Rattle.jiff.specs.ZonedView.{plain_zoned, zoned_nanos}
use Rattle.jiff.specs.declared.zoned.Zoned.{Zoned}
use Rattle.croner_base.specs.declared.time.value.Resolution.{Resolution}
use Rattle.croner_base.specs.declared.time.value.Resolution.TheVariants.{Single, Ambiguous, Gap}
use Rattle.croner_base.specs.Zone.{Moment}
use Rattle.croner_base.specs.ZonedZone.{zoned_moment}

-- the moment that a zoned date-time names
abbrev pub value_moment : Zoned → Moment
value_moment z = zoned_moment (plain_zoned z)

-- its clock shows this date-time
abbrev pub is_showing : Zoned → DateTime → Bool
is_showing z dt = int_eq (civil_nanos (plain_zoned z).datetime) (civil_nanos dt)

-- those of two that are wanted, each instant once, the earlier first
abbrev pub chosen : Bool → Bool → Zoned → Zoned → Resolution Zoned
chosen true true a b =
    if int_lt (zoned_nanos a) (zoned_nanos b) then Ambiguous a b
    else (if int_lt (zoned_nanos b) (zoned_nanos a) then Ambiguous b a else Single a)
chosen true false a b = Single a
chosen false true a b = Single b
chosen false false a b = Gap

-- Where another program reads a pattern otherwise. Source: this crate's documentation of `readings_of`.
use Rattle.std.specs.Prelude.{◌≡◌, ℕ, Bool, true, false, not, List, [], map, filter, Option, Some, None, if◌then◌else◌}
use Rattle.croner_presets.specs.declared.difference.Difference.{Difference}
use Rattle.croner_presets.specs.declared.difference.Kind.{Kind}
use Rattle.croner_presets.specs.declared.difference.Kind.TheVariants as kinds
use Rattle.croner_presets.specs.declared.preset.Preset.{Preset}
use Rattle.croner_presets.specs.Differences.{AreDifferences}
use Rattle.croner_presets.specs.Presets.{kind_of}
use Rattle.croncheck_warnings.specs.declared.presets.Reading.{Reading}

-- the program takes what the parser refuses
abbrev pub is_taking : Kind → Bool
is_taking kinds.Refuses = false
is_taking kinds.Takes = true
is_taking kinds.ReadsOtherwise = false

abbrev pub is_taken : Difference → Bool
is_taken difference = is_taking (kind_of difference)

-- the program refuses what the parser takes
abbrev pub is_refusing : Kind → Bool
is_refusing kinds.Refuses = true
is_refusing kinds.Takes = false
is_refusing kinds.ReadsOtherwise = false

-- what is read otherwise is so for a form that the program refuses
abbrev pub is_refusal : Reading → Bool
is_refusal r = is_refusing (kind_of r.difference)

-- of a pattern that is refused what the program takes is told; of another one what it refuses, or reads otherwise
abbrev pub is_told : Bool → Difference → Bool
is_told is_refused difference = if is_refused then is_taken difference else not (is_taken difference)

-- what this program makes otherwise
abbrev pub reading : Preset → Difference → Reading
reading preset difference = record { preset = preset; difference = difference }

-- all of them that are told of a pattern, in order; none without a preset
abbrev pub AreReadings : Option Preset → Bool → List ℕ → List Reading → Type 0
AreReadings None is_refused pattern found = found ≡ []
AreReadings (Some preset) is_refused pattern found =
    (all : List Difference) × AreDifferences preset pattern all × (found ≡ map (reading preset) (filter (is_told is_refused) all))

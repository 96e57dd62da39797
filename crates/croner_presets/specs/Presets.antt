-- The programs: the settings under which this crate's parser comes nearest to each, and in what it still differs.
use Rattle.std.specs.Prelude.{◌≡◌, ℕ, true, false, List, [], ◌∷◌, ◌++◌, codes}
use Rattle.croner.specs.declared.parser.Seconds.TheVariants as seconds
use Rattle.croner.specs.declared.parser.Year.TheVariants as year
use Rattle.croner.specs.parser.Settings.{Settings}
use Rattle.croner_presets.specs.declared.preset.Preset.{Preset}
use Rattle.croner_presets.specs.declared.preset.Preset.TheVariants as presets
use Rattle.croner_presets.specs.declared.difference.Difference.{Difference}
use Rattle.croner_presets.specs.declared.difference.Difference.TheVariants as its
use Rattle.croner_presets.specs.declared.difference.Kind.{Kind}
use Rattle.croner_presets.specs.declared.difference.Kind.TheVariants as kinds

-- the word by which a preset is asked for
abbrev pub name_of : Preset → List ℕ
name_of presets.Kubernetes = codes "kubernetes"
name_of presets.Github = codes "github"
name_of presets.Quartz = codes "quartz"
name_of presets.Spring = codes "spring"

-- the name of its program, as a sentence has it
abbrev pub program_of : Preset → List ℕ
program_of presets.Kubernetes = codes "Kubernetes"
program_of presets.Github = codes "GitHub"
program_of presets.Quartz = codes "Quartz"
program_of presets.Spring = codes "Spring up to 5.2"

-- a sentence on the program: its name, a blank, and what it does
abbrev pub SaysOf : Preset → List ℕ → Type 0
SaysOf preset said = (after : List ℕ) × (said ≡ program_of preset ++ (32 ∷ after))

-- no preset has this name
abbrev pub IsNoName : List ℕ → Type 0
IsNoName name = (preset : Preset) → name ≡ name_of preset → ⊥

-- five fields, whose steps may follow a number
abbrev pub five_fields : Settings
five_fields = record { seconds_field = seconds.Disallowed; year_field = year.Disallowed; both_days = false; quartz = false; sloppy = true }

-- the settings of the parser. Quartz has seconds, years that may be left out, and weekdays from 1; Spring has seconds, and a day has to
-- match both day fields
abbrev pub settings_of : Preset → Settings
settings_of presets.Kubernetes = five_fields
settings_of presets.Github = five_fields
settings_of presets.Quartz = record { seconds_field = seconds.Required; year_field = year.Optional; both_days = false; quartz = true; sloppy = true }
settings_of presets.Spring = record { seconds_field = seconds.Required; year_field = year.Disallowed; both_days = true; quartz = false; sloppy = true }

-- what is looked for, in the order in which it is told: what the program refuses, what it takes, what it reads otherwise
abbrev pub differences_looked_for : Preset → List Difference
differences_looked_for presets.Kubernetes =
    its.NicknameInCapitals ∷ its.SundayAsSeven ∷ its.RangeToSunday ∷ its.OtherName ∷ its.DayModifier ∷ its.PlusBeforeName ∷ its.StepWithoutStart
    ∷ its.StarInList ∷ its.Midnight ∷ its.Every ∷ its.ZoneInFront ∷ its.QuestionMarkElsewhere
    ∷ its.StarAmongDays ∷ its.SundayToSunday ∷ its.PlusBeforeNumber ∷ its.StepToSunday ∷ []
differences_looked_for presets.Github =
    its.Nickname ∷ its.SundayAsSeven ∷ its.OtherName ∷ its.DayModifier ∷ its.QuestionMark ∷ its.Plus ∷ its.StepWithoutStart
    ∷ its.Frequent ∷ []
differences_looked_for presets.Quartz =
    its.Nickname ∷ its.NotOneOpenDay ∷ its.OtherName ∷ its.Plus ∷ its.LastInList ∷ its.LastByHash ∷ its.SecondNth ∷ its.LargeStep ∷ its.MixedRange
    ∷ its.StarInList ∷ its.DaysBeforeLast ∷ its.RangeDown ∷ its.RangeModified ∷ its.StepOfZero ∷ its.LongName
    ∷ its.NthInList ∷ its.NthOfRange ∷ its.NearestInList ∷ its.LateNearest ∷ its.LoneLastWeekday ∷ its.StepOfName ∷ its.YearStepFrom1970 ∷ []
differences_looked_for presets.Spring =
    its.Nickname ∷ its.RangeToSunday ∷ its.OtherName ∷ its.DayModifier ∷ its.StepWithoutStart ∷ its.EmptyPart
    ∷ its.StarInList ∷ its.DayZero ∷ its.SundayToSunday ∷ its.StepOfOpenDay ∷ its.DayStepFromZero ∷ []

-- ---- the kinds

-- the program refuses what the parser takes, takes what it refuses, or reads it otherwise
abbrev pub kind_of : Difference → Kind
kind_of its.NicknameInCapitals = kinds.Refuses
kind_of its.Nickname = kinds.Refuses
kind_of its.SundayAsSeven = kinds.Refuses
kind_of its.RangeToSunday = kinds.Refuses
kind_of its.OtherName = kinds.Refuses
kind_of its.DayModifier = kinds.Refuses
kind_of its.QuestionMark = kinds.Refuses
kind_of its.Plus = kinds.Refuses
kind_of its.PlusBeforeName = kinds.Refuses
kind_of its.StepWithoutStart = kinds.Refuses
kind_of its.EmptyPart = kinds.Refuses
kind_of its.NotOneOpenDay = kinds.Refuses
kind_of its.LastInList = kinds.Refuses
kind_of its.LastByHash = kinds.Refuses
kind_of its.SecondNth = kinds.Refuses
kind_of its.LargeStep = kinds.Refuses
kind_of its.MixedRange = kinds.Refuses
kind_of its.StarInList = kinds.Takes
kind_of its.Midnight = kinds.Takes
kind_of its.Every = kinds.Takes
kind_of its.ZoneInFront = kinds.Takes
kind_of its.QuestionMarkElsewhere = kinds.Takes
kind_of its.DaysBeforeLast = kinds.Takes
kind_of its.RangeDown = kinds.Takes
kind_of its.RangeModified = kinds.Takes
kind_of its.StepOfZero = kinds.Takes
kind_of its.LongName = kinds.Takes
kind_of its.DayZero = kinds.Takes
kind_of its.StarAmongDays = kinds.ReadsOtherwise
kind_of its.SundayToSunday = kinds.ReadsOtherwise
kind_of its.PlusBeforeNumber = kinds.ReadsOtherwise
kind_of its.StepToSunday = kinds.ReadsOtherwise
kind_of its.Frequent = kinds.ReadsOtherwise
kind_of its.NthInList = kinds.ReadsOtherwise
kind_of its.NthOfRange = kinds.ReadsOtherwise
kind_of its.NearestInList = kinds.ReadsOtherwise
kind_of its.LateNearest = kinds.ReadsOtherwise
kind_of its.LoneLastWeekday = kinds.ReadsOtherwise
kind_of its.StepOfName = kinds.ReadsOtherwise
kind_of its.StepOfOpenDay = kinds.ReadsOtherwise
kind_of its.DayStepFromZero = kinds.ReadsOtherwise
kind_of its.YearStepFrom1970 = kinds.ReadsOtherwise

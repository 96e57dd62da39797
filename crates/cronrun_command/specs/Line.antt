-- The line of a run. Source: this crate's documentation of the command line.
use Rattle.std.specs.Prelude.{◌≡◌, ℕ, Bool, ℤ, List, [], ◌∷◌, ◌++◌, Option, Some, None, if◌then◌else◌}
use Rattle.std.specs.Fmt.{signed_decimal}
use Rattle.croner_base.specs.CivilText.{datetime_text}
use Rattle.croner_base.specs.Civil.{wall_second}
use Rattle.croner_base.specs.Zone.{Moment, reading}
use Rattle.croner_base.specs.declared.time.civil.CivilDateTime.{CivilDateTime}

-- a date and time as YYYY-MM-DDTHH:MM:SS
abbrev pub civil_text : CivilDateTime → List ℕ
civil_text c = datetime_text c.date.year c.date.month c.date.day c.time.hour c.time.minute c.time.second

-- a space and the second, where there is one
abbrev pub second_text : Option ℤ → List ℕ
second_text None = []
second_text (Some second) = 32 ∷ signed_decimal second

-- what the clock shows, and the second where there is one
abbrev pub line_text : CivilDateTime → Option ℤ → List ℕ
line_text civil second = civil_text civil ++ second_text second

-- the second that a line names: the instant, where it is in a zone
abbrev pub named_second : Bool → Moment → Option ℤ
named_second in_zone m = if in_zone then Some m.instant else None

-- the text is the line of a run, without its end
abbrev pub IsLine : Bool → Moment → List ℕ → Type 0
IsLine in_zone m text = (c : CivilDateTime) × (wall_second c ≡ reading m) × (text ≡ line_text c (named_second in_zone m))

-- the text is the lines of these runs, each with its end
abbrev pub AreLines : Bool → List Moment → List ℕ → Type 0
AreLines in_zone [] text = text ≡ []
AreLines in_zone (m ∷ runs) text =
    (line : List ℕ) × (rest : List ℕ) × IsLine in_zone m line × AreLines in_zone runs rest × (text ≡ line ++ 10 ∷ rest)

-- How texts are shown: broken into lines, and in colours. Sources: ECMA-48 ("Select Graphic Rendition"), and this crate's documentation of `Look`.
use Rattle.std.specs.Prelude.{ℕ, ◌-◌, Bool, List, ◌∷◌, ◌++◌, codes, Option, Some, None, if◌then◌else◌}
use Rattle.croncheck_output.specs.declared.severity.Severity.{Severity}
use Rattle.croncheck_output.specs.declared.severity.Severity.TheVariants as severities
use Rattle.croncheck_output.specs.Wrapped.{wrapped_text}

-- a text, broken into lines where a line has a width: they have ten bytes less, so that two blanks and the word `warning:` have room in front of
-- them, and each but the first stands after four blanks
abbrev pub broken_text : Option ℕ → List ℕ → List ℕ
broken_text None text = text
broken_text (Some width) text = wrapped_text (width - 10) (codes "\n    ") text

-- what begins the colour of a finding: red, yellow or cyan
abbrev pub color_of : Severity → List ℕ
color_of severities.Error = 27 ∷ codes "[31m"
color_of severities.Warning = 27 ∷ codes "[33m"
color_of severities.Note = 27 ∷ codes "[36m"

-- a text in the colour of a finding, where there are colours: what begins and what ends it stands around the text
abbrev pub painted_text : Bool → Severity → List ℕ → List ℕ
painted_text has_color severity text = if has_color then color_of severity ++ (text ++ (27 ∷ codes "[0m")) else text

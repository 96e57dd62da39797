-- Worked rows of texts that are broken into lines, and of colours, computed from the definitions.
use Rattle.std.proofs.Common.{◌≡◌, [], ◌∷◌, ◌++◌, true, false, Some, None, codes, refl}
use Rattle.croncheck_output.specs.declared.severity.Severity.TheVariants as severities
use Rattle.croncheck_output.specs.Look.{broken_text, painted_text}
use Rattle.croncheck_output.specs.Wrapped.{wrapped_text}

-- the third word would be the eleventh byte
at_the_end : wrapped_text 10 (codes "|") (codes "a word to be told") ≡ codes "a word to|be told"
at_the_end = refl

-- one byte less
one_less : wrapped_text 8 (codes "|") (codes "a word to be told") ≡ codes "a word|to be|told"
one_less = refl

a_long_word : wrapped_text 3 (codes "|") (codes "ab cdefg h") ≡ codes "ab|cdefg|h"
a_long_word = refl

two_spaces : wrapped_text 9 (codes "|") (codes "a  b") ≡ codes "a  b"
two_spaces = refl

no_word : wrapped_text 9 (codes "|") [] ≡ []
no_word = refl

-- ten bytes of the width are those in front
in_lines : broken_text (Some 18) (codes " gap: not now") ≡ codes " gap:\n    not now"
in_lines = refl

in_one_line : broken_text None (codes " gap: not now") ≡ codes " gap: not now"
in_one_line = refl

in_yellow : painted_text true severities.Warning (codes "warning:") ≡ 27 ∷ codes "[33mwarning:" ++ 27 ∷ codes "[0m"
in_yellow = refl

in_no_colour : painted_text false severities.Error (codes "bad minute") ≡ codes "bad minute"
in_no_colour = refl

-- Worked rows of results, computed from the definitions.
use Rattle.std.proofs.Common.{◌≡◌, ℕ, [], ◌∷◌, Some, None, codes, refl}
use Rattle.std.specs.Fmt.{digits}
use Rattle.serde_json.proofs.OnLiterals.{serde_json_on_literals}
use Rattle.serde_json.specs.Written.{compact_text}
use Rattle.croncheck_findings.specs.declared.findings.Extent.{Extent}
use Rattle.croncheck_forms.specs.Sarif.{uri_of, columns_of, region}

-- ---- names of files

plain_name : uri_of (codes "/etc/cron.d/x_1-2~") ≡ codes "/etc/cron.d/x_1-2~"
plain_name = refl

escaped_name : uri_of (codes "a b%20:c") ≡ codes "a%20b%2520%3Ac"
escaped_name = refl

letter_of_two_bytes : uri_of (195 ∷ 169 ∷ []) ≡ codes "%C3%A9"
letter_of_two_bytes = refl

-- ---- columns

abbrev extent : ℕ → ℕ → Extent
extent start end = record { start = start; end = end }

-- the second field of `0 9 `, one character; its end is the column after it
one_character : columns_of (codes "0 9 *") (extent 2 3) ≡ record { start = 3; end = 4 }
one_character = refl

-- a letter of two bytes in front, and one within
after_a_letter : columns_of (195 ∷ 169 ∷ 32 ∷ 195 ∷ 169 ∷ 57 ∷ []) (extent 3 6) ≡ record { start = 3; end = 5 }
after_a_letter = refl

no_character : columns_of (codes "0 9") (extent 3 3) ≡ record { start = 4; end = 4 }
no_character = refl

-- ---- regions

line_alone : compact_text (region 7 None) ≡ codes "{\"startLine\":7}"
unfolding serde_json_on_literals digits
line_alone = refl

with_columns : compact_text (region 7 (Some (columns_of (codes "0 9 *") (extent 2 3)))) ≡ codes "{\"endColumn\":4,\"startColumn\":3,\"startLine\":7}"
unfolding serde_json_on_literals digits
with_columns = refl

-- Worked rows of jobs as JSON and of texts read again, computed from the definitions.
use Rattle.std.proofs.Common.{◌≡◌, ℕ, true, false, List, [], ◌∷◌, Option, Some, Err, refl}
use Rattle.std.specs.Prelude.{codes, option_and_then}
use Rattle.std.specs.Str.{trim, trim_start, trim_end, chars, str_to_ascii_uppercase}
use Rattle.serde_json.proofs.OnLiterals.{serde_json_on_literals}
use Rattle.serde_json.specs.Data.{null, number, string, array, unsigned, item, no_items}
use Rattle.serde_json.specs.Written.{compact_text}
use Rattle.croner.specs.declared.parser.Seconds.TheVariants as seconds
use Rattle.croner.specs.declared.parser.Year.TheVariants as year
use Rattle.croner.specs.parser.Cut.{replaced}
use Rattle.croner.specs.parser.Grammar.{Empty, Invalid, nicknamed}
use Rattle.croner.specs.Json.{json_outcome}
use Rattle.croner.specs.parser.Settings.{Settings, default_settings}

-- ---- JSON

the_text_in_quotes : compact_text (string (codes "0 0 * * *")) ≡ 34 ∷ codes "0 0 * * *\""
unfolding serde_json_on_literals
the_text_in_quotes = refl

a_tab_is_escaped : compact_text (string (48 ∷ 9 ∷ codes "0 * * 1")) ≡ 34 ∷ 48 ∷ 92 ∷ 116 ∷ codes "0 * * 1\""
unfolding serde_json_on_literals
a_tab_is_escaped = refl

null_is_refused : json_outcome null ≡ Err Invalid
null_is_refused = refl

a_number_is_refused : json_outcome (number (unsigned 5)) ≡ Err Invalid
a_number_is_refused = refl

an_array_is_refused : json_outcome (array (item (string (codes "* * * * *")) no_items)) ≡ Err Invalid
an_array_is_refused = refl

the_empty_string_is_an_empty_pattern : json_outcome (string []) ≡ Err Empty
unfolding trim_start trim_end chars lib.Utf8.encode
the_empty_string_is_an_empty_pattern = refl

-- ---- texts read again

-- the text that a pattern keeps, and the one that its text keeps
abbrev kept : Settings → List ℕ → Option (List ℕ)
kept s given = replaced s.quartz false (nicknamed s (trim (str_to_ascii_uppercase given)))

abbrev kept_twice : Settings → List ℕ → Option (List ℕ)
kept_twice s given = option_and_then (kept s) (kept s given)

a_nickname_between_spaces : kept_twice default_settings (codes "  @weekly ") ≡ Some (codes "0 0 * * 0")
unfolding trim_start trim_end chars lib.Utf8.encode
a_nickname_between_spaces = refl

every_year : kept_twice default_settings (codes "@annually") ≡ Some (codes "0 0 1 1 *")
unfolding trim_start trim_end chars lib.Utf8.encode
every_year = refl

every_month : kept_twice default_settings (codes "@monthly") ≡ Some (codes "0 0 1 * *")
unfolding trim_start trim_end chars lib.Utf8.encode
every_month = refl

every_hour : kept_twice default_settings (codes "@hourly") ≡ Some (codes "0 * * * *")
unfolding trim_start trim_end chars lib.Utf8.encode
every_hour = refl

names_in_each_field : kept_twice default_settings (codes "mon tue wed jan-mar sun-sun") ≡ Some (codes "1 2 3 1-3 0-7")
unfolding trim_start trim_end chars lib.Utf8.encode
names_in_each_field = refl

a_nickname_with_both_fields : kept_twice (record default_settings { seconds_field = seconds.Required; year_field = year.Required }) (codes "@daily") ≡ Some (codes "0 0 0 * * * *")
unfolding trim_start trim_end chars lib.Utf8.encode
a_nickname_with_both_fields = refl

sunday_in_quartz_mode : kept_twice (record default_settings { quartz = true }) (codes "0 0 ? * sun") ≡ Some (codes "0 0 ? * 1")
unfolding trim_start trim_end chars lib.Utf8.encode
sunday_in_quartz_mode = refl

white_space_between_fields_stays : kept_twice default_settings (9 ∷ 48 ∷ 9 ∷ 48 ∷ 10 ∷ codes "* * MON ") ≡ Some (48 ∷ 9 ∷ 48 ∷ 10 ∷ codes "* * 1")
unfolding trim_start trim_end chars lib.Utf8.encode
white_space_between_fields_stays = refl

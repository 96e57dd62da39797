-- Which lines set a variable: `NAME = value`, as cron(8) reads them. Each side may stand in quotes. It looks at the first 998 bytes.
use Rattle.std.specs.Prelude.{ℕ, Bool, true, false, not, ◌&&◌, ◌==◌, nat_lt, List, [], ◌∷◌, take, length, codes, ◌||◌, Option, Some, None, if◌then◌else◌}
use Rattle.std.specs.List.{list_any, slice_split}
use Rattle.std.specs.Str.{bytes_eq}
use Rattle.crontab.specs.declared.bytes.Kind.TheVariants as kinds
use Rattle.crontab.specs.Bytes.{is_blank, is_quote, front, text_after, begins_with, rest_of}

-- how many bytes of a line are looked at
abbrev pub setting_length : ℕ
setting_length = 998

-- the text has this byte
abbrev pub has : ℕ → List ℕ → Bool
has c text = nat_lt 0 (length (text_after (kinds.But c) text))

-- what follows a name in quotes, of which the first is taken off: the other quote ends it, and it has no `=`
abbrev pub text_after_quoted : ℕ → List ℕ → Option (List ℕ)
text_after_quoted quote text =
    if has quote text && not (has 61 (front (kinds.But quote) text)) then Some (rest_of (text_after (kinds.But quote) text)) else None

-- what follows the name: a name without quotes ends before a space or `=`, and may be empty
abbrev pub text_after_name : List ℕ → Option (List ℕ)
text_after_name [] = None
text_after_name (c ∷ cs) = if is_quote c then text_after_quoted c cs else Some (text_after kinds.Name (c ∷ cs))

-- a value: in quotes with nothing but spaces after them, or any text that is not empty
abbrev pub is_value : List ℕ → Bool
is_value [] = false
is_value (c ∷ cs) =
    if is_quote c then (has c cs && length (text_after kinds.Space (rest_of (text_after (kinds.But c) cs))) == 0) else true

-- `=` and a value, with spaces round the `=`
abbrev pub is_assigned : Option (List ℕ) → Bool
is_assigned None = false
is_assigned (Some text) =
    begins_with 61 (text_after kinds.Space text) && is_value (text_after kinds.Space (rest_of (text_after kinds.Space text)))

-- the text of a line, from its first byte that is no blank on, sets a variable
abbrev pub is_setting : List ℕ → Bool
is_setting text = is_assigned (text_after_name (take setting_length text))

-- the name that a setting begins with, without its quotes
abbrev pub setting_name : List ℕ → List ℕ
setting_name [] = []
setting_name (c ∷ cs) = if is_quote c then front (kinds.But c) cs else front kinds.Name (c ∷ cs)

-- a setting's variable is one that says a zone elsewhere: `CRON_TZ` or `TZ`
abbrev pub sets_zone : List ℕ → Bool
sets_zone text =
    let name = setting_name (take setting_length text) in bytes_eq name (codes "CRON_TZ") || bytes_eq name (codes "TZ")

-- ---- what a shell would expand, or leave out

-- what follows the name, `=` and the spaces round it
abbrev pub value_text : Option (List ℕ) → List ℕ
value_text None = []
value_text (Some text) = text_after kinds.Space (rest_of (text_after kinds.Space text))

-- a setting's value, with its quotes
abbrev pub setting_value : List ℕ → List ℕ
setting_value text = value_text (text_after_name (take setting_length text))

abbrev pub is_quoted : List ℕ → Bool
is_quoted [] = false
is_quoted (c ∷ cs) = is_quote c

-- without the quote in front
abbrev pub without_quote : List ℕ → List ℕ
without_quote text = if is_quoted text then rest_of text else text

abbrev pub begins_home : List ℕ → Bool
begins_home text = begins_with 126 text && begins_with 47 (rest_of text)

-- `~/` stands at the head, or after a colon
abbrev pub has_home : List ℕ → Bool
has_home text = list_any begins_home (slice_split (λ b. b == 58) text)

-- `#` stands after a blank
abbrev pub has_comment : List ℕ → Bool
has_comment text = list_any (begins_with 35) (slice_split is_blank (text_after kinds.Word text))

-- a value has a `$`, a `~/` that is the head of a path, or outside quotes a comment
abbrev pub is_to_expand : List ℕ → Bool
is_to_expand value = has 36 value || (has_home (without_quote value) || (not (is_quoted value) && has_comment value))

-- the setting's value has what cron takes as it stands, and a shell doesn't
abbrev pub is_not_expanded : List ℕ → Bool
is_not_expanded text = is_to_expand (setting_value text)

-- The characters of a text as they stand in a form. Sources: RFC 5545, section 3.3.11 (TEXT), the HTML standard, section 13.1 (character
-- references), and this crate's documentation.
use Rattle.std.specs.Prelude.{ℕ, ◌&&◌, ◌||◌, ◌==◌, nat_lt, Bool, false, not, List, ◌++◌, codes, Option, Some, None, encode_utf8, if◌then◌else◌}
use Rattle.std.specs.Fmt.{digits}
use Rattle.std.specs.List.{flat_map}
use Rattle.std.specs.Str.{chars}
use Rattle.cronplan_forms.specs.declared.escapes.Form.{Form}
use Rattle.cronplan_forms.specs.declared.escapes.Form.TheVariants as forms

-- what a TEXT has in place of a backslash, a semicolon, a comma and a line feed
abbrev pub text_escape : ℕ → Option (List ℕ)
text_escape c =
    if c == 92 then Some (codes "\\\\")
    else if c == 59 then Some (codes "\\;")
    else if c == 44 then Some (codes "\\,")
    else if c == 10 then Some (codes "\\n")
    else None

-- in an element or an attribute's value between quotes: an ampersand, the signs of elements, and quotes
abbrev pub html_escape : ℕ → Option (List ℕ)
html_escape c =
    if c == 38 then Some (codes "&amp;")
    else if c == 60 then Some (codes "&lt;")
    else if c == 62 then Some (codes "&gt;")
    else if c == 34 then Some (codes "&quot;")
    else if c == 39 then Some (codes "&#39;")
    else None

abbrev pub escape_of : Form → ℕ → Option (List ℕ)
escape_of forms.Text c = text_escape c
escape_of forms.Html c = html_escape c

-- the backslash of a number
abbrev pub backslash : Form → List ℕ
backslash forms.Text = codes "\\\\"
backslash forms.Html = codes "\\"

-- a control sign of ASCII
abbrev pub is_control : ℕ → Bool
is_control c = nat_lt c 32 || (c == 127)

-- a control sign by its number, as `\u{1b}`
abbrev pub number_text : Form → ℕ → List ℕ
number_text form c = backslash form ++ (codes "u{" ++ (digits 16 false c ++ codes "}"))

-- a character that no escape is for
abbrev pub plain_text : Form → ℕ → List ℕ
plain_text form c = if is_control c then number_text form c else encode_utf8 c

-- a character as it stands there, by its escape if it has one
abbrev pub or_plain : Form → ℕ → Option (List ℕ) → List ℕ
or_plain form c (Some escape) = escape
or_plain form c None = plain_text form c

abbrev pub escaped_character : Form → ℕ → List ℕ
escaped_character form c = or_plain form c (escape_of form c)

-- the bytes of a text as they stand there
unfoldable pub escaped_text : Form → List ℕ → List ℕ
escaped_text form text = flat_map (escaped_character form) (chars text)

-- the byte ends no line, and so no property of a calendar: it is no control sign
abbrev pub ends_no_property : ℕ → Bool
ends_no_property b = not (is_control b)

-- and it ends no element and no attribute's value
abbrev pub ends_no_element : ℕ → Bool
ends_no_element b = (not (b == 60) && not (b == 62)) && ((not (b == 34) && not (b == 39)) && ends_no_property b)

-- the byte ends nothing that stands around a text in a form: no line, and in a page no element and no attribute's value
abbrev pub ends_nothing : Form → ℕ → Bool
ends_nothing forms.Text b = ends_no_property b
ends_nothing forms.Html b = ends_no_element b

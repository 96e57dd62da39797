-- Bytes that hide what stands in a line, or turn its order, where it is shown: control bytes, and characters that nobody sees. Source: this
-- crate's documentation of `control-byte`.
use Rattle.std.specs.Prelude.{ℕ, ◌-◌, Bool, false, not, ◌&&◌, ◌||◌, ◌==◌, nat_le, nat_lt, List, [], ◌∷◌, length, take, if◌then◌else◌}
use Rattle.std.specs.Io.BufRead.{ends_with_byte}

-- a control byte of ASCII, but for the tab
abbrev pub is_control : ℕ → Bool
is_control b = (nat_lt b 32 && not (b == 9)) || b == 127

-- what stands after the byte E2 of such a character in UTF-8: U+200B, U+202A to U+202E, and U+2066 to U+2069
abbrev pub is_hiding : ℕ → ℕ → Bool
is_hiding a b = (a == 128 && (b == 139 || (nat_le 170 b && nat_le b 174))) || (a == 129 && (nat_le 166 b && nat_le b 169))

abbrev pub begins_hiding : List ℕ → Bool
begins_hiding [] = false
begins_hiding (a ∷ []) = false
begins_hiding (a ∷ b ∷ more) = is_hiding a b

-- the text begins with a control byte or with such a character
abbrev pub begins_hidden : List ℕ → Bool
begins_hidden [] = false
begins_hidden (b ∷ bs) = is_control b || (b == 226 && begins_hiding bs)

-- there is one in the text
abbrev pub has_hidden : List ℕ → Bool
has_hidden [] = false
has_hidden (b ∷ bs) = begins_hidden (b ∷ bs) || has_hidden bs

-- there is one, but for a carriage return at the end
abbrev pub without_return : List ℕ → List ℕ
without_return text = if ends_with_byte 13 text then take (length text - 1) text else text

-- a byte or a character of a text hides others, but for a carriage return at its end
abbrev pub has_hidden_within : List ℕ → Bool
has_hidden_within text = has_hidden (without_return text)

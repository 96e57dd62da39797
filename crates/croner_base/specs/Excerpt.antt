-- What a message repeats of a text.
use Rattle.std.specs.Prelude.{ℕ, ◌-◌, Bool, false, ◌&&◌, ◌||◌, ◌==◌, List, ◌∷◌, ◌++◌, length, take, codes, nat_le, if◌then◌else◌}
use Rattle.std.specs.Char.{encode_utf8}
use Rattle.std.specs.Fmt.{decimal, digits}
use Rattle.std.specs.List.{flat_map}
use Rattle.std.specs.Str.{chars}

-- the most characters of a text that a message repeats: of one, or of a part and a piece of it together
abbrev pub excerpt_characters : ℕ
excerpt_characters = 64

-- the most of each of two: of a part, and of a piece of it
abbrev pub half_excerpt_characters : ℕ
half_excerpt_characters = 32

-- ---- characters that nobody sees

-- a number from one to another
abbrev pub is_among : ℕ → ℕ → ℕ → Bool
is_among first last c = nat_le first c && nat_le c last

-- Unicode's general category Cc: what a terminal may act on
abbrev pub is_control : ℕ → Bool
is_control c = is_among 0 0x1f c || is_among 0x7f 0x9f c

-- the separators of lines and of paragraphs: what ends a line beside controls
abbrev pub ends_a_line : ℕ → Bool
ends_a_line c = is_among 0x2028 0x2029 c

-- Unicode's property Bidi_Control: what turns the characters beside it round
abbrev pub turns_round : ℕ → Bool
turns_round c = c == 0x61c || (is_among 0x200e 0x200f c || (is_among 0x202a 0x202e c || is_among 0x2066 0x2069 c))

-- the rest of Unicode's property Default_Ignorable_Code_Point, and the three marks of annotations after it, up to 0xffff
abbrev pub has_no_width : ℕ → Bool
has_no_width c =
    c == 0xad || (c == 0x34f || (is_among 0x115f 0x1160 c || (is_among 0x17b4 0x17b5 c || (is_among 0x180b 0x180f c || (is_among 0x200b 0x200d c
    || (is_among 0x2060 0x2065 c || (is_among 0x206a 0x206f c || (c == 0x3164 || (is_among 0xfe00 0xfe0f c || (c == 0xfeff || (c == 0xffa0
    || is_among 0xfff0 0xfffb c)))))))))))

-- the same past 0xffff
abbrev pub has_no_width_above : ℕ → Bool
has_no_width_above c = is_among 0x1bca0 0x1bca3 c || (is_among 0x1d173 0x1d17a c || is_among 0xe0000 0xe0fff c)

-- nobody sees the character
abbrev pub is_unseen : ℕ → Bool
is_unseen c = is_control c || (ends_a_line c || (turns_round c || (has_no_width c || has_no_width_above c)))

-- ---- what is written

-- a character as a message repeats it: one that nobody sees as a backslash and a letter, or its number in hexadecimal digits, every other
-- as it is
abbrev pub shown : ℕ → List ℕ
shown c =
    if c == 9 then codes "\\t"
    else if c == 10 then codes "\\n"
    else if c == 13 then codes "\\r"
    else if is_unseen c then codes "\\u{" ++ (digits 16 false c ++ codes "}")
    else encode_utf8 c

-- the characters as a message repeats them
abbrev pub all_shown : List ℕ → List ℕ
all_shown cs = flat_map shown cs

-- what follows the characters: a quote, and how many are left out where there are more than so many
abbrev pub excerpt_end : ℕ → ℕ → List ℕ
excerpt_end most count = if nat_le count most then codes "'" else codes "' (characters left out: " ++ (decimal (count - most) ++ codes ")")

-- at most so many characters of the text in quotes, as they are shown, and how many are left out
abbrev pub excerpt : ℕ → List ℕ → List ℕ
excerpt most text = 39 ∷ (all_shown (take most (chars text)) ++ excerpt_end most (length (chars text)))

-- Words of a call that are lines of a crontab, or fields of one. Source: this crate's documentation of `may_be_line`, `is_field` and
-- `may_be_zone`.
use Rattle.std.specs.Prelude.{not, ◌&&◌, ◌||◌, ◌==◌, nat_eq, ℕ, Bool, false, List, [], ◌∷◌, length, codes}
use Rattle.std.specs.Char.{is_ascii_alphanumeric, is_ascii_uppercase}
use Rattle.std.specs.List.{list_all, list_any, starts_with}

-- a text begins as a path does: with `/`, `.` or `~`
abbrev pub begins_as_path : List ℕ → Bool
begins_as_path text =
    starts_with nat_eq text (codes "/") || (starts_with nat_eq text (codes ".") || starts_with nat_eq text (codes "~"))

-- a space or a tab
abbrev pub is_blank : ℕ → Bool
is_blank b = b == 32 || b == 9

-- a word may be a line of a crontab: it has a blank or begins with `@`, and doesn't begin as a path does
abbrev pub may_be_line : List ℕ → Bool
may_be_line word = not (begins_as_path word) && (starts_with nat_eq word (codes "@") || list_any is_blank word)

-- a letter, a digit, `*`, `,`, `-`, `/`, `?`, `#` or `+`: a field has these alone
abbrev pub is_field_byte : ℕ → Bool
is_field_byte b =
    is_ascii_alphanumeric b || (b == 42 || (b == 44 || (b == 45 || (b == 47 || (b == 63 || (b == 35 || b == 43))))))

-- a word may be a field
abbrev pub is_field : List ℕ → Bool
is_field word = not (length word == 0) && list_all is_field_byte word

-- the first byte is an ASCII capital
abbrev pub begins_with_capital : List ℕ → Bool
begins_with_capital [] = false
begins_with_capital (b ∷ bs) = is_ascii_uppercase b

-- a letter, a digit, `_`, `+`, `-` or `/`: the name of a zone has these alone
abbrev pub is_zone_byte : ℕ → Bool
is_zone_byte b = is_ascii_alphanumeric b || (b == 95 || (b == 43 || (b == 45 || b == 47)))

-- a word may be the name of a zone with its region
abbrev pub may_be_zone : List ℕ → Bool
may_be_zone word = begins_with_capital word && (list_any (λ b. b == 47) word && list_all is_zone_byte word)

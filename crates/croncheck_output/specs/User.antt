-- Names of users, as forms without commands show them. Source: docs/CRONTAB.md ("JSON"), and useradd(8).
use Rattle.std.specs.Prelude.{ℕ, ◌==◌, ◌&&◌, ◌||◌, nat_le, Bool, not, List, length, Option, Some, None, if◌then◌else◌}
use Rattle.std.specs.List.{list_all}
use Rattle.crontab.specs.Bytes.{begins_with, is_alphanumeric}

-- a letter, a digit, `_`, `-`, `.`, `@` or `\`
abbrev pub is_user_byte : ℕ → Bool
is_user_byte b = is_alphanumeric b || (b == 95 || (b == 45 || (b == 46 || (b == 64 || b == 92))))

-- the longest name
abbrev pub name_length : ℕ
name_length = 32

abbrev pub is_of_length : List ℕ → Bool
is_of_length word = not (length word == 0) && nat_le (length word) name_length

-- a word may be the name of a user: such bytes, at most so many, and no dash in front
abbrev pub is_user_name : List ℕ → Bool
is_user_name word = is_of_length word && (not (begins_with 45 word) && list_all is_user_byte word)

-- the user of a line, if the word there may be the name of one
abbrev pub user_shown : Option (List ℕ) → Option (List ℕ)
user_shown None = None
user_shown (Some word) = if is_user_name word then Some word else None

-- Texts that a runner of builds takes for a command, where they begin a line that a step writes. Source: docs/CRONTAB.md ("Forms for builds"),
-- and what GitHub's runner does.
use Rattle.std.specs.Prelude.{ℕ, ◌&&◌, ◌||◌, nat_le, Bool, List, ◌++◌, codes, drop, if◌then◌else◌}
use Rattle.std.specs.List.{prefix_len}
use Rattle.crontab.specs.Bytes.{begins_with, is_space, rest_of}
use Rattle.croncheck_output.specs.Escaped.{bytes_shown}

-- a byte that may be of a blank: a space of ASCII, or a byte of another character
abbrev pub is_taken_off : ℕ → Bool
is_taken_off b = is_space b || nat_le 128 b

-- what follows such bytes in front of a text
abbrev pub text_after_taken : List ℕ → List ℕ
text_after_taken text = drop (prefix_len is_taken_off text) text

-- `::` stands there, or `##[`
abbrev pub begins_command : List ℕ → Bool
begins_command text =
    let rest = text_after_taken text in
    (begins_with 58 rest && begins_with 58 (rest_of rest))
    || (begins_with 35 rest && (begins_with 35 (rest_of rest) && begins_with 91 (rest_of (rest_of rest))))

-- the name of a file as it is shown, with `./` in front where it begins so
abbrev pub path_shown : List ℕ → List ℕ
path_shown name = if begins_command name then codes "./" ++ bytes_shown name else bytes_shown name

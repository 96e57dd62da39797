-- The users of a machine. Source: passwd(5), and what cron(8) does with the user's name of a job: getpwnam(3) knows it, or the line is refused.
use Rattle.std.specs.Prelude.{◌==◌, ◌&&◌, not, ℕ, ◌+◌, ◌-◌, Bool, false, List, [], length, Option, Some, None, option_map, unwrap_or}
use Rattle.std.specs.List.{list_any, slice_split}
use Rattle.std.specs.Str.{bytes_eq}
use Rattle.crontab.specs.declared.bytes.Kind.TheVariants as kinds
use Rattle.crontab.specs.Bytes.{front, text_after, begins_with}
use Rattle.croncheck_warnings.specs.declared.users.Users.{Users}

-- a line is that of the user of this name, which stands in front of its first colon
abbrev pub is_line_of : List ℕ → List ℕ → Bool
is_line_of name line = bytes_eq (front (kinds.But 58) line) name && begins_with 58 (text_after (kinds.But 58) line)

-- a text as /etc/passwd has a user of this name
abbrev pub has_user : List ℕ → List ℕ → Bool
has_user text name = list_any (is_line_of name) (slice_split (λ b. b == 10) text)

-- the text of the users that are known, if any are
abbrev pub users_seen : Option Users → Option (List ℕ)
users_seen users = option_map (λ u. u.text.now) users

-- a job's user is none: the file names one, the machine's users are known, and it is none of them
abbrev pub is_unknown : Option (List ℕ) → Option (List ℕ) → Bool
is_unknown None user = false
is_unknown (Some text) None = false
is_unknown (Some text) (Some name) = not (has_user text name)

-- a command begins with the name of a user of a text as /etc/passwd, and after blanks a path follows
abbrev pub begins_with_user : List ℕ → List ℕ → Bool
begins_with_user text command =
    has_user text (front kinds.Word command) && begins_with 47 (text_after kinds.Blank (text_after kinds.Word command))

-- where the user's name ends in the line of a job: one blank and the command stand after it
abbrev pub user_end : List ℕ → List ℕ → ℕ
user_end line command = length line - (length command + 1)

-- and where it begins
abbrev pub user_start : List ℕ → List ℕ → Option (List ℕ) → ℕ
user_start line command user = user_end line command - length (unwrap_or user [])

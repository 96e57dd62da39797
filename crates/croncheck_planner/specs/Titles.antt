-- What jobs are called in a plan. Source: docs/CRONTAB.md ("A plan").
use Rattle.std.specs.Prelude.{ℕ, ◌==◌, ◌-◌, ◌&&◌, ◌||◌, nat_le, nat_lt, Bool, true, false, not, List, [], ◌∷◌, ◌++◌, codes, length, drop, take, filter, is_some, Option, Some, None, if◌then◌else◌}
use Rattle.std.specs.List.{list_all, list_any, prefix_len, suffix_len}
use Rattle.std.specs.Str.{bytes_eq}
use Rattle.crontab.specs.declared.bytes.Kind.TheVariants as kinds
use Rattle.crontab.specs.declared.field.FieldBounds.{FieldBounds}
use Rattle.crontab.specs.Bytes.{begins_with, front, is_alphanumeric, is_blank, is_digit, rest_of, text_after, trim_end}
use Rattle.crontab.specs.Field.{part_of}
use Rattle.crontab.specs.Line.{Line, Task, next, nickname_of, month_bounds, weekday_bounds, blank, comment, setting, job, pattern, refused}
use Rattle.crontab.specs.Notes.{lowered}
use Rattle.croncheck_planner.specs.declared.plan.title.Heading.{Heading}
use Rattle.crontab.specs.Setting.{is_setting}
use Rattle.croncheck_report.specs.Allowed.{list_in}
use Rattle.croncheck_planner.specs.Programs.{is_equals, is_name_byte, is_no_slash, last_part, or_text, path_of, program_of}

-- ---- the comment above a job

abbrev pub is_hash : ℕ → Bool
is_hash b = b == 35

-- a byte alone
abbrev pub is_lone : ℕ → List ℕ → Bool
is_lone byte [] = false
is_lone byte (b ∷ []) = b == byte
is_lone byte (b ∷ c ∷ bs) = false

-- an at sign stands in front
abbrev pub is_at : List ℕ → Bool
is_at [] = false
is_at (b ∷ bs) = b == 64

abbrev pub without_hashes : List ℕ → List ℕ
without_hashes text = drop (prefix_len is_hash text) text

-- the text of a comment: without the hashes in front, and the blanks around it
abbrev pub comment_text : List ℕ → List ℕ
comment_text line = trim_end (text_after kinds.Blank (without_hashes (text_after kinds.Blank line)))

-- a digit, or one of `*`, `,`, `-` and `/`
abbrev pub is_of_field : ℕ → Bool
is_of_field b = is_digit b || (b == 42 || (b == 44 || (b == 45 || b == 47)))

-- a star, or a word of such bytes with a digit: the minutes of a job
abbrev pub is_field : List ℕ → Bool
is_field word = list_all is_of_field word && (is_lone 42 word || list_any is_digit word)

-- a text begins with the minutes of a job, or with the sign of a nickname
abbrev pub begins_as_job : List ℕ → Bool
begins_as_job text = is_at text || is_field (front kinds.Word text)

-- ---- what may have been a line

-- a digit or a star stands in a word: it may end with the minutes of a job, as `OFF:0`
abbrev pub is_number_byte : ℕ → Bool
is_number_byte b = is_digit b || b == 42

-- a word begins with a digit or a star, as hours and days of the month do
abbrev pub begins_as_number : List ℕ → Bool
begins_as_number [] = false
begins_as_number (b ∷ bs) = is_number_byte b

-- a word begins so, or with a part of a field with these bounds: names stand there, too
abbrev pub begins_as_part : FieldBounds → List ℕ → Bool
begins_as_part bounds word = begins_as_number word || is_some (part_of bounds word)

-- the hours, days, months and weekdays of a job stand in front
abbrev pub begins_as_hours : List ℕ → Bool
begins_as_hours text =
    let days = next text in
    let months = next days in
    begins_as_number (front kinds.Word text) && (begins_as_number (front kinds.Word days)
    && (begins_as_part month_bounds (front kinds.Word months) && begins_as_part weekday_bounds (front kinds.Word (next months))))

-- the five fields of a job do
abbrev pub begins_as_fields : List ℕ → Bool
begins_as_fields text = list_any is_number_byte (front kinds.Word text) && begins_as_hours (next text)

-- what follows the first `@` of a word
abbrev pub text_after_at : List ℕ → List ℕ
text_after_at word = rest_of (text_after (kinds.But 64) word)

-- a word is a nickname, whatever stands in front of its `@`: one of cron's, in capitals or small, or `every` of other programs
abbrev pub is_nickname_word : List ℕ → Bool
is_nickname_word word = is_some (nickname_of (lowered (text_after_at word))) || bytes_eq (text_after_at word) (codes "every")

-- `-p` and more, as mysql takes a password
abbrev pub is_password_word : List ℕ → Bool
is_password_word word = begins_with 45 word && (begins_with 112 (rest_of word) && not (length (rest_of (rest_of word)) == 0))

-- the fields of a job, a nickname or `-p` and more stand in front
unfoldable pub tells_in_front : List ℕ → Bool
tells_in_front text =
    is_password_word (front kinds.Word text) || (is_nickname_word (front kinds.Word text) || begins_as_fields text)

-- they stand behind the blank in front
abbrev pub tells_after_blank : List ℕ → Bool
tells_after_blank [] = false
tells_after_blank (b ∷ bs) = is_blank b && tells_in_front bs

-- a lone `=` with a value behind it, and blanks between
abbrev pub is_apart : List ℕ → Bool
is_apart text = begins_with 61 text && (not (begins_with 61 (rest_of text)) && not (length (text_after kinds.Blank (rest_of text)) == 0))

-- the last byte of a name stands in front, and `=` behind it; or behind blanks after it, with a value
abbrev pub sets_in_front : List ℕ → Bool
sets_in_front [] = false
sets_in_front (b ∷ bs) = is_name_byte b && (begins_with 61 bs || is_apart (text_after kinds.Blank bs))

-- one of both
abbrev pub tells_here : List ℕ → Bool
tells_here text = tells_after_blank text || sets_in_front text

-- one of both, anywhere in a text
abbrev pub tells_anywhere : List ℕ → Bool
tells_anywhere [] = false
tells_anywhere (b ∷ bs) = tells_here (b ∷ bs) || tells_anywhere bs

-- a text may be a line that was taken out, which may hold a password: it reads as a setting, begins as a job does, or tells of one anywhere
unfoldable pub reads_as_line : List ℕ → Bool
reads_as_line text = is_setting text || (begins_as_job text || (tells_in_front text || tells_anywhere text))

-- a text begins with `m h`, as the comment does that names the fields in what `crontab -e` begins a file with
abbrev pub names_fields : List ℕ → Bool
names_fields text = is_lone 109 (front kinds.Word text) && is_lone 104 (front kinds.Word (next text))

-- a byte begins a character of UTF-8, or stands for itself
abbrev pub begins_sign : ℕ → Bool
begins_sign b = nat_lt b 128 || nat_le 192 b

-- the most signs of a comment that is a title
abbrev pub most_signs : ℕ
most_signs = 60

abbrev pub is_long : List ℕ → Bool
is_long text = nat_lt most_signs (length (filter begins_sign text))

-- the text of a comment that neither reads as a line nor names the fields of one, and isn't long
unfoldable pub title_text : List ℕ → List ℕ
title_text text = if reads_as_line text || (names_fields text || is_long text) then [] else text

-- what stands directly above a line: whether a comment does, and the title that it gives
pub record HeadingSeen : Type 0 where
  pub title : List ℕ
  pub is_comment : Bool

abbrev pub heading_seen : Heading → HeadingSeen
heading_seen h = record { title = h.title.items; is_comment = h.is_comment }

-- no comment does
abbrev pub no_heading : HeadingSeen
no_heading = record { title = []; is_comment = false }

-- a comment gives a title if it is the only line of its kind there
abbrev pub title_below : Bool → List ℕ → List ℕ
title_below is_comment line = if is_comment then [] else title_text (comment_text line)

-- below a comment: one without a text, and one that allows something, leaves what stands above it
abbrev pub heading_below : Option (List ℕ) → HeadingSeen → List ℕ → HeadingSeen
heading_below None above line =
    if length (comment_text line) == 0 then above else record { title = title_below above.is_comment line; is_comment = true }
heading_below (Some list) above line = above

-- what stands above the line after a line, above which this stands: nothing where it is no comment
abbrev pub heading : HeadingSeen → Line → List ℕ → HeadingSeen
heading above blank line = no_heading
heading above comment line = heading_below (list_in line) above line
heading above (setting is_zone) line = no_heading
heading above (job task) line = no_heading
heading above (pattern text) line = no_heading
heading above (refused fault) line = no_heading

-- ---- titles

-- the last part of the path of a command's program; nothing where that word has a `=`, since a variable may be set to a password
abbrev pub title_of_path : List ℕ → List ℕ
title_of_path path = if list_any is_equals path then [] else last_part path

-- the title of a job by its command
abbrev pub title_of_command : List ℕ → List ℕ
title_of_command command = title_of_path (path_of (program_of (text_after kinds.Blank command)))

-- the same, or a job's times where that is nothing
abbrev pub title_of_job : Task → List ℕ
title_of_job task = or_text (title_of_command task.command) task.schedule

-- the same of the job of a line
abbrev pub title_of_line : Line → List ℕ
title_of_line blank = []
title_of_line comment = []
title_of_line (setting is_zone) = []
title_of_line (job task) = title_of_job task
title_of_line (pattern text) = text
title_of_line (refused fault) = []

-- ---- files of a folder cron.d

-- a letter, a digit, `_` or `-`: cron takes a file of such a name there
abbrev pub is_stem_byte : ℕ → Bool
is_stem_byte b = is_alphanumeric b || (b == 95 || b == 45)

-- what stands after the last slash of a path, and what stands before that slash
abbrev pub name_in : List ℕ → List ℕ
name_in path = drop (length path - suffix_len is_no_slash path) path

abbrev pub without_last : List ℕ → List ℕ
without_last text = take (length text - 1) text

abbrev pub folder_of : List ℕ → List ℕ
folder_of path = without_last (take (length path - suffix_len is_no_slash path) path)

-- the name of a file in a folder cron.d, if cron takes it; else nothing
abbrev pub stem_of : List ℕ → List ℕ
stem_of path = if bytes_eq (name_in (folder_of path)) (codes "cron.d") && list_all is_stem_byte (name_in path) then name_in path else []

-- ---- the title

-- the title of the job of a line in a file, above which this stands: that, if there is any; or the name of its file in cron.d; or its program
abbrev pub title_of : List ℕ → List ℕ → Line → List ℕ
title_of file above is = or_text above (or_text (stem_of file) (title_of_line is))

-- the title beside other jobs of the file, if that is another: the program stands behind the file's name
abbrev pub title_by_stem : List ℕ → List ℕ → Option (List ℕ)
title_by_stem [] title = None
title_by_stem (b ∷ bs) title = Some ((b ∷ bs) ++ (codes ": " ++ title))

-- the title beside other jobs of the file, of the job of a line above which this stands: none where a comment gives the title
abbrev pub title_beside : List ℕ → List ℕ → Line → Option (List ℕ)
title_beside file [] is = title_by_stem (stem_of file) (title_of_line is)
title_beside file (b ∷ bs) is = None

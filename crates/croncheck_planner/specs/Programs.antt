-- The program that a command runs, where others stand before it. Source: docs/CRONTAB.md ("A plan").
use Rattle.std.specs.Prelude.{ℕ, ◌==◌, ◌-◌, ◌&&◌, ◌||◌, Bool, true, false, not, List, [], ◌∷◌, codes, length, drop, take, Option, Some, None, option_map, unwrap_or, if◌then◌else◌}
use Rattle.std.specs.List.{list_all, list_any, prefix_len, suffix_len}
use Rattle.std.specs.Str.{bytes_eq}
use Rattle.crontab.specs.declared.bytes.Kind.TheVariants as kinds
use Rattle.crontab.specs.Bytes.{begins_with, front, is_alphanumeric, is_blank, is_digit, rest_of, text_after}
use Rattle.crontab.specs.Line.{next}
use Rattle.croncheck_planner.specs.declared.plan.program.Place.{Place}
use Rattle.croncheck_planner.specs.declared.plan.program.Place.TheVariants as places

-- a text, or another where there is none
abbrev pub or_text : List ℕ → List ℕ → List ℕ
or_text [] other = other
or_text (b ∷ bs) other = b ∷ bs

-- ---- guards

-- a command that asks whether another one is to run
abbrev pub is_test : List ℕ → Bool
is_test word =
    bytes_eq word (codes "test") || (bytes_eq word (codes "[") || (bytes_eq word (codes "[[") || (bytes_eq word (codes "which") || bytes_eq word (codes "command"))))

-- one that goes to a folder, waits or ends
abbrev pub is_move : List ℕ → Bool
is_move word = bytes_eq word (codes "cd") || (bytes_eq word (codes "sleep") || bytes_eq word (codes "exit"))

-- a command that leads to another one
abbrev pub is_guard : List ℕ → Bool
is_guard word = is_test word || is_move word

-- a word behind which a command stands
abbrev pub is_opening : List ℕ → Bool
is_opening word =
    bytes_eq word (codes "if") || (bytes_eq word (codes "then") || (bytes_eq word (codes "{") || (bytes_eq word (codes "(") || bytes_eq word (codes "!"))))

-- a byte that a shell doesn't take as it stands: a quote, a backslash, `$`, or a bracket
abbrev pub is_of_shell : ℕ → Bool
is_of_shell b = b == 34 || (b == 39 || (b == 92 || (b == 96 || (b == 36 || (b == 40 || (b == 41 || (b == 123 || b == 125)))))))

-- a letter, a digit or `_`
abbrev pub is_name_byte : ℕ → Bool
is_name_byte b = is_alphanumeric b || b == 95

abbrev pub is_equals : ℕ → Bool
is_equals b = b == 61

-- a word sets a variable, as `A=b`, to what ends with the word
abbrev pub is_assignment : List ℕ → Bool
is_assignment word =
    list_any is_equals word
    && (not (begins_with 61 word) && (list_all is_name_byte (front (kinds.But 61) word) && not (list_any is_of_shell word)))

-- ---- where a command ends

-- a quote of the shell
abbrev pub is_mark : ℕ → Bool
is_mark b = b == 34 || (b == 39 || b == 96)

-- where a byte stands after another one: a backslash takes the next byte as it stands, but in single quotes
abbrev pub place_after : Place → ℕ → Place
place_after places.Open b = if b == 92 then places.Taken None else if is_mark b then places.Quoted b else places.Open
place_after (places.Quoted quote) b =
    if b == 92 && not (quote == 39) then places.Taken (Some quote) else if b == quote then places.Open else places.Quoted quote
place_after (places.Taken None) b = places.Open
place_after (places.Taken (Some quote)) b = places.Quoted quote

-- `&&`, `||` or `;` stands in front
abbrev pub ends_command : List ℕ → Bool
ends_command text =
    begins_with 59 text
    || ((begins_with 38 text && begins_with 38 (rest_of text)) || (begins_with 124 text && begins_with 124 (rest_of text)))

-- what follows such a sign in front, and the bytes of its kind and the blanks behind it
abbrev pub is_of_sign : ℕ → Bool
is_of_sign b = is_blank b || (b == 59 || (b == 38 || b == 124))

abbrev pub text_after_sign : List ℕ → List ℕ
text_after_sign text = drop (prefix_len is_of_sign text) text

-- a command ends in front of a text at such a place
abbrev pub is_end : Place → List ℕ → Bool
is_end places.Open text = ends_command text
is_end (places.Quoted quote) text = false
is_end (places.Taken quote) text = false

-- what follows the first such sign that stands in no quotes, in a text that begins at such a place; nothing where there is none
abbrev pub text_after_command : Place → List ℕ → List ℕ
text_after_command place [] = []
text_after_command place (b ∷ bs) =
    if is_end place (b ∷ bs) then text_after_sign (b ∷ bs) else text_after_command (place_after place b) bs

-- ---- the program

-- what follows a command that leads to another one, if something does
abbrev pub after_guard : List ℕ → Option (List ℕ)
after_guard text =
    if length (text_after_command places.Open text) == 0 then None else Some (text_after_command places.Open text)

-- what stands behind what leads to a program; none where that is the program
abbrev pub step : List ℕ → Option (List ℕ)
step text =
    if is_opening (front kinds.Word text) || is_assignment (front kinds.Word text) then Some (next text)
    else if is_guard (front kinds.Word text) then after_guard text
    else None

-- a command from its program on: step by step, at most once for each of some bytes
abbrev pub program_along : List ℕ → List ℕ → List ℕ
program_along [] text = text
program_along (b ∷ bs) text = unwrap_or (option_map (λ rest. program_along bs rest) (step text)) text

-- for each of its own bytes
abbrev pub program_of : List ℕ → List ℕ
program_of command = program_along command command

-- ---- its name

-- a byte of a word: neither a blank nor one at which a shell ends it, or cron the command
abbrev pub is_of_word : ℕ → Bool
is_of_word b = not (is_blank b || (b == 59 || (b == 38 || (b == 124 || (b == 60 || (b == 62 || (b == 40 || (b == 41 || b == 37))))))))

-- the word with which a text begins
abbrev pub word_of : List ℕ → List ℕ
word_of text = take (prefix_len is_of_word text) text

-- it is an option, and has no quote
abbrev pub is_option : List ℕ → Bool
is_option word = begins_with 45 word && not (list_any is_of_shell word)

-- what follows the options in front of a text: at most one for each of some bytes
abbrev pub operand_along : List ℕ → List ℕ → List ℕ
operand_along [] text = text
operand_along (b ∷ bs) text = if is_option (front kinds.Word text) then operand_along bs (next text) else text

-- the first word behind a text's first one that is no option
abbrev pub operand_of : List ℕ → List ℕ
operand_of text = word_of (operand_along text (next text))

-- programs that run what a file has, or the files of a folder
abbrev pub is_file_reader : List ℕ → Bool
is_file_reader word =
    bytes_eq word (codes "run-parts") || (bytes_eq word (codes "php") || (bytes_eq word (codes "python") || bytes_eq word (codes "perl")))

abbrev pub is_shell : List ℕ → Bool
is_shell word = bytes_eq word (codes "sh") || (bytes_eq word (codes "bash") || bytes_eq word (codes "dash"))

abbrev pub is_reader : List ℕ → Bool
is_reader word = is_file_reader word || is_shell word

abbrev pub is_version_byte : ℕ → Bool
is_version_byte b = is_digit b || b == 46

-- a name is that of one of these, with a version behind it or not, as `python3.11`
abbrev pub is_runner : List ℕ → Bool
is_runner name = is_reader (take (length name - suffix_len is_version_byte name) name)

-- a word may be the path of a file: it has a slash or a dot, and nothing that a shell doesn't take as it stands, nor a `=`
abbrev pub is_path_byte : ℕ → Bool
is_path_byte b = b == 47 || b == 46

abbrev pub is_path : List ℕ → Bool
is_path word = list_any is_path_byte word && not (list_any is_of_shell word || list_any is_equals word)

-- the word that says what a program runs, where that may be a path; else the program's own
abbrev pub file_or : List ℕ → List ℕ → List ℕ
file_or file program = if is_path file then file else program

abbrev pub is_no_slash : ℕ → Bool
is_no_slash b = not (b == 47)

-- what stands after the last slash of a path; the whole where that is nothing
abbrev pub last_part : List ℕ → List ℕ
last_part path = or_text (drop (length path - suffix_len is_no_slash path) path) path

-- the path of a text's program; of one that runs a file or a folder, that of this
abbrev pub path_of : List ℕ → List ℕ
path_of text = if is_runner (last_part (word_of text)) then file_or (operand_of text) (word_of text) else word_of text

-- Where in its line a fault lies. A place is that of two texts that both reach to the line's end: it begins where the first begins, and
-- ends where the second does. Source: this repository's page on the lines of a crontab.
use Rattle.std.specs.Prelude.{◌≡◌, ℕ, Bool, ◌-◌, List, [], length, drop, Option, Some, None, unwrap_or, ⊤, if◌then◌else◌}
use Rattle.crontab.specs.declared.bytes.Kind.TheVariants as kinds
use Rattle.crontab.specs.declared.line.Entry.{Entry}
use Rattle.crontab.specs.declared.line.Entry.TheVariants as entries
use Rattle.crontab.specs.declared.line.Fault.{Fault}
use Rattle.crontab.specs.declared.line.Fault.TheVariants as faults
use Rattle.crontab.specs.declared.field.FieldBounds.{FieldBounds}
use Rattle.crontab.specs.Bytes.{front, text_after, begins_with, rest_of}
use Rattle.crontab.specs.Line.{next, minute_bounds, hour_bounds, day_bounds, month_bounds, weekday_bounds, Line, refused}
use Rattle.crontab.specs.List.{refused_in}

-- what follows the times: `@` and a word, or five words
abbrev pub text_after_times : List ℕ → List ℕ
text_after_times text = if begins_with 64 text then next text else next (next (next (next (next text))))

-- the command, after the times: in a crontab of the system a user and one blank stand before it
abbrev pub command_of : Bool → List ℕ → List ℕ
command_of system rest = if system then rest_of (text_after kinds.Word rest) else rest

-- the place in a field of the part for which cron refuses it; of a field that cron takes, the whole of it
abbrev pub place_in : FieldBounds → List ℕ → ℕ × ℕ
place_in bounds field = unwrap_or (refused_in bounds field) (0, length field)

-- the text from the refused part of its first word on, and the text after that part
abbrev pub text_from_refused : FieldBounds → List ℕ → List ℕ
text_from_refused bounds text = drop (place_in bounds (front kinds.Word text)).0 text

abbrev pub text_after_refused : FieldBounds → List ℕ → List ℕ
text_after_refused bounds text = drop (place_in bounds (front kinds.Word text)).1 text

-- the text from the first byte of a fault on: the first byte 0, the refused part of a field, a word, or the command
abbrev pub text_from_fault : Bool → List ℕ → Fault → List ℕ
text_from_fault system text faults.Nul = text_after (kinds.But 0) text
text_from_fault system text faults.Minutes = text_from_refused minute_bounds text
text_from_fault system text faults.Hours = text_from_refused hour_bounds (next text)
text_from_fault system text faults.Days = text_from_refused day_bounds (next (next text))
text_from_fault system text faults.Months = text_from_refused month_bounds (next (next (next text)))
text_from_fault system text faults.Weekdays = text_from_refused weekday_bounds (next (next (next (next text))))
text_from_fault system text faults.Nickname = text
text_from_fault system text faults.User = text_after_times text
text_from_fault system text faults.Command = command_of system (text_after_times text)
text_from_fault system text faults.LongCommand = command_of system (text_after_times text)

-- the text after its last byte: after one byte, that part, the word, or none
abbrev pub text_after_fault : Bool → List ℕ → Fault → List ℕ
text_after_fault system text faults.Nul = rest_of (text_after (kinds.But 0) text)
text_after_fault system text faults.Minutes = text_after_refused minute_bounds text
text_after_fault system text faults.Hours = text_after_refused hour_bounds (next text)
text_after_fault system text faults.Days = text_after_refused day_bounds (next (next text))
text_after_fault system text faults.Months = text_after_refused month_bounds (next (next (next text)))
text_after_fault system text faults.Weekdays = text_after_refused weekday_bounds (next (next (next (next text))))
text_after_fault system text faults.Nickname = text_after kinds.Word text
text_after_fault system text faults.User = text_after kinds.Word (text_after_times text)
text_after_fault system text faults.Command = []
text_after_fault system text faults.LongCommand = []

-- a place in a line from where one text begins to where another does
abbrev pub IsBetween : List ℕ → List ℕ → List ℕ → ℕ → ℕ → Type 0
IsBetween line from past start end = (start ≡ length line - length from) × (end ≡ length line - length past)

-- the place of a fault of a line, whose text stands after its blanks
abbrev pub IsPlaceOf : Bool → List ℕ → List ℕ → Fault → ℕ → ℕ → Type 0
IsPlaceOf system line text fault start end = IsBetween line (text_from_fault system text fault) (text_after_fault system text fault) start end

-- the place of the fault of a line, if it is refused
abbrev pub place_of : Bool → List ℕ → Line → Option (ℕ × ℕ)
place_of system line (refused fault) =
    let text = text_after kinds.Blank line in
    Some (length line - length (text_from_fault system text fault), length line - length (text_after_fault system text fault))
place_of system line other = None

-- a refused line names the place of its fault
abbrev pub NamesPlace : Bool → List ℕ → Entry → Type 0
NamesPlace system line (entries.Refused fault start end) = IsPlaceOf system line (text_after kinds.Blank line) fault start end
NamesPlace system line other = ⊤

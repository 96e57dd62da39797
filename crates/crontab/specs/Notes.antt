-- The notes of a line of a crontab: where cron(8) reads it otherwise than croner's parser reads the same five fields, or refuses what
-- that parser takes. Each is a property of the line's bytes. Source: docs/CRONTAB.md, 'Where cron and the crate differ'.
use Rattle.std.specs.Prelude.{ℕ, ◌^◌, Bool, true, false, not, ◌&&◌, ◌||◌, ◌==◌, nat_lt, nat_le, List, [], ◌∷◌, length, take, drop, fold, filter, map, codes, Option, Some, None}
use Rattle.std.specs.Char.{to_ascii_lowercase}
use Rattle.std.specs.List.{list_all, list_any, slice_split, prefix_len}
use Rattle.std.specs.Option.{is_some, is_none}
use Rattle.std.specs.Str.{bytes_eq}
use Rattle.crontab.specs.declared.bytes.Kind.{Kind}
use Rattle.crontab.specs.declared.bytes.Kind.TheVariants as kinds
use Rattle.crontab.specs.declared.field.Names.TheVariants as names
use Rattle.crontab.specs.declared.field.SteppedRange.{SteppedRange}
use Rattle.crontab.specs.declared.field.FieldBounds.{FieldBounds}
use Rattle.crontab.specs.declared.line.Fault.{Fault}
use Rattle.crontab.specs.declared.line.Fault.TheVariants as faults
use Rattle.crontab.specs.declared.notes.Note.{Note}
use Rattle.crontab.specs.declared.notes.Note.TheVariants as notes
use Rattle.crontab.specs.declared.notes.Sign.{Sign}
use Rattle.crontab.specs.declared.notes.Sign.TheVariants as signs
use Rattle.crontab.specs.Bytes.{is_of, is_digit, is_alphanumeric, front, text_after, begins_with, rest_of}
use Rattle.crontab.specs.Field.{with_digit, name_of, part_of}
use Rattle.crontab.specs.List.{parts_of, are_uneven}
use Rattle.crontab.specs.Line.{Five, minute_bounds, hour_bounds, day_bounds, month_bounds, weekday_bounds, next, words_of, are_both, nickname_of}
use Rattle.crontab.specs.Setting.{has}

-- ---- names

-- the name by which a note is known
abbrev pub note_name : Note → List ℕ
note_name notes.StarDay = codes "star-day"
note_name notes.StarAmongParts = codes "star-among-parts"
note_name notes.UnevenStep = codes "uneven-step"
note_name notes.EmptyPart = codes "empty-part"
note_name notes.OtherName = codes "other-name"
note_name notes.Modifier = codes "modifier"
note_name notes.CapitalNickname = codes "capital-nickname"
note_name notes.Seconds = codes "seconds"

-- ---- signs in a field: of a piece between its commas, or of a word of letters and digits

-- cron passes over bytes after this part
abbrev pub is_followed : Option (SteppedRange × List ℕ) → Bool
is_followed None = false
is_followed (Some read) = nat_lt 0 (length read.1)

-- a number that 32 bits don't hold
abbrev pub is_large : List ℕ → Bool
is_large word = list_all is_digit word && nat_le (2 ^ 32) (fold with_digit 0 word)

-- the name of a month or of a weekday
abbrev pub is_named : List ℕ → Bool
is_named word = is_some (name_of names.Months word) || is_some (name_of names.Weekdays word)

-- the word is these small letters, in capitals or small
abbrev pub reads : List ℕ → List ℕ → Bool
reads letters word = bytes_eq (map to_ascii_lowercase word) letters

-- digits, one at least, and after them these letters
abbrev pub is_numbered : List ℕ → List ℕ → Bool
is_numbered letters word = nat_lt 0 (prefix_len is_digit word) && reads letters (drop (prefix_len is_digit word) word)

-- a weekday's name, and after it an L
abbrev pub is_named_last : List ℕ → Bool
is_named_last word = reads (codes "l") (drop 3 word) && is_some (name_of names.Weekdays (take 3 word))

-- a modifier of a field of weekdays
abbrev pub is_last_weekday : List ℕ → Bool
is_last_weekday word = reads (codes "l") word || (is_numbered (codes "l") word || is_named_last word)

-- digits, or none; a name of the field; or such a modifier
abbrev pub is_weekday_word : FieldBounds → List ℕ → Bool
is_weekday_word bounds word = list_all is_digit word || (is_some (name_of bounds.names word) || is_last_weekday word)

abbrev pub passes : Sign → FieldBounds → List ℕ → Bool
passes signs.Followed bounds piece = is_followed (part_of bounds piece)
passes signs.Large bounds word = is_large word
passes signs.Empty bounds piece = length piece == 0
passes signs.OtherName bounds word = is_named word && is_none (name_of bounds.names word)
passes signs.NamedStep bounds piece = is_named (front kinds.Alphanumeric (rest_of (text_after (kinds.But 47) piece)))
passes signs.DayModifier bounds word = reads (codes "l") word || (reads (codes "lw") word || is_numbered (codes "w") word)
passes signs.NoWeekday bounds word = not (is_weekday_word bounds word)
passes signs.WeekdayModifier bounds word = is_last_weekday word

-- one of the runs of bytes of a kind passes
abbrev pub any_run : Sign → FieldBounds → Kind → List ℕ → Bool
any_run sign bounds kind text = list_any (passes sign bounds) (slice_split (λ b. not (is_of kind b)) text)

-- ---- what cron takes of a field, and leaves out of it

-- cron passes over bytes of the field after a part, which are no comma
abbrev pub has_passed_over : FieldBounds → List ℕ → Bool
has_passed_over bounds field = any_run signs.Followed bounds (kinds.But 44) field

-- a word of the field is a number that 32 bits don't hold. Where bytes are passed over, only that is told
abbrev pub has_large_number : FieldBounds → List ℕ → Bool
has_large_number bounds field = not (has_passed_over bounds field) && any_run signs.Large bounds kinds.Alphanumeric field

-- ---- what a word may have been meant as

-- letters and digits, and the signs of a field of weekdays
abbrev pub is_weekday_byte : ℕ → Bool
is_weekday_byte b = is_alphanumeric b || (b == 42 || (b == 44 || (b == 45 || (b == 47 || (b == 63 || (b == 35 || b == 43))))))

-- a word that may be a field of weekdays: such bytes alone, and of letters and digits only numbers, weekdays and modifiers
abbrev pub looks_like_weekdays : List ℕ → Bool
looks_like_weekdays word = list_all is_weekday_byte word && not (any_run signs.NoWeekday weekday_bounds kinds.Alphanumeric word)

-- a word of the field is a name, and none of this field
abbrev pub has_other_name : FieldBounds → List ℕ → Bool
has_other_name bounds field = any_run signs.OtherName bounds kinds.Alphanumeric field

-- ---- what cron takes and reads otherwise

-- a star that names all values of its field
abbrev pub is_whole_star : SteppedRange → Bool
is_whole_star part = part.is_star && part.step == 1

abbrev pub has_star_among : Option (List SteppedRange) → Bool
has_star_among None = false
has_star_among (Some parts) = nat_lt 1 (length parts) && list_any is_whole_star parts

-- a field that cron takes has a star that names all values beside other parts
abbrev pub is_star_among : FieldBounds → List ℕ → Bool
is_star_among bounds field = has_star_among (parts_of bounds field)

abbrev pub any_star_among : Five → Bool
any_star_among w =
    is_star_among minute_bounds w.minutes || (is_star_among hour_bounds w.hours || (is_star_among day_bounds w.days
    || (is_star_among month_bounds w.months || is_star_among weekday_bounds w.weekdays)))

-- a step in days, months or weekdays is shorter from the last value to the next first one
abbrev pub has_uneven_step : ℕ → FieldBounds → List ℕ → Bool
has_uneven_step turn bounds field = are_uneven turn (parts_of bounds field)

abbrev pub any_uneven_step : Five → Bool
any_uneven_step w =
    has_uneven_step 31 day_bounds w.days || (has_uneven_step 12 month_bounds w.months || has_uneven_step 7 weekday_bounds w.weekdays)

-- a day field begins with a star, and neither is a star alone: both must match
abbrev pub is_star_day : Five → Bool
is_star_day w = are_both w && not (bytes_eq w.days (codes "*") || bytes_eq w.weekdays (codes "*"))

-- a note of the five words of a job
abbrev pub are_words_noted : Note → Five → Bool
are_words_noted notes.StarDay w = is_star_day w
are_words_noted notes.StarAmongParts w = any_star_among w
are_words_noted notes.UnevenStep w = any_uneven_step w
are_words_noted other w = false

-- a note of a job, by its bytes from the first that is no blank on, and by their words
abbrev pub is_job_noted : Note → List ℕ → Five → Bool
is_job_noted note text w = not (begins_with 64 text) && are_words_noted note w

-- ---- what cron refuses and croner's parser takes

-- the word of a field that is at fault
abbrev pub field_at : Fault → Five → Option (FieldBounds × List ℕ)
field_at faults.Minutes w = Some (minute_bounds, w.minutes)
field_at faults.Hours w = Some (hour_bounds, w.hours)
field_at faults.Days w = Some (day_bounds, w.days)
field_at faults.Months w = Some (month_bounds, w.months)
field_at faults.Weekdays w = Some (weekday_bounds, w.weekdays)
field_at other w = None

-- the field has a modifier of croner's: L, W or `?` in days, L, `?` or a `+` in front in weekdays
abbrev pub has_modifier : Fault → FieldBounds → List ℕ → Bool
has_modifier faults.Days bounds field = has 63 field || any_run signs.DayModifier bounds kinds.Alphanumeric field
has_modifier faults.Weekdays bounds field = has 63 field || (begins_with 43 field || any_run signs.WeekdayModifier bounds kinds.Alphanumeric field)
has_modifier other bounds field = false

-- a note of a field that is at fault
abbrev pub is_fault_noted : Note → Fault → FieldBounds → List ℕ → Bool
is_fault_noted notes.EmptyPart fault bounds field = nat_lt 0 (length field) && any_run signs.Empty bounds (kinds.But 44) field
is_fault_noted notes.OtherName fault bounds field =
    has_other_name bounds field || any_run signs.NamedStep bounds (kinds.But 44) field
is_fault_noted notes.Modifier fault bounds field = has_modifier fault bounds field
is_fault_noted other fault bounds field = false

-- cron takes the field
abbrev pub takes : FieldBounds → List ℕ → Bool
takes bounds field = is_some (parts_of bounds field)

abbrev pub is_refused_field_noted : Note → Fault → Option (FieldBounds × List ℕ) → Bool
is_refused_field_noted note fault None = false
is_refused_field_noted note fault (Some at) = not (takes at.0 at.1) && is_fault_noted note fault at.0 at.1

-- cron takes a day field, or it has a modifier
abbrev pub takes_day : Fault → FieldBounds → List ℕ → Bool
takes_day fault bounds field = takes bounds field || has_modifier fault bounds field

abbrev pub takes_all : Five → Bool
takes_all w =
    takes minute_bounds w.minutes && (takes hour_bounds w.hours && (takes_day faults.Days day_bounds w.days
    && (takes month_bounds w.months && takes_day faults.Weekdays weekday_bounds w.weekdays)))

-- a field of seconds stands before five that cron takes, but for modifiers
abbrev pub has_seconds : List ℕ → Bool
has_seconds text = takes minute_bounds (front kinds.Word text) && takes_all (words_of (next text))

-- small letters
abbrev pub lowered : List ℕ → List ℕ
lowered word = map to_ascii_lowercase word

-- the fault is that of a field, or of a command that begins with a star
abbrev pub is_of_fields : Fault → Bool
is_of_fields faults.Command = true
is_of_fields faults.Minutes = true
is_of_fields faults.Hours = true
is_of_fields faults.Days = true
is_of_fields faults.Months = true
is_of_fields faults.Weekdays = true
is_of_fields other = false

abbrev pub is_of_nickname : Fault → Bool
is_of_nickname faults.Nickname = true
is_of_nickname other = false

-- a note of a line that is refused for this fault, by the same
abbrev pub is_refusal_noted : Note → Fault → List ℕ → Five → Bool
is_refusal_noted notes.CapitalNickname fault text w =
    is_of_nickname fault && is_some (nickname_of (lowered (front kinds.Word (rest_of text))))
is_refusal_noted notes.Seconds fault text w = is_of_fields fault && has_seconds text
is_refusal_noted note fault text w = is_refused_field_noted note fault (field_at fault w)

-- ---- the line

-- a line has a note, given the fault for which cron refuses it, if it does
abbrev pub is_text_noted : Note → Option Fault → List ℕ → Five → Bool
is_text_noted note None text w = is_job_noted note text w
is_text_noted note (Some fault) text w = is_refusal_noted note fault text w

-- the same by the bytes of the line
abbrev pub is_noted : Note → Option Fault → List ℕ → Bool
is_noted note fault line = is_text_noted note fault (text_after kinds.Blank line) (words_of (text_after kinds.Blank line))

-- all notes, in the order in which they are given
abbrev pub all_notes : List Note
all_notes =
    notes.StarDay ∷ notes.StarAmongParts ∷ notes.UnevenStep ∷ notes.EmptyPart ∷ notes.OtherName ∷ notes.Modifier ∷ notes.CapitalNickname ∷ notes.Seconds ∷ []

-- the notes of a line of a crontab, which is a job or is refused for this fault
abbrev pub notes_of : Option Fault → List ℕ → List Note
notes_of fault line = filter (λ note. is_noted note fault line) all_notes

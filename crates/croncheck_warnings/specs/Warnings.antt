-- Warnings of lines that are taken: each is given exactly where its definition here holds. Source: this crate's documentation of `Warning`.
use Rattle.std.specs.Prelude.{◌≡◌, ℕ, ◌+◌, ◌-◌, ◌%◌, Bool, true, false, not, ◌&&◌, ◌||◌, ◌==◌, nat_lt, nat_le, pos, List, [], ◌∷◌, length, fold, filter, codes, Option, Some, None, option_map, is_some, unwrap_or, if◌then◌else◌}
use Rattle.std.specs.Io.BufRead.{ends_with_byte}
use Rattle.std.specs.List.{list_any, list_all, slice_split, suffix_len}
use Rattle.std.specs.Option.{option_or}
use Rattle.std.specs.Str.{bytes_eq}
use Rattle.jiff_core.specs.Calendar.{days_in_month}
use Rattle.croner_base.specs.Field.{has_modifiers, marked_values}
use Rattle.croner_pattern.specs.Meaning.{Meaning}
use Rattle.croner_pattern.specs.Schedule.{is_plain}
use Rattle.croner.specs.declared.parser.fault.PatternField.{PatternField}
use Rattle.croner.specs.declared.parser.fault.PatternField.TheVariants as fields
use Rattle.croner.specs.parser.Grammar.{Texts, seven}
use Rattle.croner.specs.parser.Words.{AreWords}
use Rattle.croner.specs.Views.{job_of}
use Rattle.crontab.specs.declared.bytes.Kind.TheVariants as kinds
use Rattle.crontab.specs.declared.field.Names.TheVariants as names
use Rattle.crontab.specs.declared.field.FieldBounds.{FieldBounds}
use Rattle.crontab.specs.declared.field.SteppedRange.{SteppedRange}
use Rattle.croncheck_warnings.specs.Presets.{is_refusal}
use Rattle.croncheck_warnings.specs.declared.warnings.OtherWarning.{OtherWarning}
use Rattle.croncheck_warnings.specs.declared.warnings.OtherWarning.TheVariants as others
use Rattle.crontab.specs.Bytes.{front, text_after, begins_with}
use Rattle.crontab.specs.Line.{Five, words_of, minute_bounds, hour_bounds, day_bounds, month_bounds, weekday_bounds}
use Rattle.crontab.specs.List.{parts_of, names_nothing, is_uneven}
use Rattle.crontab.specs.Notes.{has_passed_over as are_passed_over, has_large_number as is_large_in, has_other_name as is_named_otherwise, looks_like_weekdays}
use Rattle.croncheck_warnings.specs.Hidden.{has_hidden, has_hidden_within}
use Rattle.croncheck_warnings.specs.Users.{users_seen, begins_with_user}
use Rattle.croncheck_warnings.specs.declared.warnings.Subject.{Subject as GivenSubject}
use Rattle.croncheck_warnings.specs.declared.warnings.Warning.{Warning}
use Rattle.croncheck_warnings.specs.declared.warnings.Warning.TheVariants as warnings
use Rattle.croncheck_warnings.specs.declared.warnings.command.Met.{Met}
use Rattle.croncheck_warnings.specs.declared.warnings.command.Met.TheVariants as met
use Rattle.croncheck_warnings.specs.declared.warnings.fields.Fields.{Fields}

-- ---- the texts of the fields

-- five words as the texts of the seven fields
abbrev pub texts_of_five : Five → Texts
texts_of_five w =
    record { seconds = codes "0"; minutes = w.minutes; hours = w.hours; days = w.days; months = w.months; days_of_week = w.weekdays; years = codes "*" }

-- the fields of a job's times as they are written: a nickname has none
abbrev pub fields_of_schedule : List ℕ → Option Texts
fields_of_schedule schedule = if begins_with 64 schedule then None else Some (texts_of_five (words_of schedule))

-- the fields of a pattern as they are written: where it has five to seven words
abbrev pub AreFieldsOfPattern : List ℕ → Option Texts → Type 0
AreFieldsOfPattern text fields = (words : List (List ℕ)) × AreWords text words × (fields ≡ seven words)

-- the values of each field
abbrev pub bounds_of_field : PatternField → FieldBounds
bounds_of_field fields.Seconds = minute_bounds
bounds_of_field fields.Minutes = minute_bounds
bounds_of_field fields.Hours = hour_bounds
bounds_of_field fields.DayOfMonth = day_bounds
bounds_of_field fields.Month = month_bounds
bounds_of_field fields.Weekday = weekday_bounds
bounds_of_field fields.Year = record { first = 1; last = 5000; names = names.None }

-- the text of a field
abbrev pub text_of_field : PatternField → Texts → List ℕ
text_of_field fields.Seconds t = t.seconds
text_of_field fields.Minutes t = t.minutes
text_of_field fields.Hours t = t.hours
text_of_field fields.DayOfMonth t = t.days
text_of_field fields.Month t = t.months
text_of_field fields.Weekday t = t.days_of_week
text_of_field fields.Year t = t.years

-- the parts of a field as cron(8) reads them. A field that only a pattern can have (`L`, `5,,10`) has none
abbrev pub parts_in : PatternField → Texts → List SteppedRange
parts_in field t = unwrap_or (parts_of (bounds_of_field field) (text_of_field field t)) []

-- how many values there are up to where a field of a time begins anew; 0 for the fields of a date
abbrev pub turn_of : PatternField → ℕ
turn_of fields.Seconds = 60
turn_of fields.Minutes = 60
turn_of fields.Hours = 24
turn_of other = 0

-- a step that leaves at most four runs of a minute or an hour; of hours any
abbrev pub is_long_step : PatternField → ℕ → Bool
is_long_step fields.Hours step = true
is_long_step other step = nat_lt 15 step

-- the first part of a field has one
abbrev pub has_long_step : PatternField → List SteppedRange → Bool
has_long_step field [] = false
has_long_step field (part ∷ more) = is_long_step field part.step

-- `uneven-step`: seconds, minutes or hours are one part `*/n`, n is below 60, 60 or 24 and doesn't divide it, and of seconds or minutes it is
-- above 15
abbrev pub has_uneven_step : PatternField → Texts → Bool
has_uneven_step field t = is_uneven (turn_of field) (parts_in field t) && has_long_step field (parts_in field t)

-- a range names its first value alone, since the second is past its end
abbrev pub is_beyond : SteppedRange → Bool
is_beyond part = nat_lt 1 part.step && (nat_le part.first part.last && nat_lt (part.last - part.first) part.step)

-- `step-beyond`: a step of the field leads past the end of its range
abbrev pub has_step_beyond : PatternField → Texts → Bool
has_step_beyond field t = list_any is_beyond (parts_in field t)

-- several values in a row, as one range without a step
abbrev pub is_one_range : List SteppedRange → Bool
is_one_range [] = false
is_one_range (part ∷ []) = not part.is_star && (part.step == 1 && nat_lt part.first part.last)
is_one_range (part ∷ other ∷ more) = false

-- the hours are written so
abbrev pub has_hours_in_range : Texts → Bool
has_hours_in_range t = is_one_range (parts_in fields.Hours t)

-- a range of the field runs down, so that it names nothing
abbrev pub has_range_down : PatternField → Texts → Bool
has_range_down field t = list_any names_nothing (parts_in field t)

-- cron passes over bytes of the field
abbrev pub has_passed_over : PatternField → Texts → Bool
has_passed_over field t = are_passed_over (bounds_of_field field) (text_of_field field t)

-- a number of the field is one that 32 bits don't hold
abbrev pub has_large_number : PatternField → Texts → Bool
has_large_number field t = is_large_in (bounds_of_field field) (text_of_field field t)

-- a word of the field is a name, and none of this field
abbrev pub has_other_name : PatternField → Texts → Bool
has_other_name field t = is_named_otherwise (bounds_of_field field) (text_of_field field t)

-- a field of a crontab has a byte that hides others
abbrev pub has_hidden_field : Texts → Bool
has_hidden_field t =
    has_hidden_within t.minutes || (has_hidden_within t.hours || (has_hidden_within t.days || (has_hidden_within t.months || has_hidden_within t.days_of_week)))

-- an item of the field's list is empty
abbrev pub has_empty_item : List ℕ → Bool
has_empty_item field = list_any (λ item. length item == 0) (slice_split (λ b. b == 44) field)

-- `empty-item`: an item is empty in one of the fields
abbrev pub has_empty_items : Texts → Bool
has_empty_items t =
    has_empty_item t.seconds || (has_empty_item t.minutes || (has_empty_item t.hours || (has_empty_item t.days
    || (has_empty_item t.months || (has_empty_item t.days_of_week || has_empty_item t.years)))))

-- ---- the meaning

-- each day of the month, and each weekday, is named by itself
abbrev pub names_each_day : Meaning → Bool
names_each_day m = length (marked_values 1 m.days) == 31

-- each weekday is named by itself
abbrev pub names_each_weekday : Meaning → Bool
names_each_weekday m = list_all (is_plain m.days_of_week) (0 ∷ 1 ∷ 2 ∷ 3 ∷ 4 ∷ 5 ∷ 6 ∷ [])

-- a day field is a star, or a day has to match both
abbrev pub is_one_day_side : Meaning → Bool
is_one_day_side m = m.star_day || (m.star_weekday || m.and)

-- `either-day`: neither day field is a star, a day needn't match both, and not both of them name each day. In a crontab a day has to match
-- both where one of them begins with a star
abbrev pub is_either_day : Meaning → Bool
is_either_day m = not (is_one_day_side m) && not (names_each_day m && names_each_weekday m)

-- each day of the named months is named: by both day fields, or, where a day needs to match only one, by either
abbrev pub names_all_days : Meaning → Bool
names_all_days m =
    if is_one_day_side m then names_each_day m && names_each_weekday m else names_each_day m || names_each_weekday m

-- each date is named
abbrev pub names_each_date : Meaning → Bool
names_each_date m = names_all_days m && length (marked_values 1 m.months) == 12

-- all minutes, but not all hours of all dates
abbrev pub is_whole_hour : Meaning → Bool
is_whole_hour m =
    length (marked_values 1 m.minutes) == 60 && not (length (marked_values 1 m.hours) == 24 && names_each_date m)

-- the month of the year ends before the day
abbrev pub is_without : ℕ → ℕ → ℕ → Bool
is_without day year month = nat_lt (days_in_month (pos year) month) day

-- the day is wanting in a named month of a named year
abbrev pub is_wanting : List ℕ → List ℕ → ℕ → Bool
is_wanting years months day = list_any (λ year. list_any (is_without day year) months) years

-- the days that are named by themselves, each of which lies above 28, and one of which is wanting in a named month
abbrev pub are_late : List ℕ → List ℕ → List ℕ → Bool
are_late days years months = list_all (nat_lt 28) days && list_any (is_wanting years months) days

-- the value, and no other
abbrev pub is_only : ℕ → List ℕ → Bool
is_only value [] = false
is_only value (named ∷ []) = named == value
is_only value (named ∷ other ∷ more) = false

-- February 29, and no other date
abbrev pub is_leap_day : List ℕ → List ℕ → Bool
is_leap_day days months = is_only 29 days && is_only 2 months

-- `short-months`, where it runs at all: each named day lies above 28, a named month of a named year lacks one, and not February 29 alone is
-- named. A field of days with a modifier (`L`, `15W`) is none of these
abbrev pub has_short_months : Meaning → Bool
has_short_months m =
    not (has_modifiers m.days) && (are_late (marked_values 1 m.days) (marked_values 1 m.years) (marked_values 1 m.months)
    && not (is_leap_day (marked_values 1 m.days) (marked_values 1 m.months)))

-- ---- the command

-- the command is spaces alone, or begins with `#` after blanks, so that a shell takes it for a comment
abbrev pub has_no_command : List ℕ → Bool
has_no_command command = length (text_after kinds.Space command) == 0 || begins_with 35 (text_after kinds.Blank command)

-- the text begins with a word that may be a field of weekdays, and with no comment
abbrev pub looks_like_field : List ℕ → Bool
looks_like_field text = nat_lt 0 (length (front kinds.Word text)) && (not (begins_with 35 text) && looks_like_weekdays (front kinds.Word text))

-- a sign that no user's name has: `/`, `=`, `$`, `*` or `,`
abbrev pub is_no_user_sign : ℕ → Bool
is_no_user_sign b = b == 47 || (b == 61 || (b == 36 || (b == 42 || b == 44)))

-- a word has one of these signs
abbrev pub has_no_user_sign : List ℕ → Bool
has_no_user_sign name = list_any is_no_user_sign name

-- the command begins with `root` and a blank
abbrev pub begins_with_root : List ℕ → Bool
begins_with_root command = bytes_eq (front kinds.Word command) (codes "root") && nat_lt 0 (length (text_after kinds.Word command))

-- what was met of a command, byte by byte: a percent sign counts that stands after no backslash, and a backslash takes in the byte after it
abbrev pub met_next : Met → ℕ → Met
met_next met.Plain b = if b == 92 then met.Backslash else if b == 37 then met.Percent else met.Plain
met_next met.Backslash b = met.Plain
met_next met.Percent b = met.Percent

abbrev pub is_percent : Met → Bool
is_percent met.Plain = false
is_percent met.Backslash = false
is_percent met.Percent = true

-- `percent`: a percent sign of the command counts
abbrev pub has_percent : List ℕ → Bool
has_percent command = is_percent (fold met_next met.Plain command)

-- `continued`: the command ends in a backslash that no other takes in, as a line of a shell does that is to go on
abbrev pub is_continued : List ℕ → Bool
is_continued command = suffix_len (λ b. b == 92) command % 2 == 1

-- `carriage-return`: the command ends with one
abbrev pub has_carriage_return : List ℕ → Bool
has_carriage_return command = ends_with_byte 13 command

-- ---- the file

-- the most lines that crontab(1) takes of a user's crontab
abbrev pub most_lines : ℕ
most_lines = 10_000

-- the last line at which cron(8) itself takes a job or a setting: of a crontab of the system, and of one of a user that is installed
abbrev pub last_line_taken : ℕ
last_line_taken = 10_003

-- `many-lines`: a user's crontab that isn't installed yet has more
abbrev pub are_many_lines : ℕ → Bool
are_many_lines lines = nat_lt most_lines lines

-- the line after so many of it is the first that is too many
abbrev pub is_first_too_many : ℕ → Bool
is_first_too_many lines = lines == most_lines

-- the line of this number stands after the last one that cron itself takes
abbrev pub is_after_last : ℕ → Bool
is_after_last number = nat_lt last_line_taken number

-- ---- the job

-- what is looked at of a job or a pattern: the texts of its fields, where it has them; its meaning, where it has one
-- (`@reboot` has none, nor has a job of which a field names nothing); its user, where it is a job of a crontab of the
-- system; its command, where it is a job of a crontab; whether it stands in a crontab, and whether it has its line feed;
-- whether its years are past, whether it has no run left before year 5000, and whether its runs are listed up to the end
-- of the clock's window
pub record Subject : Type 0 where
  pub fields : Option Texts
  pub meaning : Option Meaning
  pub user : Option (List ℕ)
  pub users : Option (List ℕ)
  pub command : Option (List ℕ)
  pub is_crontab : Bool
  pub is_fed : Bool
  pub is_past : Bool
  pub is_never : Bool
  pub is_at_window_end : Bool

-- there is such a thing, and it passes
abbrev pub is_some_so : {X : Type 0} → (X → Bool) → Option X → Bool
is_some_so test None = false
is_some_so test (Some x) = test x

-- what stands after a job's times: the user's name where the file names users, else the command
abbrev pub text_after_times : Subject → Option (List ℕ)
text_after_times s = option_or s.user s.command

-- the field is that of weekdays, after which the command stands
abbrev pub is_last_field : PatternField → Bool
is_last_field fields.Weekday = true
is_last_field other = false

-- the command fell into this field: it is the last one, and nothing stands after the times
abbrev pub has_command_within : Subject → PatternField → Bool
has_command_within s field = is_last_field field && is_some_so (λ text. length text == 0) (text_after_times s)

-- a further word stands after five fields, which may be a field
abbrev pub has_sixth_field : Subject → Bool
has_sixth_field s = is_some s.fields && is_some_so looks_like_field (text_after_times s)

-- the word where the user stands is none, and no further field; where the users are known a job of such a word is refused
abbrev pub has_no_user_word : Subject → Bool
has_no_user_word s = not (is_some s.users) && (is_some_so has_no_user_sign s.user && not (has_sixth_field s))

-- a command begins with `root` and a blank, or with the name of a user who is known, and a path after it
abbrev pub begins_with_name : Option (List ℕ) → List ℕ → Bool
begins_with_name users command = begins_with_root command || is_some_so (λ text. begins_with_user text command) users

-- the word where the user stands is none; or where no user stands the command begins with the name of one
abbrev pub has_no_user : Subject → Bool
has_no_user s = has_no_user_word s || (not (is_some s.user) && is_some_so (begins_with_name s.users) s.command)

-- the field of which a warning is
abbrev pub field_of : Warning → Option PatternField
field_of (warnings.UnevenStep field) = Some field
field_of (warnings.StepBeyond field) = Some field
field_of (warnings.RangeDown field) = Some field
field_of (warnings.PassedOver field) = Some field
field_of (warnings.LargeNumber field) = Some field
field_of (warnings.OtherName field) = Some field
field_of other = None

-- the name by which a warning is known
abbrev pub warning_name : Warning → List ℕ
warning_name warnings.EitherDay = codes "either-day"
warning_name (warnings.UnevenStep field) = codes "uneven-step"
warning_name (warnings.StepBeyond field) = codes "step-beyond"
warning_name (warnings.RangeDown field) = codes "range-down"
warning_name (warnings.PassedOver field) = codes "passed-over"
warning_name (warnings.LargeNumber field) = codes "large-number"
warning_name warnings.WholeHour = codes "whole-hour"
warning_name warnings.ShortMonths = codes "short-months"
warning_name warnings.Gone = codes "gone"
warning_name warnings.Never = codes "never"
warning_name warnings.NoCommand = codes "no-command"
warning_name warnings.LooksLikeField = codes "looks-like-field"
warning_name warnings.User = codes "user"
warning_name warnings.Percent = codes "percent"
warning_name warnings.Continued = codes "continued"
warning_name warnings.ControlByte = codes "control-byte"
warning_name warnings.NoNewline = codes "no-newline"
warning_name warnings.CarriageReturn = codes "carriage-return"
warning_name warnings.EmptyItem = codes "empty-item"
warning_name (warnings.OtherName field) = codes "other-name"
warning_name (warnings.Preset reading) = codes "preset"

-- the program of a preset refuses the pattern
abbrev pub is_refusal_elsewhere : Warning → Bool
is_refusal_elsewhere (warnings.Preset reading) = is_refusal reading
is_refusal_elsewhere other = false

-- the name of one of a setting, or of the number of lines: where a job may have it too the name is the same
abbrev pub other_name : OtherWarning → List ℕ
other_name others.NoNewline = warning_name warnings.NoNewline
other_name others.ControlByte = warning_name warnings.ControlByte
other_name others.NoZone = codes "no-zone"
other_name others.NoEffect = codes "no-effect"
other_name others.NotExpanded = codes "not-expanded"
other_name others.NoMail = codes "no-mail"
other_name others.ManyLines = codes "many-lines"

-- the name of a field as warnings have it
abbrev pub field_name : PatternField → List ℕ
field_name fields.Seconds = codes "seconds"
field_name fields.Minutes = codes "minutes"
field_name fields.Hours = codes "hours"
field_name fields.DayOfMonth = codes "days of the month"
field_name fields.Month = codes "months"
field_name fields.Weekday = codes "weekdays"
field_name fields.Year = codes "years"

-- the warning stands at the job. `no-command`: the user's name begins with `#`, or there is no command. `looks-like-field`: what stands after five fields
-- begins with a word that may be a further one
abbrev pub holds : Subject → Warning → Bool
holds s warnings.EitherDay = is_some_so is_either_day s.meaning
holds s (warnings.UnevenStep field) = is_some_so (has_uneven_step field) s.fields
holds s (warnings.StepBeyond field) = is_some_so (has_step_beyond field) s.fields
holds s (warnings.RangeDown field) = s.is_crontab && is_some_so (has_range_down field) s.fields
holds s (warnings.PassedOver field) = (s.is_crontab && not (has_command_within s field)) && is_some_so (has_passed_over field) s.fields
holds s (warnings.LargeNumber field) = s.is_crontab && is_some_so (has_large_number field) s.fields
holds s warnings.WholeHour = is_some_so is_whole_hour s.meaning && not (is_some_so has_hours_in_range s.fields)
holds s warnings.ShortMonths = not (s.is_past || (s.is_never || s.is_at_window_end)) && is_some_so has_short_months s.meaning
holds s warnings.Gone = s.is_past
holds s warnings.Never = not s.is_past && s.is_never
holds s warnings.NoCommand = is_some_so (begins_with 35) s.user || is_some_so has_no_command s.command
holds s warnings.LooksLikeField = has_sixth_field s
holds s warnings.User = has_no_user s
holds s warnings.Percent = is_some_so has_percent s.command
holds s warnings.Continued = is_some_so is_continued s.command
holds s warnings.ControlByte =
    s.is_crontab && (is_some_so has_hidden_field s.fields || (is_some_so has_hidden s.user || is_some_so has_hidden_within s.command))
holds s warnings.NoNewline = s.is_crontab && not s.is_fed
holds s warnings.CarriageReturn = is_some_so has_carriage_return s.command
holds s warnings.EmptyItem = not s.is_crontab && is_some_so has_empty_items s.fields
holds s (warnings.OtherName field) = not s.is_crontab && is_some_so (has_other_name field) s.fields
holds s (warnings.Preset reading) = false

-- the warnings of jobs and patterns, in the order in which they are given
abbrev pub all_warnings : List Warning
all_warnings =
    warnings.EitherDay
    ∷ warnings.UnevenStep fields.Seconds ∷ warnings.UnevenStep fields.Minutes ∷ warnings.UnevenStep fields.Hours
    ∷ warnings.StepBeyond fields.Seconds ∷ warnings.StepBeyond fields.Minutes ∷ warnings.StepBeyond fields.Hours
    ∷ warnings.StepBeyond fields.DayOfMonth ∷ warnings.StepBeyond fields.Month ∷ warnings.StepBeyond fields.Weekday ∷ warnings.StepBeyond fields.Year
    ∷ warnings.RangeDown fields.Minutes ∷ warnings.RangeDown fields.Hours ∷ warnings.RangeDown fields.DayOfMonth
    ∷ warnings.RangeDown fields.Month ∷ warnings.RangeDown fields.Weekday
    ∷ warnings.PassedOver fields.Minutes ∷ warnings.PassedOver fields.Hours ∷ warnings.PassedOver fields.DayOfMonth
    ∷ warnings.PassedOver fields.Month ∷ warnings.PassedOver fields.Weekday
    ∷ warnings.LargeNumber fields.Minutes ∷ warnings.LargeNumber fields.Hours ∷ warnings.LargeNumber fields.DayOfMonth
    ∷ warnings.LargeNumber fields.Month ∷ warnings.LargeNumber fields.Weekday
    ∷ warnings.WholeHour ∷ warnings.ShortMonths ∷ warnings.Gone ∷ warnings.Never
    ∷ warnings.NoCommand ∷ warnings.LooksLikeField ∷ warnings.User ∷ warnings.Percent ∷ warnings.Continued ∷ warnings.ControlByte ∷ warnings.NoNewline ∷ warnings.CarriageReturn ∷ warnings.EmptyItem
    ∷ warnings.OtherName fields.Seconds ∷ warnings.OtherName fields.Minutes ∷ warnings.OtherName fields.Hours
    ∷ warnings.OtherName fields.DayOfMonth ∷ warnings.OtherName fields.Month ∷ warnings.OtherName fields.Weekday ∷ warnings.OtherName fields.Year ∷ []

-- the warnings of a job or a pattern
abbrev pub warnings_of : Subject → List Warning
warnings_of s = filter (holds s) all_warnings

-- ---- what contracts see

-- what contracts see of the texts of fields
abbrev pub fields_seen : Fields → Texts
fields_seen f = record {
  seconds = f.seconds.now;
  minutes = f.minutes.now;
  hours = f.hours.now;
  days = f.days.now;
  months = f.months.now;
  days_of_week = f.weekdays.now;
  years = f.years.now;
}

-- what contracts see of what is looked at
abbrev pub subject_seen : GivenSubject → Subject
subject_seen s = record {
  fields = option_map fields_seen s.fields;
  meaning = option_map (λ job. job_of job.now) s.job;
  user = option_map (λ user. user.now) s.user;
  users = users_seen s.users;
  command = option_map (λ command. command.now) s.command;
  is_crontab = s.is_crontab;
  is_fed = s.is_fed;
  is_past = s.is_past;
  is_never = s.is_never;
  is_at_window_end = s.is_at_window_end;
}

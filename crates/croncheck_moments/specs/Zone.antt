-- What is said of the word of a zone: what is wrong with one that is none, and of a rule that is easily taken for another. Source: this crate's
-- documentation of `ZoneFault` and `note_of`; what a rule is, POSIX's grammar of the variable TZ as `jiff_tz` reads it.
use Rattle.std.specs.Prelude.{ℕ, ℤ, pos, int_lt, unsigned_abs, ◌==◌, ◌&&◌, ◌||◌, not, Bool, List, ◌++◌, length, take, drop, codes, Option, Some, None, is_some, option_map, if◌then◌else◌}
use Rattle.std.specs.Borrow.{Bor}
use Rattle.std.specs.Char.{is_ascii_alphabetic}
use Rattle.std.specs.List.{list_all, position_or_len, before_first, after_first}
use Rattle.std.specs.Ordering.{int_eq}
use Rattle.std.specs.Str.{bytes_eq, str_to_ascii_lowercase}
use Rattle.jiff_tz.specs.PosixReader.{read_whole, match_some}
use Rattle.croner_base.specs.Excerpt.{excerpt, excerpt_characters}
use Rattle.croncheck_moments.specs.declared.zone.ZoneFault.{ZoneFault}
use Rattle.croncheck_moments.specs.declared.zone.ZoneFault.TheVariants as faults
use Rattle.croncheck_runs.specs.Length.{length_text}

-- ---- parts of a text

-- what stands after this front of a text, if it begins so
unfoldable pub without_front : List ℕ → List ℕ → Option (List ℕ)
without_front front text = if bytes_eq (take (length front) text) front then Some (drop (length front) text) else None

-- what stands before the first such byte, and what after it
unfoldable pub split_at : ℕ → List ℕ → Option (List ℕ × List ℕ)
split_at at text =
    if position_or_len (λ b. b == at) text == length text then None
    else Some (before_first (λ b. b == at) text, after_first (λ b. b == at) text)

-- the same or the text itself, where it doesn't begin so
abbrev pub without_or_all : List ℕ → List ℕ → List ℕ
without_or_all front text = match_some (without_front front text) text (λ rest. rest)

abbrev pub without_colon : List ℕ → List ℕ
without_colon text = without_or_all (codes ":") text

-- a text without the sign in front of it
abbrev pub without_sign : List ℕ → List ℕ
without_sign text = match_some (without_front (codes "+") text) (without_or_all (codes "-") text) (λ rest. rest)

-- the texts after two references
abbrev pub split_view : Option (Bor (List ℕ) × Bor (List ℕ)) → Option (List ℕ × List ℕ)
split_view parts = option_map (λ p. (p.0.now, p.1.now)) parts

-- ---- parts of a rule

-- two dates that a rule may have
abbrev pub dates : List ℕ
dates = codes "M3.5.0,M10.5.0/3"

abbrev pub is_rule : List ℕ → Bool
is_rule text = is_some (read_whole text)

-- a rule may have this in front of its dates
abbrev pub is_front : List ℕ → Bool
is_front text = is_rule (text ++ (codes "," ++ dates))

-- a rule may have this date
abbrev pub is_date : List ℕ → Bool
is_date text = is_rule (codes "AAA0BBB," ++ (text ++ (codes "," ++ text)))

-- a rule follows from this name with hours alone
abbrev pub names_rule : List ℕ → Bool
names_rule name = not (is_rule name) && is_rule (name ++ codes "0")

-- ---- what stands in place of the hours

-- after the first such sign of a word, if the name of a rule stands before it
abbrev pub hours_at : ℕ → List ℕ → Option (List ℕ)
hours_at sign word = match_some (split_at sign word) None (λ p. if names_rule p.0 then Some p.1 else None)

-- after a sign that follows a name which ends with `>`: one text stands before that, and one after it
abbrev pub hours_in_quotes : List ℕ → List ℕ → Option (List ℕ)
hours_in_quotes front rest =
    if is_rule (front ++ codes ">0")
    then match_some (without_front (codes "-") rest) (without_front (codes "+") rest) (λ hours. Some hours)
    else None

-- of a word: after its first minus, or else its first plus; of one with `>`, in which a name may have signs, after that
abbrev pub hours_of : List ℕ → Option (List ℕ)
hours_of word =
    match_some (split_at 62 word) (match_some (hours_at 45 word) (hours_at 43 word) (λ hours. Some hours)) (λ p. hours_in_quotes p.0 p.1)

-- ---- what is wrong with a word, and what to write

-- a text as a message repeats it
abbrev pub quote_text : List ℕ → List ℕ
quote_text text = excerpt excerpt_characters text

abbrev pub name_fault : List ℕ
name_fault = codes " is neither a zone name (such as Europe/Paris) nor a POSIX rule (such as CET-1CEST,M3.5.0,M10.5.0/3)"

abbrev pub setting_fault : List ℕ → List ℕ
setting_fault zone = codes " begins with TZ=: write the zone alone, here " ++ zone

abbrev pub colon_fault : List ℕ → List ℕ
colon_fault zone = codes " begins with a colon: write the zone alone, here " ++ zone

abbrev pub hours_fault : List ℕ → List ℕ
hours_fault hours =
    codes " is a rule with " ++ (hours
    ++ codes " after the sign: write hours from 0 to 24 there, as CET-1, an hour ahead of UTC, or EST+5, five hours behind it")

abbrev pub no_dates_fault : List ℕ → List ℕ
no_dates_fault word = codes " is a rule that lacks the dates of its summer time: write them after it, as " ++ (word ++ (codes "," ++ dates))

abbrev pub no_summer_fault : List ℕ → List ℕ
no_summer_fault front = codes " is a rule without summer time, which no comma and no date follows: write " ++ (front ++ codes " alone")

abbrev pub two_dates_fault : List ℕ
two_dates_fault = codes " is a rule that hasn't two dates: write the first day of summer time and the first day after it, as " ++ dates

abbrev pub front_fault : List ℕ → List ℕ
front_fault front =
    codes " begins with " ++ (front
    ++ codes ", and no rule does: write a name, hours from 0 to 24 and the name of summer time there, as CET-1CEST, an hour ahead of UTC, or EST+5EDT, five hours behind it")

abbrev pub date_fault : List ℕ → List ℕ
date_fault date =
    codes " is a rule with the date " ++ (date
    ++ codes ": write as M10.5.0 (a month from 1 to 12, a week from 1 to 5, which is the last, and a weekday from 0, Sunday, to 6), or as J60 (a day from 1 to 365)")

abbrev pub time_fault : List ℕ → List ℕ
time_fault time =
    codes " is a rule with the time " ++ (time ++ codes " after a date: write hours from -167 to 167, as /3 or /2:30")

-- what is said of a fault
abbrev pub fault_text : ZoneFault → List ℕ
fault_text faults.Name = name_fault
fault_text (faults.Setting zone) = setting_fault (quote_text zone.text.now)
fault_text (faults.Colon zone) = colon_fault (quote_text zone.text.now)
fault_text (faults.Hours hours) = hours_fault (quote_text hours.text.now)
fault_text (faults.NoDates word) = no_dates_fault word.now
fault_text (faults.NoSummer front) = no_summer_fault front.now
fault_text faults.NotTwoDates = two_dates_fault
fault_text (faults.Front front) = front_fault (quote_text front.text.now)
fault_text (faults.Date date) = date_fault (quote_text date.text.now)
fault_text (faults.Time time) = time_fault (quote_text time.text.now)

-- ---- which of them is said of a word

-- of a date, with its time where it has one: of the time, where the date alone is right
abbrev pub fault_of_date : List ℕ → List ℕ
fault_of_date text =
    match_some (split_at 47 text) (date_fault (quote_text text)) (λ p. if is_date p.0 then time_fault (quote_text p.1) else date_fault (quote_text p.0))

-- of two dates the first one that is wrong is meant
abbrev pub fault_of_two : List ℕ → List ℕ → List ℕ
fault_of_two first second =
    if is_some (split_at 44 second) then two_dates_fault else (if is_date first then fault_of_date second else fault_of_date first)

-- of what stands in front of the first comma, and after it
abbrev pub fault_of_dates : List ℕ → List ℕ → List ℕ
fault_of_dates front after =
    if is_rule front then no_summer_fault front
    else if is_front front then match_some (split_at 44 after) two_dates_fault (λ p. fault_of_two p.0 p.1)
    else front_fault (quote_text front)

-- of a word without a comma
abbrev pub fault_of_name : List ℕ → List ℕ
fault_of_name word = if is_front word then no_dates_fault word else match_some (hours_of word) name_fault (λ hours. hours_fault (quote_text hours))

-- of a word that doesn't begin with TZ= or a colon
abbrev pub fault_of_parts : List ℕ → List ℕ
fault_of_parts word = match_some (split_at 44 word) (fault_of_name word) (λ p. fault_of_dates p.0 p.1)

-- of one that begins with a colon, by the zone after it: nothing is no name
abbrev pub fault_of_colon : List ℕ → List ℕ
fault_of_colon zone = if length zone == 0 then name_fault else colon_fault (quote_text zone)

-- of one that begins with TZ=, by the zone after it
abbrev pub fault_of_set_zone : List ℕ → List ℕ
fault_of_set_zone zone = if length zone == 0 then name_fault else setting_fault (quote_text zone)

-- the same by what stands there: a colon counts for nothing
abbrev pub fault_of_setting : List ℕ → List ℕ
fault_of_setting rest = fault_of_set_zone (without_colon rest)

-- of one that doesn't begin with TZ=
abbrev pub fault_of_rest : List ℕ → List ℕ
fault_of_rest word = match_some (without_front (codes ":") word) (fault_of_parts word) fault_of_colon

-- of a word
abbrev pub fault_of_word : List ℕ → List ℕ
fault_of_word word = match_some (without_front (codes "TZ=") word) (fault_of_rest word) fault_of_setting

-- what is told of the word of an option that is no zone
abbrev pub refusal_text : List ℕ → List ℕ → List ℕ
refusal_text option word = option ++ (codes ": " ++ (quote_text word ++ fault_of_word word))

-- ---- a rule that is easily taken for another

-- the name of UTC, in capitals or small
abbrev pub is_utc_name : List ℕ → Bool
is_utc_name name = bytes_eq (str_to_ascii_lowercase name) (codes "gmt") || bytes_eq (str_to_ascii_lowercase name) (codes "utc")

-- no letter of ASCII
abbrev pub is_no_letter : ℕ → Bool
is_no_letter byte = not (is_ascii_alphabetic byte)

-- the name of UTC and what stands after it, if no letter does: the names of a rule without summer time end there
abbrev pub utc_and_hours : List ℕ → Option (List ℕ × List ℕ)
utc_and_hours word = if is_utc_name (take 3 word) && list_all is_no_letter (drop 3 word) then Some (take 3 word, drop 3 word) else None

-- which way the clock of a rule is off UTC, and how the other way is written, with the hours without their sign
abbrev pub behind_text : List ℕ → List ℕ → List ℕ → List ℕ → List ℕ
behind_text name hours digits length =
    codes "--zone " ++ (name ++ (hours ++ (codes ": this clock is " ++ (length ++ (codes " behind UTC, as POSIX has it; "
    ++ (length ++ (codes " ahead of UTC is " ++ (name ++ (codes "-" ++ digits)))))))))

-- how a rule ahead of UTC is meant, and how the other way is written
abbrev pub ahead_text : List ℕ → List ℕ → List ℕ → List ℕ → List ℕ
ahead_text name hours digits length =
    codes "--zone " ++ (name ++ (hours ++ (codes ": this clock is " ++ (length ++ (codes " ahead of UTC, as POSIX has it; "
    ++ (length ++ (codes " behind UTC is " ++ (name ++ (codes "+" ++ digits)))))))))

-- what is said of a rule of this name and these hours, whose clock is so far ahead of UTC
abbrev pub note_text : List ℕ → List ℕ → ℤ → List ℕ
note_text name hours ahead =
    if int_lt ahead (pos 0) then behind_text name hours (without_sign hours) (length_text (unsigned_abs ahead))
    else ahead_text name hours (without_sign hours) (length_text (unsigned_abs ahead))

-- what is said of a word, by how far the clock is ahead of UTC at 1970-01-01T00:00:00Z: nothing where it isn't, or where it is no such rule
abbrev pub note_of : List ℕ → ℤ → Option (List ℕ)
note_of word ahead = if int_eq ahead (pos 0) then None else option_map (λ p. note_text p.0 p.1 ahead) (utc_and_hours word)

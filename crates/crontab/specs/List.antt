-- The list of parts of a field, and the text of a field that says the same to croner's parser.
use Rattle.std.specs.Prelude.{ℕ, ◌+◌, ◌%◌, Bool, false, not, ◌&&◌, ◌==◌, nat_lt, List, [], ◌∷◌, ◌++◌, length, fold, codes, Option, Some, None, option_map, if◌then◌else◌}
use Rattle.std.specs.Fmt.{decimal}
use Rattle.std.specs.List.{slice_split}
use Rattle.crontab.specs.declared.field.FieldBounds.{FieldBounds}
use Rattle.crontab.specs.declared.field.SteppedRange.{SteppedRange}
use Rattle.crontab.specs.Bytes.{begins_with}
use Rattle.crontab.specs.Field.{part_of, smaller}

-- ---- the parts

-- a part that was read, and those after it: they count where a comma directly follows, and else the field ends. The byte 255 may not
-- follow, since cron takes it for the end of the file
abbrev pub joined : Option (SteppedRange × List ℕ) → Option (List SteppedRange) → Option (List SteppedRange)
joined None more = None
joined (Some read) more =
    if begins_with 255 read.1 then None
    else if length read.1 == 0 then option_map (λ parts. read.0 ∷ parts) more else Some (read.0 ∷ [])

-- the parts of a field that is cut at its commas
abbrev pub parts_of_pieces : FieldBounds → List (List ℕ) → Option (List SteppedRange)
parts_of_pieces bounds [] = Some []
parts_of_pieces bounds (piece ∷ pieces) = joined (part_of bounds piece) (parts_of_pieces bounds pieces)

-- the parts of a field, where cron takes it
abbrev pub parts_of : FieldBounds → List ℕ → Option (List SteppedRange)
parts_of bounds field = parts_of_pieces bounds (slice_split (λ b. b == 44) field)

-- a part at the begin of a list: it is refused where it is none, or the byte 255 follows it; else it is taken, and the refused part of
-- those after it counts where a comma directly follows
abbrev pub first_refused : ℕ → Option (SteppedRange × List ℕ) → Option (ℕ × ℕ) → Option (ℕ × ℕ)
first_refused long None more = Some (0, long)
first_refused long (Some read) more =
    if begins_with 255 read.1 then Some (0, long)
    else if length read.1 == 0 then option_map (λ place. (long + 1 + place.0, long + 1 + place.1)) more else None

-- the same of a field that is cut at its commas: where its refused part begins, and where it ends
abbrev pub refused_of_pieces : FieldBounds → List (List ℕ) → Option (ℕ × ℕ)
refused_of_pieces bounds [] = None
refused_of_pieces bounds (piece ∷ pieces) = first_refused (length piece) (part_of bounds piece) (refused_of_pieces bounds pieces)

-- the place in a field of the part for which cron refuses it, from 0; there is none where cron takes it
abbrev pub refused_in : FieldBounds → List ℕ → Option (ℕ × ℕ)
refused_in bounds field = refused_of_pieces bounds (slice_split (λ b. b == 44) field)

-- one part, which is a star with a step below this number that doesn't divide it
abbrev pub is_uneven : ℕ → List SteppedRange → Bool
is_uneven turn [] = false
is_uneven turn (part ∷ []) = part.is_star && (nat_lt 0 part.step && (nat_lt part.step turn && not (turn % part.step == 0)))
is_uneven turn (part ∷ other ∷ more) = false

-- the same of a field that cron takes
abbrev pub are_uneven : ℕ → Option (List SteppedRange) → Bool
are_uneven turn None = false
are_uneven turn (Some parts) = is_uneven turn parts

-- ---- the text

-- the range runs down
abbrev pub names_nothing : SteppedRange → Bool
names_nothing part = nat_lt part.last part.first

-- a step of 10,000 or more is past the values of every field, and one of 9,999 says the same
abbrev pub step_text : ℕ → List ℕ
step_text step = if step == 1 then [] else 47 ∷ decimal (smaller step 9999)

-- a part without a star: a number, or a range
abbrev pub range_text : SteppedRange → List ℕ
range_text part =
    if part.first == part.last && part.step == 1 then decimal part.first
    else decimal part.first ++ (45 ∷ (decimal part.last ++ step_text part.step))

-- one more part after those of a text; a star that does not stand first is the range that it means
abbrev pub added : List ℕ → SteppedRange → List ℕ
added text part =
    if names_nothing part then text
    else if length text == 0 then range_text part else text ++ (44 ∷ range_text part)

-- the first part
abbrev pub first_text : SteppedRange → List ℕ
first_text part = if part.is_star then 42 ∷ step_text part.step else added [] part

-- the text of a field, which is empty where it names nothing; after a star without a step nothing is added
abbrev pub text_of : List SteppedRange → List ℕ
text_of [] = []
text_of (part ∷ parts) = if part.is_star && part.step == 1 then codes "*" else fold added (first_text part) parts

-- the text of a field that cron takes
abbrev pub field_text : FieldBounds → List ℕ → Option (List ℕ)
field_text bounds field = option_map text_of (parts_of bounds field)

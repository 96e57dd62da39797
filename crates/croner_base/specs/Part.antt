-- What the text of a field says: numbers, the parts of a list, and the list.
use Rattle.std.specs.Prelude.{ℕ, suc, zero, ◌+◌, ◌-◌, ◌*◌, ◌/◌, ◌^◌, Bool, not, ◌&&◌, ◌||◌, ◌==◌, nat_lt, nat_le, List, [], ◌∷◌, length, Option, Some, None, option_and_then, slice_index, codes, if◌then◌else◌}
use Rattle.std.specs.List.{range_with_len, list_any, slice_split, before_first, after_first}
use Rattle.std.specs.Str.{all_ascii_digits, trim, bytes_eq}
use Rattle.std.specs.Str.Parse.{digits_value, without_leading_plus}
use Rattle.croner_base.specs.Field.{Shape, can_mark, has_all, is_in_bounds, values_between}
pub use Rattle.croner_base.specs.Field.{plain_bit, nth_bits, last_bit, nearest_bit}
use Rattle.croner_base.specs.Reading.{marks, enables, steps, stars, Reading, nothing, did, ◌then◌, wants, with}

-- ---- the signs of a part

abbrev pub hash : ℕ
hash = 35

abbrev pub comma : ℕ
comma = 44

abbrev pub dash : ℕ
dash = 45

abbrev pub slash : ℕ
slash = 47

abbrev pub letter_l : ℕ
letter_l = 76

abbrev pub letter_w : ℕ
letter_w = 87

-- one or more decimal digits that write at most 65535, after at most one plus
abbrev pub number_of : List ℕ → Option ℕ
number_of text =
    let digits = without_leading_plus text in
    if (nat_lt 0 (length digits) && all_ascii_digits digits) && nat_lt (digits_value 10 digits) 65536
    then Some (digits_value 10 digits) else None

-- a mark at what is left of a number without the offset
abbrev pub marked : Shape → ℕ → ℕ → Reading
marked f bits v = wants (can_mark f v bits) (did (marks (v - f.offset) bits))

abbrev pub all_marked : Shape → ℕ → List ℕ → Reading
all_marked f bits [] = nothing
all_marked f bits (v ∷ vs) = marked f bits v then all_marked f bits vs

-- a feature is enabled, where it is supported
abbrev pub enabled : Shape → ℕ → Reading
enabled f bits = wants (has_all f.supported bits) (did (enables bits))

-- a text has this byte
abbrev pub contains_byte : ℕ → List ℕ → Bool
contains_byte c text = list_any (λ b. b == c) text

-- the texts between the bytes of this value
abbrev pub pieces_at : ℕ → List ℕ → List (List ℕ)
pieces_at c text = slice_split (λ b. b == c) text

-- the two sides of a text that has the byte once
abbrev pub two_of : List (List ℕ) → Option (List ℕ × List ℕ)
two_of (a ∷ b ∷ []) = Some (a, b)
two_of other = None

-- the text ends in an L, in capitals or small
abbrev pub ends_in_l : List ℕ → Bool
ends_in_l text = slice_index text (length text - 1) == letter_l

-- the modifier of a part: last, an nth, or plain
abbrev pub nth_bit : ℕ → Option ℕ
nth_bit n = if nat_le 1 n && nat_le n 5 then Some (2 ^ n) else None

abbrev pub tag_of : List ℕ → Option ℕ
tag_of part =
    if ends_in_l part then Some last_bit
    else if contains_byte hash part then option_and_then nth_bit (number_of (after_first (λ b. b == hash) part))
    else Some plain_bit

-- the text in front of the first `#`
abbrev pub head_of : List ℕ → List ℕ
head_of part = before_first (λ b. b == hash) part

-- s, s + step, .. up to e
abbrev pub stepped : ℕ → ℕ → ℕ → List ℕ
stepped s zero step = s ∷ []
stepped s (suc n) step = s ∷ stepped (s + step) n step

-- these are marked, and the value after them is still a number
abbrev pub stepped_marks : Shape → ℕ → ℕ → ℕ → ℕ → Reading
stepped_marks f bits s e step =
    all_marked f bits (stepped s ((e - s) / step) step)
    then wants (nat_lt (s + ((e - s) / step + 1) * step) 65536) nothing

-- the bounds of the left of a `/`: the star, a range, nothing, or a number
abbrev pub step_bounds : Shape → List ℕ → Option (ℕ × ℕ)
step_bounds f left =
    if bytes_eq left (codes "*") then Some (f.min + f.offset, f.max)
    else if contains_byte dash left then
    option_and_then (λ sides. option_and_then (λ a. option_and_then (λ b. Some (a, b)) (number_of sides.1)) (number_of sides.0)) (two_of (pieces_at dash left))
    else if not f.sloppy then None
    else if length left == 0 then Some (f.min + f.offset, f.max)
    else option_and_then (λ a. Some (a, f.max)) (number_of left)

-- the left is a star, or stands for one
abbrev pub is_starred : Shape → List ℕ → Bool
is_starred f left = bytes_eq left (codes "*") || (f.sloppy && length left == 0)

-- the marks from the left of a `/` on
abbrev pub stepped_from : Shape → List ℕ → ℕ → ℕ → Reading
stepped_from f left step tag =
    with (step_bounds f left) (λ range.
    wants ((nat_le f.min range.0 && nat_le range.1 f.max) && nat_le range.0 range.1)
    (stepped_marks f tag range.0 range.1 step))

-- what is done by what stands on the left of a `/` and the number on its right
abbrev pub stepped_by : Shape → List ℕ → ℕ → ℕ → Reading
stepped_by f left step tag =
    did (steps step)
    then wants (not (step == 0)) nothing
    then (if is_starred f left then did stars else nothing)
    then stepped_from f left step tag

-- a part with `/`: its modifier, one `/`, a step, and what stands on its left
abbrev pub stepping : Shape → List ℕ → Reading
stepping f part =
    with (tag_of part) (λ tag.
    with (two_of (pieces_at slash (head_of part))) (λ sides.
    with (number_of sides.1) (λ step.
    stepped_by f sides.0 step tag)))

-- a part with `-`: each value from one number to another
abbrev pub ranged : Shape → List ℕ → Reading
ranged f part =
    with (tag_of part) (λ tag.
    with (two_of (pieces_at dash (head_of part))) (λ sides.
    with (number_of (trim sides.0)) (λ a.
    with (number_of (trim sides.1)) (λ b.
    wants ((nat_le f.min a && nat_le b f.max) && nat_le a b)
    (all_marked f tag (values_between a b))))))

-- a letter, in capitals or small
abbrev pub is_letter_l : List ℕ → Bool
is_letter_l text = bytes_eq text (codes "L") || bytes_eq text (codes "l")

-- a part with `W`: the Monday-to-Friday day nearest to a number
abbrev pub nearest_weekday : Shape → List ℕ → Reading
nearest_weekday f part =
    let day = before_first (λ b. b == letter_w) part in
    if is_letter_l day then (enabled f last_bit then enabled f nearest_bit)
    else with (number_of day) (λ n. wants (is_in_bounds f n) (marked f nearest_bit n))

abbrev pub single : Shape → ℕ → List ℕ → Reading
single f tag head = with (number_of head) (λ n. wants (is_in_bounds f n) (marked f tag n))

-- a part that is a number with its modifier
abbrev pub one_number : Shape → List ℕ → Reading
one_number f part =
    wants (not (contains_byte hash part || contains_byte letter_l part) || has_all f.supported nth_bits)
    (if ends_in_l part && not (contains_byte hash part)
    then single f last_bit (before_first (λ b. b == letter_l) part)
    else with (tag_of part) (λ tag. single f tag (head_of part)))

-- a part, by the first of `/`, `-` and `W` that it has; else a lone `L`, or a number
abbrev pub part_of : Shape → List ℕ → Reading
part_of f part =
    if contains_byte slash part then stepping f part
    else if contains_byte dash part then ranged f part
    else if contains_byte letter_w part then nearest_weekday f part
    else if is_letter_l part then enabled f last_bit
    else one_number f part

-- the parts of a list, empty ones skipped, up to the first that is refused
abbrev pub parts_of : Shape → List (List ℕ) → Reading
parts_of f [] = nothing
parts_of f (part ∷ parts) =
    (if length (trim part) == 0 then nothing else part_of f (trim part)) then parts_of f parts

-- how many parts stand in front of the first that is refused
abbrev pub parts_read : Shape → List (List ℕ) → ℕ
parts_read f [] = 0
parts_read f (part ∷ parts) = if (parts_of f (part ∷ [])).accepted then parts_read f parts + 1 else 0

-- a lone star
abbrev pub star_read : Shape → Reading
star_read f = did stars then all_marked f plain_bit (range_with_len (f.min + f.offset) ((f.max + 1) - f.min))

-- a whole field: a star, or a list
abbrev pub field_of : Shape → List ℕ → Reading
field_of f text = if bytes_eq text (codes "*") then star_read f else parts_of f (pieces_at comma text)

-- the part that is refused, by how many stand in front of it
abbrev pub refused_part : Shape → List ℕ → ℕ
refused_part f text = parts_read f (pieces_at comma text)

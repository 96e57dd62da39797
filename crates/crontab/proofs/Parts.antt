-- The parts of a field, piece by piece.
use Rattle.std.proofs.Common.{◌≡◌, ◌<◌, ◌+◌, ◌∙◌, ◌==◌, ℕ, List, [], ◌∷◌, ◌++◌, Option, Some, None, Bool, true, false, if◌then◌else◌, option_map, length, drop, get_or, ap, sym, refl, arith}
use Rattle.std.proofs.lemmas.List.{at_drop_more, at_drop_all, append_assoc, append-nil}
use Rattle.crontab.specs.declared.field.SteppedRange.{SteppedRange}
use Rattle.crontab.specs.declared.field.FieldBounds.{FieldBounds}
use Rattle.crontab.specs.Bytes.{begins_with}
use Rattle.crontab.specs.Field.{part_of}
use Rattle.crontab.specs.List.{joined, parts_of_pieces}

-- these parts were read of the whole, and more follow
abbrev pub Follows : Option (List SteppedRange) → List SteppedRange → Option (List SteppedRange) → Type 0
Follows whole read more = whole ≡ option_map (λ parts. read ++ parts) more

pub follows_first : (whole : Option (List SteppedRange)) → Follows whole [] whole
follows_first None = refl
follows_first (Some parts) = refl

-- the next piece was read
pub follows_piece : (bounds : FieldBounds) (pieces : List (List ℕ)) (n : ℕ) (piece : List ℕ) (whole : Option (List SteppedRange)) (read : List SteppedRange)
    (found : Option (SteppedRange × List ℕ)) → n < length pieces → piece ≡ get_or pieces n piece → part_of bounds piece ≡ found
    → Follows whole read (parts_of_pieces bounds (drop n pieces))
    → Follows whole read (joined found (parts_of_pieces bounds (drop (n + 1) pieces)))
follows_piece bounds pieces n piece whole read found within is e h =
    h ∙ ap (λ o. option_map (λ parts. read ++ parts) o)
    (at_drop_more (parts_of_pieces bounds) pieces n piece within
    ∙ ap (λ q. joined (part_of bounds q) (parts_of_pieces bounds (drop (n + 1) pieces))) (sym is)
    ∙ ap (λ o. joined o (parts_of_pieces bounds (drop (n + 1) pieces))) e)

-- what a part and its tail come to, by what the tail is
abbrev of_tail : SteppedRange → Option (List SteppedRange) → Bool → Bool → Option (List SteppedRange)
of_tail part more ends none = if ends then None else (if none then option_map (λ parts. part ∷ parts) more else Some (part ∷ []))

joined_by : (part : SteppedRange) (tail : List ℕ) (more : Option (List SteppedRange)) (ends none : Bool) → begins_with 255 tail ≡ ends → (length tail == 0) ≡ none
    → joined (Some (part, tail)) more ≡ of_tail part more ends none
joined_by part tail more ends none e f = ap (λ b. of_tail part more b (length tail == 0)) e ∙ ap (λ b. of_tail part more ends b) f

joined_ended : (part : SteppedRange) (tail : List ℕ) (more : Option (List SteppedRange)) → begins_with 255 tail ≡ true → joined (Some (part, tail)) more ≡ None
joined_ended part tail more e = ap (λ b. of_tail part more b (length tail == 0)) e

moved : (read : List SteppedRange) (part : SteppedRange) (more : Option (List SteppedRange))
    → option_map (λ parts. read ++ parts) (option_map (λ parts. part ∷ parts) more) ≡ option_map (λ parts. (read ++ part ∷ []) ++ parts) more
moved read part None = refl
moved read part (Some parts) = ap Some (sym (append_assoc read (part ∷ []) parts))

pub follows_next : (whole : Option (List SteppedRange)) (read : List SteppedRange) (part : SteppedRange) (tail : List ℕ) (more : Option (List SteppedRange)) → begins_with 255 tail ≡ false
    → (length tail == 0) ≡ true → Follows whole read (joined (Some (part, tail)) more) → Follows whole (read ++ part ∷ []) more
follows_next whole read part tail more e none h =
    h ∙ ap (λ o. option_map (λ parts. read ++ parts) o) (joined_by part tail more false true e none) ∙ moved read part more

pub follows_last : (whole : Option (List SteppedRange)) (read : List SteppedRange) (part : SteppedRange) (tail : List ℕ) (more : Option (List SteppedRange)) → begins_with 255 tail ≡ false
    → (length tail == 0) ≡ false → Follows whole read (joined (Some (part, tail)) more) → Some (read ++ part ∷ []) ≡ whole
follows_last whole read part tail more e some h =
    sym (h ∙ ap (λ o. option_map (λ parts. read ++ parts) o) (joined_by part tail more false false e some))

pub follows_end_of_file : (whole : Option (List SteppedRange)) (read : List SteppedRange) (part : SteppedRange) (tail : List ℕ) (more : Option (List SteppedRange)) → begins_with 255 tail ≡ true
    → Follows whole read (joined (Some (part, tail)) more) → None ≡ whole
follows_end_of_file whole read part tail more e h = sym (h ∙ ap (λ o. option_map (λ parts. read ++ parts) o) (joined_ended part tail more e))

pub follows_end : (bounds : FieldBounds) (pieces : List (List ℕ)) (n : ℕ) (whole : Option (List SteppedRange)) (read : List SteppedRange) → n ≡ length pieces
    → Follows whole read (parts_of_pieces bounds (drop n pieces)) → Some read ≡ whole
follows_end bounds pieces n whole read all h =
    sym (h ∙ ap (λ o. option_map (λ parts. read ++ parts) o) (at_drop_all (parts_of_pieces bounds) pieces n (omega (arith, all))) ∙ ap Some (append-nil read))

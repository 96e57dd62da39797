-- The place of the refused part of a field, piece by piece.
use Rattle.std.proofs.Common.{◌≡◌, ◌<◌, ◌≤◌, ◌+◌, ◌∙◌, ◌==◌, ℕ, List, [], ◌∷◌, Option, Some, None, Bool, true, false, cond, if◌then◌else◌, option_map, length, drop, get_or, ap, sym, refl, arith}
use Rattle.std.proofs.lemmas.List.{at_drop_more, at_drop_all}
use Rattle.std.proofs.lemmas.List.Splits.{length-slice_split}
use Rattle.std.specs.List.{slice_split, onto_first}
use Rattle.crontab.specs.declared.field.SteppedRange.{SteppedRange}
use Rattle.crontab.specs.declared.field.FieldBounds.{FieldBounds}
use Rattle.crontab.specs.Bytes.{begins_with}
use Rattle.crontab.specs.Field.{part_of}
use Rattle.crontab.specs.List.{first_refused, refused_of_pieces}

-- how many bytes pieces have, each with a comma after it
abbrev pub reach : List (List ℕ) → ℕ
reach [] = 0
reach (piece ∷ pieces) = length piece + 1 + reach pieces

reach_onto : (b : ℕ) (pieces : List (List ℕ)) → 0 < length pieces → reach (onto_first b pieces) ≡ reach pieces + 1
reach_onto b [] l = absurd (omega (arith, l))
reach_onto b (piece ∷ pieces) l = omega arith

reach_cond : (b : ℕ) (pieces : List (List ℕ)) (is : Bool) → 0 < length pieces → reach (cond is ([] ∷ pieces) (onto_first b pieces)) ≡ reach pieces + 1
reach_cond b pieces true l = omega arith
reach_cond b pieces false l = reach_onto b pieces l

-- those of a field reach as far as it does
reach_split : (field : List ℕ) → reach (slice_split (λ b. b == 44) field) ≡ length field + 1
reach_split [] = omega arith
reach_split (b ∷ bs) =
    let more = slice_split (λ c. c == 44) bs in
    omega (arith, reach_cond b more (b == 44) (omega (arith, length-slice_split (λ c. c == 44) bs)), reach_split bs)

-- the place in the whole is that in the pieces that are left, so many bytes on
pub record Goes (whole : Option (ℕ × ℕ)) (all : ℕ) (start : ℕ) (bounds : FieldBounds) (left : List (List ℕ)) : Type 0 where
  pub is : whole ≡ option_map (λ p. (start + p.0, start + p.1)) (refused_of_pieces bounds left)
  pub reaches : start + reach left ≡ all + 1

abbrev pub some_pair : ℕ → ℕ → Option (ℕ × ℕ)
some_pair a b = Some (a, b)

same_pair : (a b c d : ℕ) → a ≡ c → b ≡ d → some_pair a b ≡ some_pair c d
same_pair a b c d e f = ap (λ (x : ℕ). some_pair x b) e ∙ ap (λ (y : ℕ). some_pair c y) f

from_here : (o : Option (ℕ × ℕ)) → o ≡ option_map (λ p. (0 + p.0, 0 + p.1)) o
from_here None = refl
from_here (Some (a, b)) = same_pair a b (0 + a) (0 + b) (omega arith) (omega arith)

pub goes_first : (bounds : FieldBounds) (field : List ℕ)
    → Goes (refused_of_pieces bounds (slice_split (λ b. b == 44) field)) (length field) 0 bounds (slice_split (λ b. b == 44) field)
goes_first bounds field = record {
  is = from_here (refused_of_pieces bounds (slice_split (λ b. b == 44) field));
  reaches = omega (arith, reach_split field);
}

-- what the next piece comes to
abbrev at_piece : ℕ → ℕ → Option (SteppedRange × List ℕ) → Option (ℕ × ℕ) → Option (ℕ × ℕ)
at_piece start long found more = option_map (λ p. (start + p.0, start + p.1)) (first_refused long found more)

module _ (bounds : FieldBounds) (pieces : List (List ℕ)) (n : ℕ) (piece : List ℕ) (whole : Option (ℕ × ℕ)) (all start : ℕ) (found : Option (SteppedRange × List ℕ))
    (within : n < length pieces) (is : piece ≡ get_or pieces n piece) (read : part_of bounds piece ≡ found) (h : Goes whole all start bounds (drop n pieces)) where
  goes_piece : whole ≡ at_piece start (length piece) found (refused_of_pieces bounds (drop (n + 1) pieces))
  goes_piece =
      h.is ∙ ap (λ o. option_map (λ p. (start + p.0, start + p.1)) o)
      (at_drop_more (refused_of_pieces bounds) pieces n piece within
      ∙ ap (λ q. first_refused (length q) (part_of bounds q) (refused_of_pieces bounds (drop (n + 1) pieces))) (sym is)
      ∙ ap (λ o. first_refused (length piece) o (refused_of_pieces bounds (drop (n + 1) pieces))) read)

  reach_piece : reach (drop n pieces) ≡ length piece + 1 + reach (drop (n + 1) pieces)
  reach_piece =
      at_drop_more reach pieces n piece within
      ∙ ap (λ q. length q + 1 + reach (drop (n + 1) pieces)) (sym is)

  ends_in : start + length piece ≤ all
  ends_in = omega (arith, h.reaches, reach_piece)

-- what a part and its tail come to, by what the tail is
abbrev of_tail : ℕ → Bool → Bool → Option (ℕ × ℕ) → Option (ℕ × ℕ)
of_tail long ends none more = if ends then Some (0, long) else (if none then option_map (λ p. (long + 1 + p.0, long + 1 + p.1)) more else None)

abbrev shifted : ℕ → Option (ℕ × ℕ) → Option (ℕ × ℕ)
shifted start o = option_map (λ p. (start + p.0, start + p.1)) o

tailed : (start long : ℕ) (part : SteppedRange) (tail : List ℕ) (more : Option (ℕ × ℕ)) (ends none : Bool) → begins_with 255 tail ≡ ends → (length tail == 0) ≡ none
    → at_piece start long (Some (part, tail)) more ≡ shifted start (of_tail long ends none more)
tailed start long part tail more ends none e f =
    ap (λ b. shifted start (of_tail long b (length tail == 0) more)) e ∙ ap (λ b. shifted start (of_tail long ends b more)) f

here : (start long : ℕ) → shifted start (some_pair 0 long) ≡ some_pair start (start + long)
here start long = same_pair (start + 0) (start + long) start (start + long) (omega arith) refl

shift_on : (start long : ℕ) (more : Option (ℕ × ℕ)) → shifted start (option_map (λ p. (long + 1 + p.0, long + 1 + p.1)) more) ≡ shifted (start + long + 1) more
shift_on start long None = refl
shift_on start long (Some (a, b)) =
    same_pair (start + (long + 1 + a)) (start + (long + 1 + b)) (start + long + 1 + a) (start + long + 1 + b) (omega arith) (omega arith)

module _ (bounds : FieldBounds) (pieces : List (List ℕ)) (n : ℕ) (piece : List ℕ) (whole : Option (ℕ × ℕ)) (all start : ℕ)
    (within : n < length pieces) (is : piece ≡ get_or pieces n piece) (h : Goes whole all start bounds (drop n pieces)) where
  abbrev more : Option (ℕ × ℕ)
  more = refused_of_pieces bounds (drop (n + 1) pieces)

  -- the piece ends in the field
  pub ends_within : start + length piece ≤ all
  ends_within = ends_in bounds pieces n piece whole all start (part_of bounds piece) within is refl h

  -- the piece is no part
  pub refused_whole : part_of bounds piece ≡ None → some_pair start (start + length piece) ≡ whole
  refused_whole read = sym (goes_piece bounds pieces n piece whole all start None within is read h ∙ here start (length piece))

  -- the byte 255 follows its part
  pub refused_ended : (part : SteppedRange) (tail : List ℕ) → part_of bounds piece ≡ Some (part, tail) → begins_with 255 tail ≡ true → some_pair start (start + length piece) ≡ whole
  refused_ended part tail read ends =
      sym (goes_piece bounds pieces n piece whole all start (Some (part, tail)) within is read h
      ∙ tailed start (length piece) part tail more true (length tail == 0) ends refl ∙ here start (length piece))

  -- the field ends after its part
  pub refused_none : (part : SteppedRange) (tail : List ℕ) → part_of bounds piece ≡ Some (part, tail) → begins_with 255 tail ≡ false → (length tail == 0) ≡ false → None ≡ whole
  refused_none part tail read goes_on some =
      sym (goes_piece bounds pieces n piece whole all start (Some (part, tail)) within is read h ∙ tailed start (length piece) part tail more false false goes_on some)

  -- a comma follows its part
  pub goes_next : (part : SteppedRange) (tail : List ℕ) → part_of bounds piece ≡ Some (part, tail) → begins_with 255 tail ≡ false → (length tail == 0) ≡ true
      → Goes whole all (start + length piece + 1) bounds (drop (n + 1) pieces)
  goes_next part tail read goes_on none = record {
    is =
        goes_piece bounds pieces n piece whole all start (Some (part, tail)) within is read h
        ∙ tailed start (length piece) part tail more false true goes_on none ∙ shift_on start (length piece) more;
    reaches = omega (arith, h.reaches, reach_piece bounds pieces n piece whole all start (Some (part, tail)) within is read h);
  }

-- no piece is left
pub goes_end : (bounds : FieldBounds) (pieces : List (List ℕ)) (n : ℕ) (whole : Option (ℕ × ℕ)) (all start : ℕ) → n ≡ length pieces
    → Goes whole all start bounds (drop n pieces) → None ≡ whole
goes_end bounds pieces n whole all start end h =
    sym (h.is ∙ ap (shifted start) (at_drop_all (refused_of_pieces bounds) pieces n (omega (arith, end))))

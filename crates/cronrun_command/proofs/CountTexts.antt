-- What `parse` reads from a text of digits.
use Rattle.std.proofs.Common.{◌≡◌, ℕ, ◌<◌, true, List, [], ◌∷◌, length, refl, ap, arith, ◌&&◌, Err}
use Rattle.std.specs.Char.{is_ascii_digit}
use Rattle.std.specs.List.{list_all}
use Rattle.std.specs.Str.{all_ascii_digits}
use Rattle.std.specs.Str.Parse.{digits_value, ParsesUnsigned}
use Rattle.std.proofs.lemmas.Str.Parse.{IsNumeralModel, numerals_by_value, tells_all_ascii_digits, parse_digits}
use Rattle.cronrun_command.specs.Count.{IsCountText}

same_digits : (text : List ℕ) → list_all is_ascii_digit text ≡ all_ascii_digits text
same_digits [] = refl
same_digits (c ∷ cs) = ap (λ b. is_ascii_digit c && b) (same_digits cs)

own : IsNumeralModel (λ ds. all_ascii_digits ds ≡ true) (digits_value 10)
own = numerals_by_value _ tells_all_ascii_digits

all_digits : (text : List ℕ) → list_all is_ascii_digit text ≡ true → all_ascii_digits text ≡ true
all_digits text h = rw same_digits at h

some_digit : (text : List ℕ) (n : ℕ) → IsCountText text n → 0 < length text
some_digit [] n h = absurd (omega arith)
some_digit (c ∷ cs) n h = omega arith

-- a count is read
pub count_read : {E : Type 0} (text : List ℕ) (e : E) (n : ℕ) → ParsesUnsigned 32 10 text (Err e) → IsCountText text n → ⊥
count_read text e n h count = parse_digits own 32 text (Err e) h (all_digits text count.1) (some_digit text n count, omega arith)

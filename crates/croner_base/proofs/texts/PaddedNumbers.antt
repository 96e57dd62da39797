-- What a hole with a width and a leading zero writes.
use Rattle.std.proofs.Common.{◌≡◌, ℕ, suc, ◌-◌, ap, ◌∙◌, arith, ℤ, pos, negsuc, List, [], ◌∷◌, ◌++◌, length, replicate, Bool, true, false}
use Rattle.std.proofs.lemmas.List.{append-nil}
use Rattle.std.proofs.lemmas.Int.{ints}
use Rattle.std.specs.Int.{is_negative}
use Rattle.std.specs.Fmt.{decimal, styled_decimal, styled_signed_decimal, padded_integral, format_spec, char_count}
use Rattle.croner_base.specs.CivilText.{zero_padded, year_text, two_places}

padded_plain : (w : ℕ) (text : List ℕ) → padded_integral (format_spec 32 0 4 w 18446744073709551615) false [] text ≡ zero_padded w text
unfolding padded_integral char_count
padded_plain w text =
    let e : w - length text - 0 - 0 ≡ w - length text = omega arith in
    rw (e, append-nil)

padded_minus : (w : ℕ) (text : List ℕ) → padded_integral (format_spec 32 0 4 w 18446744073709551615) true [] text ≡ 45 ∷ (replicate (w - length text - 1) 48 ++ text)
unfolding padded_integral char_count
padded_minus w text =
    let e : w - length text - 1 - 0 ≡ w - length text - 1 = omega arith in
    rw (e, append-nil)

pub two_places_written : (n : ℕ) → styled_decimal (format_spec 32 0 4 2 18446744073709551615) n ≡ two_places n
two_places_written n = padded_plain 2 (decimal n)

plain_sign : (n : ℕ) → is_negative (pos n) ≡ false
plain_sign n = grind (arith, ints)

pub year_written : (y : ℤ) → styled_signed_decimal (format_spec 32 0 4 4 18446744073709551615) y ≡ year_text y
year_written (pos n) = ap (λ (b : Bool). padded_integral (format_spec 32 0 4 4 18446744073709551615) b [] (decimal n)) (plain_sign n) ∙ padded_plain 4 (decimal n)
year_written (negsuc n) =
    let e : 4 - length (decimal (suc n)) - 1 ≡ 3 - length (decimal (suc n)) = omega arith in
    padded_minus 4 (decimal (suc n)) ∙ rw e

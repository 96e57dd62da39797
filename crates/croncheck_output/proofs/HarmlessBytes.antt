-- No terminal acts on bytes as they are shown, and ASCII that is printed is shown as it is.
use Rattle.std.proofs.Common.{◌≡◌, ℕ, zero, suc, ◌+◌, ◌/◌, ◌%◌, ◌<◌, ◌≤◌, ◌==◌, ◌&&◌, ◌||◌, Bool, true, false, cond, List, [], ◌∷◌, ◌++◌, length, drop, slice_index, Option, Some, None, ap, sym, ◌∙◌, refl, arith}
use Rattle.std.specs.Prelude.{codes, nat_lt, nat_le}
use Rattle.std.specs.Char.{encode_utf8}
use Rattle.std.specs.Fmt.{digits, digits_onto, digit_glyph}
use Rattle.std.specs.List.{list_all}
use Rattle.std.specs.Str.{encode_utf8_all}
use Rattle.std.proofs.lemmas.Bool.{and_parts, false≢true}
use Rattle.std.proofs.lemmas.Bool.Decides.{nat_tests}
use Rattle.std.proofs.lemmas.List.Folds.{list_all-append}
use Rattle.bstr.specs.Escape.{escaped, escaped_after, escape_byte, hex_digit, is_plain, is_wide}
use Rattle.bstr.specs.Utf8.{decoded, good}
use Rattle.bstr.proofs.lemmas.PieceLemmas.{piece-bounds, value-1}
use Rattle.croner_base.specs.Excerpt.{is_among, is_control, ends_a_line, turns_round, has_no_width, has_no_width_above, is_unseen, shown}
use Rattle.croncheck_output.specs.Escaped.{front_shown, front_size, shown_from, bytes_shown, is_harmless, is_printed}
use Rattle.croncheck_output.proofs.ShownBytes.{front_of, after_front, shown_step}

-- no terminal acts on these bytes
record AreHarmless (bs : List ℕ) : Type 0 where
  all : list_all is_harmless bs ≡ true

-- ---- parts

one_of_two : (b : Bool) (xs ys : List ℕ) → AreHarmless xs → AreHarmless ys → AreHarmless (cond b xs ys)
one_of_two true xs ys h k = h
one_of_two false xs ys h k = k

byte_of_two : (b : Bool) (m n : ℕ) → is_harmless m ≡ true → is_harmless n ≡ true → is_harmless (cond b m n) ≡ true
byte_of_two true m n h k = h
byte_of_two false m n h k = k

more : (b : ℕ) (bs : List ℕ) → is_harmless b ≡ true → AreHarmless bs → AreHarmless (b ∷ bs)
more b bs h k = record { all = ap (λ t. t && list_all is_harmless bs) h ∙ k.all }

none : AreHarmless []
none = record { all = refl }

two : (a b : ℕ) → is_harmless a ≡ true → is_harmless b ≡ true → AreHarmless (a ∷ b ∷ [])
two a b h k = more a (b ∷ []) h (more b [] k none)

three : (a b c : ℕ) → is_harmless a ≡ true → is_harmless b ≡ true → is_harmless c ≡ true → AreHarmless (a ∷ b ∷ c ∷ [])
three a b c h k l = more a (b ∷ c ∷ []) h (two b c k l)

four : (a b c d : ℕ) → is_harmless a ≡ true → is_harmless b ≡ true → is_harmless c ≡ true → is_harmless d ≡ true → AreHarmless (a ∷ b ∷ c ∷ d ∷ [])
four a b c d h k l m = more a (b ∷ c ∷ d ∷ []) h (three b c d k l m)

joined : (xs ys : List ℕ) → AreHarmless xs → AreHarmless ys → AreHarmless (xs ++ ys)
joined xs ys h k = record { all = list_all-append is_harmless xs ys ∙ ap (λ t. t && list_all is_harmless ys) h.all ∙ k.all }

low : (b : ℕ) → 32 ≤ b → b < 127 → is_harmless b ≡ true
low b h k = grind (arith, nat_tests)

high : (b : ℕ) → 128 ≤ b → is_harmless b ≡ true
high b h = grind (arith, nat_tests)

-- ---- characters

encode_harmless : (c : ℕ) → is_harmless c ≡ true → AreHarmless (encode_utf8 c)
unfolding encode_utf8
encode_harmless c h =
    let b = 128 + c % 64 in
    let d = 128 + (c / 64) % 64 in
    let e = 128 + (c / 4096) % 64 in
    let last : is_harmless b ≡ true = high b (omega arith) in
    let third : is_harmless d ≡ true = high d (omega arith) in
    let second : is_harmless e ≡ true = high e (omega arith) in
    one_of_two _ _ _ (more c [] h none)
    (one_of_two _ _ _ (two (192 + c / 64) b (high (192 + c / 64) (omega arith)) last)
    (one_of_two _ _ _ (three (224 + c / 4096) d b (high (224 + c / 4096) (omega arith)) third last)
    (four (240 + c / 262144) e d b (high (240 + c / 262144) (omega arith)) second third last)))

all_harmless : (cs : List ℕ) → AreHarmless cs → AreHarmless (encode_utf8_all cs)
all_harmless [] h = none
all_harmless (c ∷ cs) h =
    let parts = and_parts (is_harmless c) (list_all is_harmless cs) h.all in
    joined (encode_utf8 c) (encode_utf8_all cs) (encode_harmless c parts.0) (all_harmless cs (record { all = parts.1 }))

glyph_harmless : (d : ℕ) → d < 16 → is_harmless (digit_glyph false d) ≡ true
glyph_harmless d h = byte_of_two (nat_lt d 10) (48 + d) (87 + d) (byte_low d h) (low (87 + d) (omega arith) (omega (arith, h))) where
  byte_low : (n : ℕ) → n < 16 → is_harmless (48 + n) ≡ true
  byte_low n k = low (48 + n) (omega arith) (omega (arith, k))

digits_harmless : (k n : ℕ) (acc : List ℕ) → AreHarmless acc → AreHarmless (digits_onto k 16 false n acc)
digits_harmless zero n acc h = h
digits_harmless (suc k) n acc h =
    let first : AreHarmless (digit_glyph false (n % 16) ∷ acc) = more (digit_glyph false (n % 16)) acc (glyph_harmless (n % 16) (omega arith)) h in
    one_of_two (n / 16 == 0) _ _ first (digits_harmless k (n / 16) (digit_glyph false (n % 16) ∷ acc) first)

number_harmless : (c : ℕ) → AreHarmless (digits 16 false c)
unfolding digits
number_harmless c = digits_harmless 64 c [] none

neither : (x y : Bool) → (x || y) ≡ false → (x ≡ false) × (y ≡ false)
neither true y h = absurd (false≢true (sym h))
neither false y h = (refl, h)

seen_harmless : (c : ℕ) → is_unseen c ≡ false → is_harmless c ≡ true
seen_harmless c h =
    let control = (neither (is_control c) _ h).0 in
    let parts = neither (is_among 0 0x1f c) (is_among 0x7f 0x9f c) control in
    let above : is_among 0 0x1f c ≡ false = parts.0 in
    let apart : is_among 0x7f 0x9f c ≡ false = parts.1 in
    grind (arith, nat_tests)

unseen_harmless : (c : ℕ) (b : Bool) → is_unseen c ≡ b → AreHarmless (cond b (codes "\\u{" ++ (digits 16 false c ++ codes "}")) (encode_utf8 c))
unseen_harmless c true h =
    joined (codes "\\u{") (digits 16 false c ++ codes "}") (record { all = refl })
    (joined (digits 16 false c) (codes "}") (number_harmless c) (record { all = refl }))
unseen_harmless c false h = encode_harmless c (seen_harmless c h)

character_harmless : (c : ℕ) → AreHarmless (shown c)
character_harmless c =
    one_of_two (c == 9) _ _ (record { all = refl }) (one_of_two (c == 10) _ _ (record { all = refl })
    (one_of_two (c == 13) _ _ (record { all = refl }) (unseen_harmless c (is_unseen c) refl)))

-- ---- bytes that are no text

plain_harmless : (b : ℕ) (t : Bool) (rest : List ℕ) → is_plain b ≡ t → AreHarmless rest → AreHarmless (cond t (b ∷ []) rest)
plain_harmless b true rest h k =
    let printed : (nat_lt 0x20 b && nat_lt b 0x7F) ≡ true = (and_parts (nat_lt 0x20 b && nat_lt b 0x7F) _ h).0 in
    let parts = and_parts (nat_lt 0x20 b) (nat_lt b 0x7F) printed in
    let from : nat_lt 0x20 b ≡ true = parts.0 in
    let to : nat_lt b 0x7F ≡ true = parts.1 in
    let is : is_harmless b ≡ true = grind (arith, nat_tests) in
    more b [] is none
plain_harmless b false rest h k = k

hex_harmless : (d : ℕ) → d < 16 → is_harmless (hex_digit d) ≡ true
hex_harmless d h =
    let number : 48 + d < 127 = omega (arith, h) in
    let letter : 55 + d < 127 = omega (arith, h) in
    byte_of_two (nat_lt d 10) (0x30 + d) (0x37 + d) (low (48 + d) (omega arith) number) (low (55 + d) (omega arith) letter)

escape_harmless : (b : ℕ) → b < 256 → AreHarmless (escape_byte b)
escape_harmless b h =
    let front : b / 16 < 16 = omega (arith, h) in
    let back : b % 16 < 16 = omega arith in
    let last : AreHarmless (0x5C ∷ 0x78 ∷ hex_digit (b / 16) ∷ hex_digit (b % 16) ∷ []) =
    four 0x5C 0x78 (hex_digit (b / 16)) (hex_digit (b % 16)) refl refl (hex_harmless (b / 16) front) (hex_harmless (b % 16) back) in
    plain_harmless b (is_plain b) _ refl
    (one_of_two (b == 0) _ _ (record { all = refl }) (one_of_two (b == 0x0A) _ _ (record { all = refl }) (one_of_two (b == 0x0D) _ _ (record { all = refl })
    (one_of_two (b == 0x09) _ _ (record { all = refl }) (one_of_two (b == 0x5C) _ _ (record { all = refl }) last)))))

single_harmless : (b : ℕ) (t : Bool) (c : ℕ) (rest : List ℕ) → t ≡ false → AreHarmless (escape_byte b ++ []) → AreHarmless (cond t (c ∷ rest) (escape_byte b ++ []))
single_harmless b true c rest e h = absurd (false≢true (sym e))
single_harmless b false c rest e h = h

not_wide : (b : ℕ) → is_wide (decoded (b ∷ [])) ≡ false
not_wide b =
    let most = (piece-bounds (b ∷ []) (omega arith)).2 in
    let size : nat_lt 1 (decoded (b ∷ [])).size ≡ false = grind (arith, nat_tests) in
    no_second _ (nat_lt 1 (decoded (b ∷ [])).size) size where
      no_second : (x y : Bool) → y ≡ false → (x && y) ≡ false
      no_second true y e = e
      no_second false y e = refl

byte_harmless : (b : ℕ) → b < 256 → AreHarmless (encode_utf8_all (escaped (b ∷ [])))
unfolding escaped_after
byte_harmless b h =
    all_harmless (escaped (b ∷ [])) (single_harmless b (is_wide (decoded (b ∷ []))) _ _ (not_wide b) (joined (escape_byte b) [] (escape_harmless b h) none))

-- ---- all bytes

-- each byte is one
abbrev pub AreBytes : List ℕ → Type 0
AreBytes bs = list_all (λ b. nat_lt b 256) bs ≡ true

front_harmless : (c : Option ℕ) (b : ℕ) (bs : List ℕ) → b < 256 → AreHarmless (front_shown c (b ∷ bs))
front_harmless None b bs h = byte_harmless b h
front_harmless (Some c) b bs h = character_harmless c

drop_bytes : (n : ℕ) (bs : List ℕ) → AreBytes bs → AreBytes (drop n bs)
drop_bytes zero bs h = h
drop_bytes (suc n) [] h = refl
drop_bytes (suc n) (b ∷ bs) h = drop_bytes n bs (and_parts (nat_lt b 256) (list_all (λ x. nat_lt x 256) bs) h).1

fuel_harmless : (f : ℕ) (bs : List ℕ) → AreBytes bs → AreHarmless (shown_from f bs)
unfolding shown_from
fuel_harmless zero bs h = none
fuel_harmless (suc f) [] h = none
fuel_harmless (suc f) (b ∷ bs) h =
    let first : nat_lt b 256 ≡ true = (and_parts (nat_lt b 256) (list_all (λ x. nat_lt x 256) bs) h).0 in
    let small : b < 256 = grind (arith, nat_tests) in
    joined (front_of (b ∷ bs)) (shown_from f (after_front (b ∷ bs))) (front_harmless (decoded (b ∷ bs)).char b bs small)
    (fuel_harmless f (after_front (b ∷ bs)) (drop_bytes _ (b ∷ bs) h))

pub all_small : (bs : List ℕ) → ((k : ℕ) → slice_index bs k < 256) → AreBytes bs
all_small [] h = refl
all_small (b ∷ bs) h =
    let first : b < 256 = h 0 in
    let small : nat_lt b 256 ≡ true = grind (arith, nat_tests) in
    ap (λ t. t && list_all (λ x. nat_lt x 256) bs) small ∙ all_small bs (λ k. h (suc k))

pub shown_harmless : (bs : List ℕ) → AreBytes bs → list_all is_harmless (bytes_shown bs) ≡ true
shown_harmless bs h = (fuel_harmless (length bs) bs h).all

-- ---- ASCII that is printed

control_not : (b : ℕ) → 32 ≤ b → b < 127 → is_control b ≡ false
control_not b h k = grind (arith, nat_tests)

line_not : (b : ℕ) → b < 127 → ends_a_line b ≡ false
line_not b k = grind (arith, nat_tests)

turning_not : (b : ℕ) → b < 127 → turns_round b ≡ false
turning_not b k = grind (arith, nat_tests)

widthless_not : (b : ℕ) → b < 127 → has_no_width b ≡ false
widthless_not b k = grind (arith, nat_tests)

above_not : (b : ℕ) → b < 127 → has_no_width_above b ≡ false
above_not b k = grind (arith, nat_tests)

seen : (b : ℕ) → 32 ≤ b → b < 127 → is_unseen b ≡ false
seen b h k = rw (control_not b h k, line_not b k, turning_not b k, widthless_not b k, above_not b k) refl

shown_same : (b : ℕ) → 32 ≤ b → b < 127 → shown b ≡ b ∷ []
unfolding encode_utf8
shown_same b h k =
    let tab : (b == 9) ≡ false = grind (arith, nat_tests) in
    let feed : (b == 10) ≡ false = grind (arith, nat_tests) in
    let return : (b == 13) ≡ false = grind (arith, nat_tests) in
    let short : nat_lt b 128 ≡ true = grind (arith, nat_tests) in
    rw (tab, feed, return, seen b h k, short) refl

one_read : (b : ℕ) (bs : List ℕ) → b < 127 → decoded (b ∷ bs) ≡ good b 1
one_read b bs k = value-1 (length (b ∷ bs)) b (slice_index (b ∷ bs) 1) (slice_index (b ∷ bs) 2) (slice_index (b ∷ bs) 3) (omega arith, omega (arith, k))

pub printed_same : (bs : List ℕ) → list_all is_printed bs ≡ true → bytes_shown bs ≡ bs
unfolding shown_from
printed_same [] h = refl
printed_same (b ∷ bs) h =
    let parts = and_parts (is_printed b) (list_all is_printed bs) h in
    let printed : is_printed b ≡ true = parts.0 in
    let range = and_parts (nat_le 32 b) (nat_le b 126) printed in
    let from_is : nat_le 32 b ≡ true = range.0 in
    let to_is : nat_le b 126 ≡ true = range.1 in
    let from : 32 ≤ b = grind (arith, nat_tests) in
    let to : b < 127 = grind (arith, nat_tests) in
    let read = one_read b bs to in
    shown_step (b ∷ bs) (omega arith) ∙ ap (λ d. front_shown d.char (b ∷ bs) ++ bytes_shown (drop (front_size d.char d.size) (b ∷ bs))) read
    ∙ ap (λ l. l ++ bytes_shown bs) (shown_same b from to) ∙ ap (λ l. b ∷ l) (printed_same bs parts.1)

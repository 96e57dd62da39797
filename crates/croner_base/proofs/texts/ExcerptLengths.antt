-- How long an excerpt is, and what a loop over the characters of a text has written.
use Rattle.std.proofs.Common.{◌≡◌, ℕ, zero, suc, ◌+◌, ◌-◌, ◌*◌, ◌/◌, ◌%◌, ◌^◌, ◌<◌, ◌≤◌, ◌==◌, ◌||◌, true, false, leb, List, [], ◌∷◌, ◌++◌, length, take, IsUtf8, arith, inl, inr, cond, Bool, ap, sym, ◌∙◌, refl}
use Rattle.std.proofs.lemmas.Bool.{cases_lt, and_parts}
use Rattle.std.proofs.lemmas.Fmt.{length-decimal-le}
use Rattle.std.proofs.lemmas.List.{length-take, length-append, append_assoc, append-nil}
use Rattle.std.proofs.lemmas.Bool.Decides.{nat_tests}
use Rattle.std.proofs.lemmas.Str.{encodes-chars, length-encode, len_utf8_bounds, length-le-encodes, encodes_same}
use Rattle.std.specs.Char.{encode_utf8}
use Rattle.std.specs.Str.{chars, encode_utf8_all}
use Rattle.std.specs.Fmt.{decimal, digits, digits_onto, digit_glyph}
use Rattle.std.specs.Prelude.{codes}
use Rattle.croner_base.specs.Excerpt.{excerpt, excerpt_end, shown, all_shown, is_among, is_control, ends_a_line, turns_round, has_no_width, has_no_width_above, is_unseen}

one_of_two : (b : Bool) (xs ys : List ℕ) (n : ℕ) → length xs ≤ n → length ys ≤ n → length (cond b xs ys) ≤ n
one_of_two true xs ys n h k = h
one_of_two false xs ys n h k = k

-- ---- digits

of_zero : (k n : ℕ) (acc : List ℕ) → n < 1 → length (digits_onto k 16 false n acc) ≤ 1 + length acc
of_zero zero n acc h = omega arith
of_zero (suc k) zero acc h = omega arith
of_zero (suc k) (suc n) acc h = absurd (omega (arith, h))

more_digits : (b m : ℕ) → ((k n : ℕ) (acc : List ℕ) → n < b → length (digits_onto k 16 false n acc) ≤ m + length acc)
    → (k n : ℕ) (acc : List ℕ) → n < 16 * b → length (digits_onto k 16 false n acc) ≤ m + 1 + length acc
more_digits b m ih zero n acc h = omega arith
more_digits b m ih (suc k) n acc h =
    let rest : length (digits_onto k 16 false (n / 16) (digit_glyph false (n % 16) ∷ acc)) ≤ m + suc (length acc) = ih k (n / 16) (digit_glyph false (n % 16) ∷ acc) (omega (arith, h)) in
    let one : length (digit_glyph false (n % 16) ∷ acc) ≤ m + 1 + length acc = omega arith in
    let all : length (digits_onto k 16 false (n / 16) (digit_glyph false (n % 16) ∷ acc)) ≤ m + 1 + length acc = omega (arith, rest) in
    one_of_two (n / 16 == 0) (digit_glyph false (n % 16) ∷ acc) (digits_onto k 16 false (n / 16) (digit_glyph false (n % 16) ∷ acc)) (m + 1 + length acc) one all

length_digits : (c : ℕ) → c < 1048576 → length (digits 16 false c) ≤ 6
unfolding digits
length_digits c h =
    more_digits 65536 5 (more_digits 4096 4 (more_digits 256 3 (more_digits 16 2 (more_digits 1 1 of_zero)))) 64 c [] (omega (arith, h))

-- ---- characters that nobody sees

either : {P : Type 0} (x y : Bool) → (x ≡ true → P) → (y ≡ true → P) → (x || y) ≡ true → P
either true y h k e = h refl
either false y h k e = k e

among_below : (first last c : ℕ) → last < 1048576 → is_among first last c ≡ true → c < 1048576
among_below first last c small h =
    let high : leb c last ≡ true = (and_parts (leb first c) (leb c last) h).1 in
    grind (arith, nat_tests)

same_below : (k c : ℕ) → k < 1048576 → (c == k) ≡ true → c < 1048576
same_below k c small h = grind (arith, nat_tests)

control_below : (c : ℕ) → is_control c ≡ true → c < 1048576
control_below c = either _ _ (among_below 0 0x1f c (omega arith)) (among_below 0x7f 0x9f c (omega arith))

turning_below : (c : ℕ) → turns_round c ≡ true → c < 1048576
turning_below c =
    either _ _ (same_below 0x61c c (omega arith)) (either _ _ (among_below 0x200e 0x200f c (omega arith))
    (either _ _ (among_below 0x202a 0x202e c (omega arith)) (among_below 0x2066 0x2069 c (omega arith))))

widthless_below : (c : ℕ) → has_no_width c ≡ true → c < 1048576
widthless_below c =
    either _ _ (same_below 0xad c (omega arith)) (either _ _ (same_below 0x34f c (omega arith)) (either _ _ (among_below 0x115f 0x1160 c (omega arith))
    (either _ _ (among_below 0x17b4 0x17b5 c (omega arith)) (either _ _ (among_below 0x180b 0x180f c (omega arith))
    (either _ _ (among_below 0x200b 0x200d c (omega arith)) (either _ _ (among_below 0x2060 0x2065 c (omega arith))
    (either _ _ (among_below 0x206a 0x206f c (omega arith)) (either _ _ (same_below 0x3164 c (omega arith))
    (either _ _ (among_below 0xfe00 0xfe0f c (omega arith)) (either _ _ (same_below 0xfeff c (omega arith))
    (either _ _ (same_below 0xffa0 c (omega arith)) (among_below 0xfff0 0xfffb c (omega arith)))))))))))))

above_below : (c : ℕ) → has_no_width_above c ≡ true → c < 1048576
above_below c =
    either _ _ (among_below 0x1bca0 0x1bca3 c (omega arith)) (either _ _ (among_below 0x1d173 0x1d17a c (omega arith)) (among_below 0xe0000 0xe0fff c (omega arith)))

unseen_below : (c : ℕ) → is_unseen c ≡ true → c < 1048576
unseen_below c =
    either (is_control c) _ (control_below c) (either (ends_a_line c) _ (among_below 0x2028 0x2029 c (omega arith)) (either (turns_round c) _ (turning_below c)
    (either (has_no_width c) (has_no_width_above c) (widthless_below c) (above_below c))))

-- ---- lengths

length_unseen : (c : ℕ) (b : Bool) → is_unseen c ≡ b → length (cond b (codes "\\u{" ++ (digits 16 false c ++ codes "}")) (encode_utf8 c)) ≤ 10
length_unseen c true h = omega (arith, length_digits c (unseen_below c h), length-append (digits 16 false c) (codes "}"))
length_unseen c false h = omega (arith, length-encode c, (len_utf8_bounds c).1)

length_shown : (c : ℕ) → length (shown c) ≤ 10
length_shown c =
    one_of_two (c == 9) _ _ 10 (omega arith) (one_of_two (c == 10) _ _ 10 (omega arith) (one_of_two (c == 13) _ _ 10 (omega arith) (length_unseen c (is_unseen c) refl)))

length_all_shown : (cs : List ℕ) → length (all_shown cs) ≤ 10 * length cs
length_all_shown [] = omega arith
length_all_shown (c ∷ cs) = omega (arith, length_shown c, length_all_shown cs, length-append (shown c) (all_shown cs))

length_end : (most count : ℕ) → count < 2 ^ 64 → length (excerpt_end most count) ≤ 45
length_end most count small =
    elim (cases_lt most count) [
      | inl long ↦
          let no : leb count most ≡ false = grind (arith, nat_tests) in
          let places : length (decimal (count - most)) ≤ 20 = omega (arith, length-decimal-le 20 (count - most)) in
          rw no (omega (arith, places, length-append (decimal (count - most)) (codes ")")))
      | inr short ↦
          let yes : leb count most ≡ true = grind (arith, nat_tests) in
          rw yes (omega arith)
    ]

-- an excerpt is short, whatever the text
pub length_excerpt : (most : ℕ) (text : List ℕ) → IsUtf8 text → length text < 2 ^ 64 → length (excerpt most text) ≤ 10 * most + 46
length_excerpt most text u small =
    let cs = chars text in
    let same = encodes-chars text u in
    let fewer : length cs < 2 ^ 64 = omega (arith, length-le-encodes cs, ap length same, small) in
    let front = length_all_shown (take most cs) in
    let first : length (take most cs) ≤ most = omega (arith, length-take most cs) in
    let behind = length_end most (length cs) fewer in
    omega (arith, front, first, behind, length-append (all_shown (take most cs)) (excerpt_end most (length cs)))

-- ---- the loop

pub one_more_shown : (done all cs es : List ℕ) (left less c : ℕ) → cs ≡ c ∷ es → left ≡ less + 1 → done ++ all_shown (take left cs) ≡ all → (done ++ shown c) ++ all_shown (take less es) ≡ all
one_more_shown done all cs es left less c e m h =
    let next : less + 1 ≡ suc less = omega arith in
    let taken : take left cs ≡ c ∷ take less es = ap (λ n. take n cs) (m ∙ next) ∙ ap (take (suc less)) e in
    append_assoc done (shown c) (all_shown (take less es)) ∙ sym (ap (λ x. done ++ all_shown x) taken) ∙ h

take_none : (n : ℕ) (cs : List ℕ) → cs ≡ [] → take n cs ≡ []
take_none zero cs e = refl
take_none (suc n) [] e = refl
take_none (suc n) (c ∷ cs) e = absurd (omega (arith, ap length e))

no_bytes : (bs : List ℕ) → length bs ≡ 0 → bs ≡ []
no_bytes [] e = refl
no_bytes (b ∷ bs) e = absurd (omega (arith, e))

pub none_more_shown : (done all cs : List ℕ) (left : ℕ) (rest : List ℕ) → encode_utf8_all cs ≡ rest → length rest ≡ 0 → done ++ all_shown (take left cs) ≡ all → done ≡ all
none_more_shown done all cs left rest e n h =
    let none : cs ≡ [] = encodes_same cs [] (e ∙ no_bytes rest n) in
    let taken : take left cs ≡ [] = take_none left cs none in
    sym (append-nil done) ∙ sym (ap (λ x. done ++ all_shown x) taken) ∙ h

-- the text of a long excerpt
pub long_written : (most : ℕ) (text : List ℕ) (count : ℕ) → count ≡ length (chars text) → most < count
    → 39 ∷ (all_shown (take most (chars text)) ++ (codes "' (characters left out: " ++ (decimal (count - most) ++ codes ")"))) ≡ excerpt most text
long_written most text count same long =
    let no : leb (length (chars text)) most ≡ false = grind (arith, nat_tests) in
    rw (same, no)

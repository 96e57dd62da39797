-- The words of a text in which each name is replaced are its words, each replaced by itself.
use Rattle.std.proofs.Common.{◌≡◌, ◌⊎◌, ℕ, suc, zero, ◌+◌, ◌<◌, ◌≤◌, Bool, true, false, eqb, leb, ◌&&◌, List, [], ◌∷◌, ◌++◌, length, map, take, get_or, Option, Some, None, option_map, unwrap_or, is_some, refl, ap, sym, ◌∙◌, subst, arith, inl, inr}
use Rattle.std.proofs.lemmas.Bool.{false≢true, and_parts, and_from, cases_Bool, cases_lt, eqb-true, ltb-true, not-false}
use Rattle.std.proofs.lemmas.Bool.Decides.{nat_tests}
use Rattle.std.proofs.lemmas.List.{append_assoc, append-nil, length-append}
use Rattle.std.proofs.lemmas.Option.{none-some, same_Some}
use Rattle.std.proofs.lemmas.Str.{IsUtf8-append, encode_ascii, encodes-append, length-encode, len_utf8_bounds}
use Rattle.std.specs.Char.{encode_utf8, is_whitespace, is_not_whitespace}
use Rattle.std.specs.List.{list_all}
use Rattle.std.specs.Str.{IsUtf8, NonePass, all_scalars, encode_utf8_all}
use lib.Utf8.{scalar, low_scalar}
use Rattle.croner.specs.parser.Cut.{Piece, month, weekday, single, months, weekdays, letters, is_lost, IsPiece, name_of, weekday_number, shown, is_dash, expansion, replaced}
use Rattle.croner.specs.parser.Words.{AreWords, words}
use Rattle.croner.specs.Private.parser.Places.{Follows}
use Rattle.croner.specs.Private.parser.Steps.{with_front, HasNoName}
use Rattle.croner.proofs.parser.Cuts.{names_of}
use Rattle.croner.proofs.parser.Expanded.{is_digit, decimal_digits, decimal_some, weekday_small}
use Rattle.croner.proofs.parser.Names.{with_front-nil, with_front-append, cut_named, shown_onto, good_names, replaced_lost, replaced_single, replaced_high, high_bytes, AreHigh}
use Rattle.croner.proofs.parser.WordLists.{are_words, split_encodes, words_are}

-- ---- the letters of a name

abbrev pub is_capital : ℕ → Bool
is_capital b = leb 65 b && leb b 90

pub all_at : (test : List ℕ → Bool) (xs : List (List ℕ)) (n : ℕ) → list_all test xs ≡ true → n < length xs → test (get_or xs n []) ≡ true
all_at test [] n h l = absurd (omega (arith, l))
all_at test (x ∷ xs) zero h l = (and_parts (test x) (list_all test xs) h).0
all_at test (x ∷ xs) (suc n) h l = all_at test xs n (and_parts (test x) (list_all test xs) h).1 (omega (arith, l))

piece_name : (p : Piece) (name : List ℕ) → IsPiece p → letters p ≡ name → length name ≡ 3 → list_all is_capital name ≡ true
piece_name (month n) name h e three = ap (list_all is_capital) (sym e) ∙ all_at (list_all is_capital) months n refl (ltb-true n 12 h)
piece_name (weekday n) name h e three = ap (list_all is_capital) (sym e) ∙ all_at (list_all is_capital) weekdays n refl (ltb-true n 7 h)
piece_name (single c) name h e three = absurd (omega (arith, ap length e, three))

length_name : (name : List ℕ) (p : Piece) → name_of name ≡ Some p → length name ≡ 3
length_name name p e = eqb-true (length name) 3 (and_parts (eqb (length name) 3) _ (good_names name p e)).0

abbrev is_name : List ℕ → Bool
is_name name = eqb (length name) 3 && list_all is_capital name

-- a name has three capitals, or there is none
named : (text : List ℕ) → is_name (take 3 text) ≡ false → HasNoName text
named text h = elim (names_of (take 3 text)) [
  | inl none ↦ none
  | inr some ↦
      let good = (and_parts (eqb (length (take 3 text)) 3) _ (good_names (take 3 text) some.0 some.1)).0 in
      let capitals = piece_name some.0 (take 3 text) some.2 some.3 (length_name (take 3 text) some.0 some.1) in
      absurd (false≢true (sym h ∙ and_from (eqb (length (take 3 text)) 3) (list_all is_capital (take 3 text)) good capitals))
]

one_false : (a : Bool) → (a && false) ≡ false
one_false true = refl
one_false false = refl

two_false : (a b : Bool) → (a && (b && false)) ≡ false
two_false true b = one_false b
two_false false b = refl

pub first : (text : List ℕ) → is_capital (get_or text 0 0) ≡ false → HasNoName text
first [] h = named [] refl
first (a ∷ []) h = named (a ∷ []) refl
first (a ∷ b ∷ []) h = named (a ∷ b ∷ []) refl
first (a ∷ b ∷ c ∷ t) h = named (a ∷ b ∷ c ∷ t) (rw h refl)

pub second : (a : ℕ) (text : List ℕ) → is_capital (get_or text 0 0) ≡ false → HasNoName (a ∷ text)
second a [] h = named (a ∷ []) refl
second a (b ∷ []) h = named (a ∷ b ∷ []) refl
second a (b ∷ c ∷ t) h = named (a ∷ b ∷ c ∷ t) (rw h (one_false (is_capital a)))

pub third : (a b : ℕ) (text : List ℕ) → is_capital (get_or text 0 0) ≡ false → HasNoName (a ∷ b ∷ text)
third a b [] h = named (a ∷ b ∷ []) refl
third a b (c ∷ t) h = named (a ∷ b ∷ c ∷ t) (rw h (two_false (is_capital a) (is_capital b)))

-- ---- what follows a word

high_small : (b : ℕ) → 128 ≤ b → is_capital b ≡ false
high_small b h = grind (arith, nat_tests)

high_first : (bs t : List ℕ) → 0 < length bs → AreHigh bs → is_capital (get_or (bs ++ t) 0 0) ≡ false
high_first [] t some h = absurd (omega (arith, some))
high_first (b ∷ bs) t some h = high_small b (h 0 (omega arith))

white_small : (c : ℕ) → is_whitespace c ≡ true → is_capital c ≡ false
white_small c h = grind (arith, nat_tests)

white_kept : (c : ℕ) → is_whitespace c ≡ true → is_lost c ≡ false
white_kept c h = grind (arith, nat_tests)

white_no_dash : (c : ℕ) → is_whitespace c ≡ true → eqb c 45 ≡ false
white_no_dash c h = grind (arith, nat_tests)

-- the first byte of a character that is no capital is none
char_small : (c : ℕ) (t : List ℕ) → is_capital c ≡ false → is_capital (get_or (encode_utf8 c ++ t) 0 0) ≡ false
char_small c t h = elim (cases_lt c 128) [
  | inl small ↦ ap (λ x. is_capital (get_or (x ++ t) 0 0)) (encode_ascii c small) ∙ h
  | inr high ↦ high_first (encode_utf8 c) t (omega (arith, length-encode c, (len_utf8_bounds c).0)) (high_bytes c high)
]

some_bytes : (c : ℕ) (t : List ℕ) → 0 < length (encode_utf8 c ++ t)
some_bytes c t = omega (arith, length-append (encode_utf8 c) t, length-encode c, (len_utf8_bounds c).0)

follows_small : (rest : List ℕ) → Follows rest → is_capital (get_or rest 0 0) ≡ false
follows_small [] f = refl
follows_small (b ∷ bs) f =
    let k = f.1 (omega arith) in
    ap (λ x. is_capital (get_or x 0 0)) k.2 ∙ char_small k.0 f.0 (white_small k.0 k.1)

-- ---- one character

high_no_dash : (c : ℕ) → 128 ≤ c → eqb c 45 ≡ false
high_no_dash c h = grind (arith, nat_tests)

high_kept : (quartz after_dash : Bool) (bs t : List ℕ) → 0 < length bs → AreHigh bs → replaced quartz after_dash (bs ++ t) ≡ with_front bs (replaced quartz false t)
high_kept quartz after_dash [] t some h = absurd (omega (arith, some))
high_kept quartz after_dash (b ∷ bs) t some h = replaced_high quartz after_dash b bs t h

lost_ascii : (c : ℕ) → is_lost c ≡ true → c < 128
lost_ascii c h = grind (arith, nat_tests)

capital_ascii : (c : ℕ) → is_capital c ≡ true → c < 128
capital_ascii c h = grind (arith, nat_tests)

char_kept : (quartz after_dash : Bool) (c : ℕ) (t : List ℕ) → HasNoName (encode_utf8 c ++ t) → is_lost c ≡ false → replaced quartz after_dash (encode_utf8 c ++ t) ≡ with_front (encode_utf8 c) (replaced quartz (eqb c 45) t)
char_kept quartz after_dash c t h kept = elim (cases_lt c 128) [
  | inl small ↦
      let one = encode_ascii c small in
      ap (λ x. replaced quartz after_dash (x ++ t)) one ∙ replaced_single quartz after_dash c t (subst (λ x. HasNoName (x ++ t)) one h) kept
      ∙ ap (λ x. with_front x (replaced quartz (eqb c 45) t)) (sym one)
  | inr high ↦ high_kept quartz after_dash (encode_utf8 c) t (omega (arith, length-encode c, (len_utf8_bounds c).0)) (high_bytes c high)
      ∙ ap (λ d. with_front (encode_utf8 c) (replaced quartz d t)) (sym (high_no_dash c high))
]

-- white space says nothing of what stands in front of it
pub white_first : (quartz after_dash : Bool) (c : ℕ) (t : List ℕ) → is_whitespace c ≡ true → replaced quartz after_dash (encode_utf8 c ++ t) ≡ with_front (encode_utf8 c) (replaced quartz false t)
white_first quartz after_dash c t h =
    char_kept quartz after_dash c t (first (encode_utf8 c ++ t) (char_small c t (white_small c h))) (white_kept c h) ∙ ap (λ d. with_front (encode_utf8 c) (replaced quartz d t)) (white_no_dash c h)

flag_off : (quartz after_dash : Bool) (rest : List ℕ) → Follows rest → replaced quartz after_dash rest ≡ replaced quartz false rest
flag_off quartz after_dash [] f = refl
flag_off quartz after_dash (b ∷ bs) f =
    let k = f.1 (omega arith) in
    ap (replaced quartz after_dash) k.2 ∙ white_first quartz after_dash k.0 f.0 k.1 ∙ sym (white_first quartz false k.0 f.0 k.1) ∙ ap (replaced quartz false) (sym k.2)

lost_first : (quartz after_dash : Bool) (c : ℕ) (t : List ℕ) → HasNoName (encode_utf8 c ++ t) → is_lost c ≡ true → replaced quartz after_dash (encode_utf8 c ++ t) ≡ None
lost_first quartz after_dash c t h lost =
    let one = encode_ascii c (lost_ascii c lost) in
    ap (λ x. replaced quartz after_dash (x ++ t)) one ∙ replaced_lost quartz after_dash c t (subst (λ x. HasNoName (x ++ t)) one h) lost

-- ---- one name

pub name_first : (quartz after_dash : Bool) (a b c : ℕ) (t : List ℕ) (p : Piece) → name_of (a ∷ b ∷ c ∷ []) ≡ Some p → replaced quartz after_dash (a ∷ b ∷ c ∷ t) ≡ with_front (shown quartz after_dash p) (replaced quartz (is_dash p) t)
name_first quartz after_dash a b c t p e =
    ap (option_map (expansion quartz after_dash)) (cut_named (a ∷ b ∷ c ∷ t) p (omega arith) e) ∙ shown_onto quartz after_dash p _

digit_plain : (b : ℕ) → is_digit b ≡ true → is_whitespace b ≡ false
digit_plain b h = grind (arith, nat_tests)

digit_small : (b : ℕ) → is_digit b ≡ true → b < 128
digit_small b h = grind (arith, nat_tests)

digits_encode : (ds : List ℕ) → list_all is_digit ds ≡ true → encode_utf8_all ds ≡ ds
digits_encode [] h = refl
digits_encode (d ∷ ds) h =
    let parts = and_parts (is_digit d) (list_all is_digit ds) h in
    ap (λ x. x ++ encode_utf8_all ds) (encode_ascii d (digit_small d parts.0)) ∙ ap (λ x. d ∷ x) (digits_encode ds parts.1)

-- no white space in digits in front of characters that have none
digits_plain : (ds cs : List ℕ) → list_all is_digit ds ≡ true → NonePass is_whitespace cs → NonePass is_whitespace (ds ++ cs)
digits_plain [] cs h k = k
digits_plain (d ∷ ds) cs h k =
    let parts = and_parts (is_digit d) (list_all is_digit ds) h in (digit_plain d parts.0, digits_plain ds cs parts.1 k)

digits_scalars : (ds cs : List ℕ) → list_all is_digit ds ≡ true → all_scalars cs ≡ true → all_scalars (ds ++ cs) ≡ true
digits_scalars [] cs h k = k
digits_scalars (d ∷ ds) cs h k =
    let parts = and_parts (is_digit d) (list_all is_digit ds) h in
    let small = digit_small d parts.0 in
    and_from (scalar d) (all_scalars (ds ++ cs)) (low_scalar d (omega (arith, small))) (digits_scalars ds cs parts.1 k)

-- a name is shown by digits
pub record IsNumber (quartz after_dash : Bool) (p : Piece) : Type 0 where
  pub digits : list_all is_digit (shown quartz after_dash p) ≡ true
  pub some : 0 < length (shown quartz after_dash p)
  pub no_dash : is_dash p ≡ false

pub is_number : (quartz after_dash : Bool) (p : Piece) (name : List ℕ) → IsPiece p → letters p ≡ name → length name ≡ 3 → IsNumber quartz after_dash p
is_number quartz after_dash (month n) name h e three = record {
  digits = decimal_digits (n + 1) (omega (arith, ltb-true n 12 h));
  some = decimal_some (n + 1);
  no_dash = refl;
}
is_number quartz after_dash (weekday n) name h e three = record {
  digits = decimal_digits (weekday_number quartz after_dash n) (weekday_small quartz after_dash n (ltb-true n 7 h));
  some = decimal_some (weekday_number quartz after_dash n);
  no_dash = refl;
}
is_number quartz after_dash (single c) name h e three = absurd (omega (arith, ap length e, three))

-- ---- one word

-- a word has no cut, whatever follows it
abbrev Lost : Bool → Bool → List ℕ → Type 0
Lost quartz after_dash word = (rest : List ℕ) → Follows rest → replaced quartz after_dash (word ++ rest) ≡ None

-- or these characters stand for it
record Kept (quartz after_dash : Bool) (word : List ℕ) : Type 0 where
  cs : List ℕ
  scalars : all_scalars cs ≡ true
  plain : NonePass is_whitespace cs
  some : 0 < length word → 0 < length (encode_utf8_all cs)
  goes_on : (rest : List ℕ) → Follows rest → replaced quartz after_dash (word ++ rest) ≡ with_front (encode_utf8_all cs) (replaced quartz false rest)

abbrev Reads : Bool → Bool → List ℕ → Type 0
Reads quartz after_dash word = Lost quartz after_dash word ⊎ Kept quartz after_dash word

char_on : (quartz after_dash : Bool) (c : ℕ) (cs : List ℕ) → scalar c ≡ true → is_whitespace c ≡ false → is_lost c ≡ false
    → ((rest : List ℕ) → Follows rest → HasNoName (encode_utf8 c ++ (encode_utf8_all cs ++ rest))) → Reads quartz (eqb c 45) (encode_utf8_all cs) → Reads quartz after_dash (encode_utf8_all (c ∷ cs))
char_on quartz after_dash c cs scalar_c plain kept none read = elim read [
  | inl lost ↦ inl (λ rest f.
      ap (replaced quartz after_dash) (append_assoc (encode_utf8 c) (encode_utf8_all cs) rest) ∙ char_kept quartz after_dash c (encode_utf8_all cs ++ rest) (none rest f) kept
      ∙ ap (with_front (encode_utf8 c)) (lost rest f))
  | inr k ↦ inr (record {
    cs = c ∷ k.cs;
    scalars = and_from (scalar c) (all_scalars k.cs) scalar_c k.scalars;
    plain = (plain, k.plain);
    some = λ _. some_bytes c (encode_utf8_all k.cs);
    goes_on = λ rest f.
        ap (replaced quartz after_dash) (append_assoc (encode_utf8 c) (encode_utf8_all cs) rest) ∙ char_kept quartz after_dash c (encode_utf8_all cs ++ rest) (none rest f) kept
        ∙ ap (with_front (encode_utf8 c)) (k.goes_on rest f) ∙ with_front-append (encode_utf8 c) (encode_utf8_all k.cs) (replaced quartz false rest);
  })
]

-- a character in front that begins no name
one_char : (quartz after_dash : Bool) (c : ℕ) (cs : List ℕ) → scalar c ≡ true → is_whitespace c ≡ false
    → ((rest : List ℕ) → Follows rest → HasNoName (encode_utf8 c ++ (encode_utf8_all cs ++ rest))) → Reads quartz (eqb c 45) (encode_utf8_all cs) → Reads quartz after_dash (encode_utf8_all (c ∷ cs))
one_char quartz after_dash c cs scalar_c plain none read = elim (cases_Bool (is_lost c)) [
  | inl lost ↦ inl (λ rest f.
      ap (replaced quartz after_dash) (append_assoc (encode_utf8 c) (encode_utf8_all cs) rest) ∙ lost_first quartz after_dash c (encode_utf8_all cs ++ rest) (none rest f) lost)
  | inr kept ↦ char_on quartz after_dash c cs scalar_c plain kept none read
]

one_name : (quartz after_dash : Bool) (a b c : ℕ) (cs : List ℕ) (p : Piece) → encode_utf8_all (a ∷ b ∷ c ∷ cs) ≡ a ∷ b ∷ c ∷ encode_utf8_all cs → name_of (a ∷ b ∷ c ∷ []) ≡ Some p → IsNumber quartz after_dash p
    → Reads quartz false (encode_utf8_all cs) → Reads quartz after_dash (encode_utf8_all (a ∷ b ∷ c ∷ cs))
one_name quartz after_dash a b c cs p same e number read =
    let step : (rest : List ℕ) → replaced quartz after_dash (encode_utf8_all (a ∷ b ∷ c ∷ cs) ++ rest) ≡ with_front (shown quartz after_dash p) (replaced quartz false (encode_utf8_all cs ++ rest)) =
    λ rest. ap (λ x. replaced quartz after_dash (x ++ rest)) same ∙ name_first quartz after_dash a b c (encode_utf8_all cs ++ rest) p e
    ∙ ap (λ d. with_front (shown quartz after_dash p) (replaced quartz d (encode_utf8_all cs ++ rest))) number.no_dash in
    elim read [
      | inl lost ↦ inl (λ rest f. step rest ∙ ap (with_front (shown quartz after_dash p)) (lost rest f))
      | inr k ↦
          let spelled : encode_utf8_all (shown quartz after_dash p ++ k.cs) ≡ shown quartz after_dash p ++ encode_utf8_all k.cs =
          encodes-append (shown quartz after_dash p) k.cs ∙ ap (λ x. x ++ encode_utf8_all k.cs) (digits_encode (shown quartz after_dash p) number.digits) in
          inr (record {
            cs = shown quartz after_dash p ++ k.cs;
            scalars = digits_scalars (shown quartz after_dash p) k.cs number.digits k.scalars;
            plain = digits_plain (shown quartz after_dash p) k.cs number.digits k.plain;
            some = λ _. omega (arith, ap length spelled, length-append (shown quartz after_dash p) (encode_utf8_all k.cs), number.some);
            goes_on = λ rest f.
                step rest ∙ ap (with_front (shown quartz after_dash p)) (k.goes_on rest f) ∙ with_front-append (shown quartz after_dash p) (encode_utf8_all k.cs) (replaced quartz false rest)
                ∙ ap (λ x. with_front x (replaced quartz false rest)) (sym spelled);
          })
    ]

-- three characters that are no name, and begin none
no_name : (a b c : ℕ) (t : List ℕ) → name_of (a ∷ b ∷ c ∷ []) ≡ None → HasNoName (encode_utf8 a ++ (encode_utf8 b ++ (encode_utf8 c ++ t)))
no_name a b c t none = elim (cases_lt a 128) [
  | inr high ↦ first (encode_utf8 a ++ (encode_utf8 b ++ (encode_utf8 c ++ t))) (char_small a (encode_utf8 b ++ (encode_utf8 c ++ t)) (high_small a high))
  | inl small_a ↦ subst (λ x. HasNoName (x ++ (encode_utf8 b ++ (encode_utf8 c ++ t)))) (sym (encode_ascii a small_a)) (elim (cases_lt b 128) [
    | inr high ↦ second a (encode_utf8 b ++ (encode_utf8 c ++ t)) (char_small b (encode_utf8 c ++ t) (high_small b high))
    | inl small_b ↦ subst (λ x. HasNoName (a ∷ (x ++ (encode_utf8 c ++ t)))) (sym (encode_ascii b small_b)) (elim (cases_lt c 128) [
      | inr high ↦ third a b (encode_utf8 c ++ t) (char_small c t (high_small c high))
      | inl small_c ↦ subst (λ x. HasNoName (a ∷ b ∷ (x ++ t))) (sym (encode_ascii c small_c)) none
    ])
  ])
]

no_name_of_two : (a b : ℕ) (t : List ℕ) → is_capital (get_or t 0 0) ≡ false → HasNoName (encode_utf8 a ++ (encode_utf8 b ++ t))
no_name_of_two a b t h = elim (cases_lt a 128) [
  | inr high ↦ first (encode_utf8 a ++ (encode_utf8 b ++ t)) (char_small a (encode_utf8 b ++ t) (high_small a high))
  | inl small_a ↦ subst (λ x. HasNoName (x ++ (encode_utf8 b ++ t))) (sym (encode_ascii a small_a)) (elim (cases_lt b 128) [
    | inr high ↦ second a (encode_utf8 b ++ t) (char_small b t (high_small b high))
    | inl small_b ↦ subst (λ x. HasNoName (a ∷ (x ++ t))) (sym (encode_ascii b small_b)) (third a b t h)
  ])
]

no_name_of_one : (a : ℕ) (t : List ℕ) → is_capital (get_or t 0 0) ≡ false → HasNoName (encode_utf8 a ++ t)
no_name_of_one a t h = elim (cases_lt a 128) [
  | inr high ↦ first (encode_utf8 a ++ t) (char_small a t (high_small a high))
  | inl small_a ↦ subst (λ x. HasNoName (x ++ t)) (sym (encode_ascii a small_a)) (second a t h)
]

three_bytes : (a b c : ℕ) (cs : List ℕ) → list_all is_capital (a ∷ b ∷ c ∷ []) ≡ true → encode_utf8_all (a ∷ b ∷ c ∷ cs) ≡ a ∷ b ∷ c ∷ encode_utf8_all cs
three_bytes a b c cs h =
    let one = and_parts (is_capital a) _ h in
    let two = and_parts (is_capital b) _ one.1 in
    let three = and_parts (is_capital c) true two.1 in
    ap (λ x. x ++ (encode_utf8 b ++ (encode_utf8 c ++ encode_utf8_all cs))) (encode_ascii a (capital_ascii a one.0))
    ∙ ap (λ x. a ∷ (x ++ (encode_utf8 c ++ encode_utf8_all cs))) (encode_ascii b (capital_ascii b two.0))
    ∙ ap (λ x. a ∷ b ∷ (x ++ encode_utf8_all cs)) (encode_ascii c (capital_ascii c three.0))

word_reads : (quartz after_dash : Bool) (cs : List ℕ) → all_scalars cs ≡ true → NonePass is_whitespace cs → Reads quartz after_dash (encode_utf8_all cs)
word_reads quartz after_dash [] s h = inr (record {
  cs = [];
  scalars = refl;
  plain = tt;
  some = λ l. absurd (omega (arith, l));
  goes_on = λ rest f. flag_off quartz after_dash rest f ∙ sym (with_front-nil (replaced quartz false rest));
})
word_reads quartz after_dash (a ∷ []) s h =
    let parts = and_parts (scalar a) (all_scalars []) s in
    one_char quartz after_dash a [] parts.0 h.0 (λ rest f. no_name_of_one a rest (follows_small rest f)) (word_reads quartz (eqb a 45) [] parts.1 h.1)
word_reads quartz after_dash (a ∷ b ∷ []) s h =
    let parts = and_parts (scalar a) (all_scalars (b ∷ [])) s in
    one_char quartz after_dash a (b ∷ []) parts.0 h.0
    (λ rest f. subst (λ x. HasNoName (encode_utf8 a ++ (x ++ rest))) (sym (append-nil (encode_utf8 b))) (no_name_of_two a b rest (follows_small rest f)))
    (word_reads quartz (eqb a 45) (b ∷ []) parts.1 h.1)
word_reads quartz after_dash (a ∷ b ∷ c ∷ cs) s h =
    let one = and_parts (scalar a) (all_scalars (b ∷ c ∷ cs)) s in
    elim (names_of (a ∷ b ∷ c ∷ [])) [
      | inl none ↦
          one_char quartz after_dash a (b ∷ c ∷ cs) one.0 h.0
          (λ rest f. subst (λ x. HasNoName (encode_utf8 a ++ x)) (sym (append_assoc (encode_utf8 b) (encode_utf8 c ++ encode_utf8_all cs) rest ∙ ap (λ x. encode_utf8 b ++ x) (append_assoc (encode_utf8 c) (encode_utf8_all cs) rest)))
          (no_name a b c (encode_utf8_all cs ++ rest) none))
          (word_reads quartz (eqb a 45) (b ∷ c ∷ cs) one.1 h.1)
      | inr some ↦
          let p = some.0 in
          let two = and_parts (scalar b) (all_scalars (c ∷ cs)) one.1 in
          let three = and_parts (scalar c) (all_scalars cs) two.1 in
          let same = three_bytes a b c cs (piece_name p (a ∷ b ∷ c ∷ []) some.2 some.3 refl) in
          one_name quartz after_dash a b c cs p same some.1 (is_number quartz after_dash p (a ∷ b ∷ c ∷ []) some.2 some.3 refl) (word_reads quartz false cs three.1 h.1.1.1)
    ]

-- ---- all words

-- a word has a cut, and what stands for it then
abbrev pub is_cut : Bool → List ℕ → Bool
is_cut quartz word = is_some (replaced quartz false word)

abbrev pub written : Bool → List ℕ → List ℕ
written quartz word = unwrap_or (replaced quartz false word) []

-- a text whose words have cuts has one, and its words are these
pub record HasCut (quartz : Bool) (text : List ℕ) (ws : List (List ℕ)) : Type 0 where
  pub now : List ℕ
  pub utf8 : IsUtf8 now
  pub same : replaced quartz false text ≡ Some now
  pub are_words : AreWords now (map (written quartz) ws)
  pub cut : list_all (is_cut quartz) ws ≡ true

abbrev pub HasNoCut : Bool → List ℕ → List (List ℕ) → Type 0
HasNoCut quartz text ws = (replaced quartz false text ≡ None) × (list_all (is_cut quartz) ws ≡ false)

gap_kept : (quartz : Bool) (gs x : List ℕ) → NonePass is_not_whitespace gs → replaced quartz false (encode_utf8_all gs ++ x) ≡ with_front (encode_utf8_all gs) (replaced quartz false x)
gap_kept quartz [] x h = sym (with_front-nil (replaced quartz false x))
gap_kept quartz (g ∷ gs) x h =
    ap (replaced quartz false) (append_assoc (encode_utf8 g) (encode_utf8_all gs) x) ∙ white_first quartz false g (encode_utf8_all gs ++ x) (not-false (is_whitespace g) h.0)
    ∙ ap (with_front (encode_utf8 g)) (gap_kept quartz gs x h.1) ∙ with_front-append (encode_utf8 g) (encode_utf8_all gs) (replaced quartz false x)

follows_nil : Follows []
follows_nil = ([], λ l. absurd (omega (arith, l)))

white_in_front : (c : ℕ) (o : Option (List ℕ)) (now : List ℕ) → is_whitespace c ≡ true → scalar c ≡ true → with_front (encode_utf8 c) o ≡ Some now → Follows now
white_in_front c None now h s e = absurd (none-some now e)
white_in_front c (Some t) now h s e = (t, λ _. (c, h, sym (same_Some (encode_utf8 c ++ t) now e), s))

follows_now : (quartz : Bool) (rest now : List ℕ) → Follows rest → replaced quartz false rest ≡ Some now → Follows now
follows_now quartz [] now f e = subst Follows (same_Some [] now e) follows_nil
follows_now quartz (b ∷ bs) now f e =
    let k = f.1 (omega arith) in
    white_in_front k.0 (replaced quartz false f.0) now k.1 k.3 (sym (white_first quartz false k.0 f.0 k.1) ∙ ap (replaced quartz false) (sym k.2) ∙ e)

scalars_parts : (ds es : List ℕ) → all_scalars (ds ++ es) ≡ true → (all_scalars ds ≡ true) × (all_scalars es ≡ true)
scalars_parts [] es h = (refl, h)
scalars_parts (d ∷ ds) es h =
    let parts = and_parts (scalar d) (all_scalars (ds ++ es)) h in
    let rest = scalars_parts ds es parts.1 in
    (and_from (scalar d) (all_scalars ds) parts.0 rest.0, rest.1)

-- characters in front of a text are characters, and what stands after them is text
pub front_of_text : (ds rest : List ℕ) → IsUtf8 (encode_utf8_all ds ++ rest) → (all_scalars ds ≡ true) × IsUtf8 rest
front_of_text ds rest utf8 =
    let k = split_encodes ds utf8.0 rest utf8.1.1 in
    let parts = scalars_parts ds k.0 (ap all_scalars (sym k.1) ∙ utf8.1.0) in
    (parts.0, (k.0, (parts.1, k.2)))

text_reads : (quartz : Bool) (ws : List (List ℕ)) (text : List ℕ) → IsUtf8 text → AreWords text ws → HasNoCut quartz text ws ⊎ HasCut quartz text ws
text_reads quartz [] text utf8 h =
    let same : replaced quartz false text ≡ Some text =
    ap (replaced quartz false) (sym (append-nil text) ∙ ap (λ x. x ++ []) (sym h.1)) ∙ gap_kept quartz h.0 [] h.2 ∙ ap Some (append-nil (encode_utf8_all h.0) ∙ h.1) in
    inr (record { now = text; utf8 = utf8; same = same; are_words = h; cut = refl })
text_reads quartz (w ∷ ws) text utf8 h =
    let rest = h.0 in
    let s = h.1 in
    let gs = s.is_gap.0 in
    let us = s.is_word.0 in
    let spelled : text ≡ encode_utf8_all gs ++ (encode_utf8_all us ++ rest) = rw (s.is_gap.1, s.is_word.1) s.spells in
    let one = front_of_text gs (encode_utf8_all us ++ rest) (subst IsUtf8 spelled utf8) in
    let two = front_of_text us rest one.1 in
    let whole : replaced quartz false text ≡ with_front (encode_utf8_all gs) (replaced quartz false (encode_utf8_all us ++ rest)) =
    ap (replaced quartz false) spelled ∙ gap_kept quartz gs (encode_utf8_all us ++ rest) s.is_gap.2 in
    elim (word_reads quartz false us two.0 s.is_word.2) [
      | inl lost ↦
          let none : replaced quartz false w ≡ None = ap (replaced quartz false) (sym s.is_word.1 ∙ sym (append-nil (encode_utf8_all us))) ∙ lost [] follows_nil in
          inl (whole ∙ ap (with_front (encode_utf8_all gs)) (lost rest s.ends), ap (λ o. is_some o && list_all (is_cut quartz) ws) none)
      | inr k ↦
          let alone : replaced quartz false w ≡ Some (encode_utf8_all k.cs) =
          ap (replaced quartz false) (sym s.is_word.1 ∙ sym (append-nil (encode_utf8_all us))) ∙ k.goes_on [] follows_nil ∙ ap Some (append-nil (encode_utf8_all k.cs)) in
          let on : replaced quartz false text ≡ with_front (encode_utf8_all gs) (with_front (encode_utf8_all k.cs) (replaced quartz false rest)) =
          whole ∙ ap (with_front (encode_utf8_all gs)) (k.goes_on rest s.ends) in
          let is_so : is_cut quartz w ≡ true = ap is_some alone in
          elim (text_reads quartz ws rest two.1 h.2) [
            | inl none ↦
                inl (on ∙ ap (λ o. with_front (encode_utf8_all gs) (with_front (encode_utf8_all k.cs) o)) none.0, ap (λ b. b && list_all (is_cut quartz) ws) is_so ∙ none.1)
            | inr c ↦
                let now = encode_utf8_all gs ++ (encode_utf8_all k.cs ++ c.now) in
                let is_written : written quartz w ≡ encode_utf8_all k.cs = ap (λ o. unwrap_or o []) alone in
                inr (record {
                  now = now;
                  utf8 = IsUtf8-append (encode_utf8_all gs) (encode_utf8_all k.cs ++ c.now) (gs, (one.0, refl)) (IsUtf8-append (encode_utf8_all k.cs) c.now (k.cs, (k.scalars, refl)) c.utf8);
                  same = on ∙ ap (λ o. with_front (encode_utf8_all gs) (with_front (encode_utf8_all k.cs) o)) c.same;
                  are_words = (
                    c.now,
                    record {
                      gap = encode_utf8_all gs;
                      spells = ap (λ x. encode_utf8_all gs ++ (x ++ c.now)) (sym is_written);
                      some = subst (λ x. 0 < length x) (sym is_written) (k.some (subst (λ x. 0 < length x) (sym s.is_word.1) s.some));
                      is_gap = (gs, refl, s.is_gap.2);
                      is_word = (k.cs, sym is_written, k.plain);
                      ends = follows_now quartz rest c.now s.ends c.same;
                    },
                    c.are_words,
                  );
                  cut = and_from (is_cut quartz w) (list_all (is_cut quartz) ws) is_so c.cut;
                })
          ]
    ]

-- the words of a text that is replaced
pub replaced_words : (quartz : Bool) (text now : List ℕ) → IsUtf8 text → replaced quartz false text ≡ Some now → (words now ≡ map (written quartz) (words text)) × (list_all (is_cut quartz) (words text) ≡ true)
replaced_words quartz text now utf8 e = elim (text_reads quartz (words text) text utf8 (are_words text utf8)) [
  | inl none ↦ absurd (none-some now (sym none.0 ∙ e))
  | inr cut ↦ (ap words (sym (same_Some cut.now now (sym cut.same ∙ e))) ∙ sym (words_are cut.now (map (written quartz) (words text)) cut.utf8 cut.are_words), cut.cut)
]

-- where a text has no cut one of its words has none
pub lost_word : (quartz : Bool) (text : List ℕ) → IsUtf8 text → replaced quartz false text ≡ None → list_all (is_cut quartz) (words text) ≡ false
lost_word quartz text utf8 e = elim (text_reads quartz (words text) text utf8 (are_words text utf8)) [
  | inl none ↦ none.1
  | inr cut ↦ absurd (none-some cut.now (sym e ∙ cut.same))
]

-- A text in which each name was replaced begins and ends with the white space with which the text before began and ended, and
-- with no other: a number stands for a name, and every other byte for itself.
use Rattle.std.proofs.Common.{◌≡◌, ℕ, zero, suc, ◌+◌, ◌<◌, Bool, true, false, cond, eqb, ltb, leb, ◌&&◌, ◌||◌, List, [], ◌∷◌, ◌++◌, length, get_or, take, take_at, drop, refl, ap, sym, ◌∙◌, subst, arith, inl, inr}
use Rattle.std.proofs.lemmas.Bool.{false≢true, and_parts, and_from, or_parts, or_from, cases_Bool, cases_lt, cond_both, ltb-true, le-leb}
use Rattle.std.proofs.lemmas.Bool.Decides.{nat_tests}
use Rattle.std.proofs.lemmas.List.{append_assoc, append-nil, length-append}
use Rattle.std.proofs.lemmas.Str.{encode_ascii, encodes-append, encodes_same, cons_from_encodes, encodes-chars, scalars-chars, IsUtf8-encode, IsUtf8-take, IsCharBoundary-at_seam}
use Rattle.std.specs.Char.{encode_utf8, is_whitespace}
use Rattle.std.specs.List.{flat_map, list_all}
use Rattle.std.specs.Str.{IsUtf8, chars, encode_utf8_all, all_scalars}
use lib.Utf8.{scalar}
use Rattle.croner_base.specs.Part.{contains_byte}
use Rattle.croner.specs.parser.Cut.{Piece, month, weekday, single, months, weekdays, letters, ArePieces, decimal_of, weekday_number, expansion}
use Rattle.croner.proofs.parser.Names.{AreHigh, high_bytes}
use Rattle.croner.proofs.parser.Trimmed.{IsTrimmed, begins_white, ends_white, from_end, ends_at, scalar_at}

abbrev pub is_digit : ℕ → Bool
is_digit b = leb 48 b && leb b 57

abbrev HasNoDigit : List ℕ → Type 0
HasNoDigit [] = Unit {0}
HasNoDigit (b ∷ bs) = (is_digit b ≡ false) × HasNoDigit bs

-- ---- what stands for a name

pub decimal_digits : (n : ℕ) → n < 20 → list_all is_digit (decimal_of n) ≡ true
decimal_digits n h =
    cond_both (ltb n 10) ((48 + n) ∷ []) (49 ∷ (38 + n) ∷ []) (λ bs. list_all is_digit bs ≡ true)
    (λ small. let l = ltb-true n 10 small in and_from (is_digit (48 + n)) true (and_from (leb 48 (48 + n)) (leb (48 + n) 57) (le-leb 48 (48 + n) (omega arith)) (le-leb (48 + n) 57 (omega (arith, l)))) refl)
    (λ large. and_from (is_digit (38 + n)) true (and_from (leb 48 (38 + n)) (leb (38 + n) 57) (grind (arith, nat_tests, large)) (le-leb (38 + n) 57 (omega (arith, h)))) refl)

pub decimal_some : (n : ℕ) → 0 < length (decimal_of n)
decimal_some n = cond_both (ltb n 10) ((48 + n) ∷ []) (49 ∷ (38 + n) ∷ []) (λ bs. 0 < length bs) (λ _. omega arith) (λ _. omega arith)

pub weekday_small : (quartz after_dash : Bool) (n : ℕ) → n < 7 → weekday_number quartz after_dash n < 20
weekday_small true after_dash n h = omega (arith, h)
weekday_small false after_dash n h = cond_both (after_dash && eqb n 0) 7 n (λ k. k < 20) (λ _. omega arith) (λ _. omega (arith, h))

-- digits in front of a text that has none where it ends
front_digits : (ds e r : List ℕ) (h : ℕ) (hs : List ℕ) → list_all is_digit ds ≡ true → is_digit h ≡ false → ds ++ e ≡ r ++ h ∷ hs → (more : List ℕ) × (r ≡ ds ++ more) × (e ≡ more ++ h ∷ hs)
front_digits [] e r h hs digits other same = (r, refl, same)
front_digits (d ∷ ds) e [] h hs digits other same =
    let first : d ≡ h = ap (λ l. get_or l 0 0) same in
    absurd (false≢true (sym other ∙ ap is_digit (sym first) ∙ (and_parts (is_digit d) (list_all is_digit ds) digits).0))
front_digits (d ∷ ds) e (x ∷ r) h hs digits other same =
    let first : d ≡ x = ap (λ l. get_or l 0 0) same in
    let k = front_digits ds e r h hs (and_parts (is_digit d) (list_all is_digit ds) digits).1 other (ap (drop 1) same) in
    (k.0, ap (λ l. x ∷ l) k.1 ∙ ap (λ y. y ∷ (ds ++ k.0)) (sym first), k.2)

no_front : (ds e : List ℕ) (h : ℕ) (hs : List ℕ) → list_all is_digit ds ≡ true → 0 < length ds → is_digit h ≡ false → ds ++ e ≡ h ∷ hs → ⊥
no_front [] e h hs digits some other same = omega (arith, some)
no_front (d ∷ ds) e h hs digits some other same =
    let first : d ≡ h = ap (λ l. get_or l 0 0) same in
    false≢true (sym other ∙ ap is_digit (sym first) ∙ (and_parts (is_digit d) (list_all is_digit ds) digits).0)

none_of : (hs : List ℕ) → length hs ≡ 0 → hs ≡ []
none_of [] e = refl
none_of (h ∷ hs) e = absurd (omega (arith, e))

-- ---- the front

pub begins_alike : (quartz after_dash : Bool) (ps : List Piece) (hs r : List ℕ) → ArePieces ps → HasNoDigit hs → expansion quartz after_dash ps ≡ hs ++ r → (s : List ℕ) × (flat_map letters ps ≡ hs ++ s)
begins_alike quartz after_dash ps [] r legal other e = (flat_map letters ps, refl)
begins_alike quartz after_dash [] (h ∷ hs) r legal other e = absurd (omega (arith, ap length e))
begins_alike quartz after_dash (month n ∷ ps) (h ∷ hs) r legal other e =
    absurd (no_front (decimal_of (n + 1)) (expansion quartz false ps) h (hs ++ r) (decimal_digits (n + 1) (omega (arith, ltb-true n 12 legal.0))) (decimal_some (n + 1)) other.0 e)
begins_alike quartz after_dash (weekday n ∷ ps) (h ∷ hs) r legal other e =
    let number = weekday_number quartz after_dash n in
    absurd (no_front (decimal_of number) (expansion quartz false ps) h (hs ++ r) (decimal_digits number (weekday_small quartz after_dash n (ltb-true n 7 legal.0))) (decimal_some number) other.0 e)
begins_alike quartz after_dash (single c ∷ ps) (h ∷ hs) r legal other e =
    let first : c ≡ h = ap (λ l. get_or l 0 0) e in
    let k = begins_alike quartz (eqb c 45) ps hs r legal.1 other.1 (ap (drop 1) e) in
    (k.0, ap (λ l. c ∷ l) k.1 ∙ ap (λ y. y ∷ (hs ++ k.0)) first)

-- ---- the end

-- where the text that was replaced ends with bytes that are no digits, so does the text; and where it is these bytes, so is
-- the text
abbrev EndsAlike : List Piece → List ℕ → List ℕ → Type 0
EndsAlike ps r hs = (s : List ℕ) × (flat_map letters ps ≡ s ++ hs) × (length r ≡ 0 → length s ≡ 0)

name_ends : (ds front rest e r h : List ℕ) → list_all is_digit ds ≡ true → 0 < length ds → HasNoDigit h → ds ++ e ≡ r ++ h → ((more : List ℕ) → e ≡ more ++ h → (s : List ℕ) × (rest ≡ s ++ h)) → (s : List ℕ) × (front ++ rest ≡ s ++ h) × (length r ≡ 0 → length s ≡ 0)
name_ends ds front rest e r [] digits some other same again = (
  front ++ rest,
  sym (append-nil (front ++ rest)),
  λ none. absurd (omega (arith, some, none, ap length same, length-append ds e, length-append r [])),
)
name_ends ds front rest e r (h ∷ hs) digits some other same again =
    let k = front_digits ds e r h hs digits other.0 same in
    let l = again k.0 k.2 in (
      front ++ l.0,
      ap (λ xs. front ++ xs) l.1 ∙ sym (append_assoc front l.0 (h ∷ hs)),
      λ none. absurd (omega (arith, some, none, ap length k.1, length-append ds k.0)),
    )

pub ends_alike : (quartz after_dash : Bool) (ps : List Piece) (r hs : List ℕ) → ArePieces ps → HasNoDigit hs → expansion quartz after_dash ps ≡ r ++ hs → EndsAlike ps r hs
ends_alike quartz after_dash [] r hs legal other e =
    let none : hs ≡ [] = none_of hs (omega (arith, ap length e, length-append r hs)) in ([], sym none, λ _. refl)
ends_alike quartz after_dash (month n ∷ ps) r hs legal other e =
    name_ends (decimal_of (n + 1)) (get_or months n []) (flat_map letters ps) (expansion quartz false ps) r hs (decimal_digits (n + 1) (omega (arith, ltb-true n 12 legal.0))) (decimal_some (n + 1)) other e
    (λ more same. let k = ends_alike quartz false ps more hs legal.1 other same in (k.0, k.1))
ends_alike quartz after_dash (weekday n ∷ ps) r hs legal other e =
    let number = weekday_number quartz after_dash n in
    name_ends (decimal_of number) (get_or weekdays n []) (flat_map letters ps) (expansion quartz false ps) r hs (decimal_digits number (weekday_small quartz after_dash n (ltb-true n 7 legal.0))) (decimal_some number) other e
    (λ more same. let k = ends_alike quartz false ps more hs legal.1 other same in (k.0, k.1))
ends_alike quartz after_dash (single c ∷ ps) [] [] legal other e = absurd (omega (arith, ap length e))
ends_alike quartz after_dash (single c ∷ ps) [] (h ∷ hs) legal other e =
    let first : c ≡ h = ap (λ l. get_or l 0 0) e in
    let k = ends_alike quartz (eqb c 45) ps [] hs legal.1 other.1 (ap (drop 1) e) in
    let none : k.0 ≡ [] = none_of k.0 (k.2 refl) in
    ([], ap (λ l. c ∷ l) (k.1 ∙ ap (λ l. l ++ hs) none) ∙ ap (λ y. y ∷ hs) first, λ _. refl)
ends_alike quartz after_dash (single c ∷ ps) (x ∷ r) hs legal other e =
    let k = ends_alike quartz (eqb c 45) ps r hs legal.1 other (ap (drop 1) e) in
    (c ∷ k.0, ap (λ l. c ∷ l) k.1, λ none. absurd (omega (arith, none)))

-- ---- white space

white_no_digit : (w : ℕ) → is_whitespace w ≡ true → is_digit w ≡ false
white_no_digit w h = grind (arith, nat_tests)

high_no_digit : (bs : List ℕ) → AreHigh bs → HasNoDigit bs
high_no_digit [] h = tt
high_no_digit (b ∷ bs) h =
    let first = h 0 (omega arith) in (grind (arith, nat_tests, first), high_no_digit bs (λ k l. h (suc k) (omega (arith, l))))

white_bytes : (w : ℕ) → is_whitespace w ≡ true → HasNoDigit (encode_utf8 w)
white_bytes w h = elim (cases_lt w 128) [
  | inl small ↦ subst HasNoDigit (sym (encode_ascii w small)) (white_no_digit w h, tt)
  | inr high ↦ high_no_digit (encode_utf8 w) (high_bytes w high)
]

-- the text that was replaced does not begin with white space
begins_so : (quartz : Bool) (ps : List Piece) (os : List ℕ) → ArePieces ps → IsTrimmed (flat_map letters ps) → expansion quartz false ps ≡ encode_utf8_all os → begins_white os ≡ false
begins_so quartz ps [] legal t e = refl
begins_so quartz ps (w ∷ os) legal t e = elim (cases_Bool (is_whitespace w)) [
  | inl white ↦
      let k = begins_alike quartz false ps (encode_utf8 w) (encode_utf8_all os) legal (white_bytes w white) e in
      let one = cons_from_encodes t.cs k.0 w (t.spells ∙ k.1) in
      absurd (false≢true (sym t.begins ∙ ap begins_white one.1 ∙ white))
  | inr other ↦ other
]

last_char : (bs front : List ℕ) (w : ℕ) → IsUtf8 bs → scalar w ≡ true → bs ≡ front ++ encode_utf8 w → (cs : List ℕ) × (encode_utf8_all cs ≡ front)
last_char bs front w utf8 s e =
    let seam = IsCharBoundary-at_seam bs front (encode_utf8 w) e (IsUtf8-encode w s) in
    let k = IsUtf8-take bs (length front) utf8 seam in
    (k.0, k.1.1 ∙ ap (take (length front)) e ∙ take_at front (encode_utf8 w) (length front) refl)

-- and does not end with it
ends_so : (quartz : Bool) (ps : List Piece) (os : List ℕ) → ArePieces ps → all_scalars os ≡ true → IsTrimmed (flat_map letters ps) → expansion quartz false ps ≡ encode_utf8_all os → ends_white os ≡ false
ends_so quartz ps os legal scalars t e = elim (from_end os) [
  | inl none ↦ ap ends_white none
  | inr some ↦
      let front = some.0 in
      let w = some.1 in
      let at = ap ends_white some.2 ∙ ends_at front w in
      elim (cases_Bool (is_whitespace w)) [
        | inl white ↦
            let s = scalar_at front w (ap all_scalars (sym some.2) ∙ scalars) in
            let split : expansion quartz false ps ≡ encode_utf8_all front ++ encode_utf8 w =
            e ∙ ap encode_utf8_all some.2 ∙ encodes-append front (w ∷ []) ∙ ap (λ l. encode_utf8_all front ++ l) (append-nil (encode_utf8 w)) in
            let k = ends_alike quartz false ps (encode_utf8_all front) (encode_utf8 w) legal (white_bytes w white) split in
            let l = last_char (flat_map letters ps) k.0 w (t.cs, (t.scalars, t.spells)) s k.1 in
            let same : t.cs ≡ l.0 ++ w ∷ [] = encodes_same t.cs (l.0 ++ w ∷ [])
            (t.spells ∙ k.1 ∙ ap (λ x. x ++ encode_utf8 w) (sym l.1) ∙ ap (λ x. encode_utf8_all l.0 ++ x) (sym (append-nil (encode_utf8 w))) ∙ sym (encodes-append l.0 (w ∷ []))) in
            absurd (false≢true (sym t.ends ∙ ap ends_white same ∙ ends_at l.0 w ∙ white))
        | inr other ↦ at ∙ other
      ]
]

pub expanded_trimmed : (quartz : Bool) (ps : List Piece) (text : List ℕ) → ArePieces ps → IsUtf8 text → IsTrimmed (flat_map letters ps) → expansion quartz false ps ≡ text → (begins_white (chars text) ≡ false) × (ends_white (chars text) ≡ false)
expanded_trimmed quartz ps text legal utf8 t e =
    let spelled : expansion quartz false ps ≡ encode_utf8_all (chars text) = e ∙ sym (encodes-chars text utf8) in
    (begins_so quartz ps (chars text) legal t spelled, ends_so quartz ps (chars text) legal (scalars-chars text utf8) t spelled)

-- ---- the sign @

at_in : (a b : List ℕ) → contains_byte 64 (a ++ b) ≡ (contains_byte 64 a || contains_byte 64 b)
at_in [] b = refl
at_in (x ∷ a) b = elim (cases_Bool (eqb x 64)) [
  | inl is_so ↦ rw is_so refl
  | inr is_not ↦ rw is_not (at_in a b)
]

pub no_at_in : (a b : List ℕ) → contains_byte 64 (a ++ b) ≡ false → (contains_byte 64 a ≡ false) × (contains_byte 64 b ≡ false)
no_at_in a b h = or_parts (contains_byte 64 a) (contains_byte 64 b) (sym (at_in a b) ∙ h)

name_no_at : (xs : List (List ℕ)) (n : ℕ) → list_all (λ x. eqb (cond (contains_byte 64 x) 1 0) 0) xs ≡ true → contains_byte 64 (get_or xs n []) ≡ false
name_no_at [] n h = refl
name_no_at (x ∷ xs) zero h = elim (cases_Bool (contains_byte 64 x)) [
  | inl is_so ↦ absurd (false≢true (sym (ap (λ b. eqb (cond b 1 0) 0) is_so) ∙ (and_parts (eqb (cond (contains_byte 64 x) 1 0) 0) _ h).0))
  | inr is_not ↦ is_not
]
name_no_at (x ∷ xs) (suc n) h = name_no_at xs n (and_parts (eqb (cond (contains_byte 64 x) 1 0) 0) _ h).1

-- an @ stays, so where none is left there was none
pub no_at_before : (quartz after_dash : Bool) (ps : List Piece) → contains_byte 64 (expansion quartz after_dash ps) ≡ false → contains_byte 64 (flat_map letters ps) ≡ false
no_at_before quartz after_dash [] h = refl
no_at_before quartz after_dash (month n ∷ ps) h =
    let rest = no_at_before quartz false ps (no_at_in (decimal_of (n + 1)) (expansion quartz false ps) h).1 in
    at_in (get_or months n []) (flat_map letters ps) ∙ or_from (contains_byte 64 (get_or months n [])) (contains_byte 64 (flat_map letters ps)) (name_no_at months n refl) rest
no_at_before quartz after_dash (weekday n ∷ ps) h =
    let rest = no_at_before quartz false ps (no_at_in (decimal_of (weekday_number quartz after_dash n)) (expansion quartz false ps) h).1 in
    at_in (get_or weekdays n []) (flat_map letters ps) ∙ or_from (contains_byte 64 (get_or weekdays n [])) (contains_byte 64 (flat_map letters ps)) (name_no_at weekdays n refl) rest
no_at_before quartz after_dash (single c ∷ ps) h =
    let parts = or_parts (eqb c 64) (contains_byte 64 (expansion quartz (eqb c 45) ps)) h in
    or_from (eqb c 64) (contains_byte 64 (flat_map letters ps)) parts.0 (no_at_before quartz (eqb c 45) ps parts.1)

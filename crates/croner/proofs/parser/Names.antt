-- The names and characters at the front of a text, and what stands for them.
use Rattle.std.proofs.Common.{◌≡◌, ℕ, suc, zero, ◌+◌, ◌<◌, ◌≤◌, Bool, true, false, cond, eqb, ltb, leb, ◌&&◌, List, [], ◌∷◌, ◌++◌, length, take, drop, get_or, Option, Some, None, option_map, refl, ap, sym, ◌∙◌, subst, arith, inl, inr}
use Rattle.std.proofs.lemmas.Bool.{false≢true, ne_eqb, and_parts, eqb-true, cases_lt, ltb-true, leb-true}
use Rattle.std.proofs.lemmas.Bool.Decides.{nat_tests}
use Rattle.std.proofs.lemmas.List.{append_assoc, append-nil, length-append, length-take, length-drop, get_or-take}
use Rattle.std.proofs.lemmas.Option.{none-some}
use Rattle.std.proofs.lemmas.Str.{encode_ascii, length-encode, len_utf8_bounds, inside_one, IsCharBoundary-after_ascii, IsUtf8-drop, IsUtf8-past_char}
use Rattle.std.specs.Char.{encode_utf8}
use Rattle.std.specs.List.{list_all}
use Rattle.std.specs.Str.{IsUtf8, IsCharBoundary}
use Rattle.croner.specs.parser.Cut.{Piece, month, weekday, single, months, weekdays, is_lost, place_of, name_of, cut_of, onto, alone, named, decimal_of, weekday_number, shown, is_dash, expansion, replaced}
use Rattle.croner.specs.Private.parser.Steps.{with_front, has_dash, HasNoName, IsShown, Advances}
use Rattle.croner.proofs.parser.Cuts.{place_of-at, names_of}

-- ---- what is shown for a name

pub month_shown : (quartz after_dash : Bool) (name : List ℕ) (n : ℕ) → place_of name 0 months ≡ Some n → n < 12 → IsShown quartz after_dash name (n + 1)
month_shown quartz after_dash name n e small = (month n, rw e refl, refl, refl, omega arith)

pub weekday_shown : (quartz after_dash : Bool) (name : List ℕ) (n number : ℕ) → place_of name 0 months ≡ None → place_of name 0 weekdays ≡ Some n → number ≡ weekday_number quartz after_dash n → number < 8 → IsShown quartz after_dash name number
weekday_shown quartz after_dash name n number none e same small =
    (weekday n, rw (none, e) refl, ap decimal_of (sym same), refl, omega arith)

-- ---- a name at the front

pub cut_named : (t : List ℕ) (p : Piece) → 3 ≤ length t → name_of (take 3 t) ≡ Some p → cut_of t ≡ onto p (cut_of (drop 3 t))
cut_named [] p h e = absurd (omega (arith, h))
cut_named (a ∷ []) p h e = absurd (omega (arith, h))
cut_named (a ∷ b ∷ []) p h e = absurd (omega (arith, h))
cut_named (a ∷ b ∷ c ∷ rest) p h e = ap (λ o. named o (alone a (cut_of (b ∷ c ∷ rest))) (cut_of rest)) e

pub shown_onto : (quartz after_dash : Bool) (p : Piece) (o : Option (List Piece)) → option_map (expansion quartz after_dash) (onto p o) ≡ with_front (shown quartz after_dash p) (option_map (expansion quartz (is_dash p)) o)
shown_onto quartz after_dash p None = refl
shown_onto quartz after_dash p (Some ps) = refl

pub with_front-append : (a b : List ℕ) (o : Option (List ℕ)) → with_front a (with_front b o) ≡ with_front (a ++ b) o
with_front-append a b None = refl
with_front-append a b (Some t) = ap Some (sym (append_assoc a b t))

pub with_front-nil : (o : Option (List ℕ)) → with_front [] o ≡ o
with_front-nil None = refl
with_front-nil (Some t) = refl

-- every name has three letters, and they are ASCII
abbrev is_good : List ℕ → Bool
is_good name = eqb (length name) 3 && (ltb (get_or name 0 0) 128 && (leb 65 (get_or name 0 0) && ltb (get_or name 2 0) 128))

good_at : (xs : List (List ℕ)) (j : ℕ) → list_all is_good xs ≡ true → j < length xs → is_good (get_or xs j []) ≡ true
good_at [] j h l = absurd (omega (arith, l))
good_at (x ∷ xs) zero h l = (and_parts (is_good x) (list_all is_good xs) h).0
good_at (x ∷ xs) (suc j) h l = good_at xs j (and_parts (is_good x) (list_all is_good xs) h).1 (omega (arith, l))

good_name : (name : List ℕ) (k : ℕ) (xs : List (List ℕ)) → list_all is_good xs ≡ true → place_of name 0 xs ≡ Some k → is_good name ≡ true
good_name name k xs h e =
    let r = place_of-at name 0 xs k e in ap is_good (sym r.3) ∙ good_at xs r.0 h r.2

good_first : (name : List ℕ) (p : Piece) (m w : Option ℕ) → place_of name 0 months ≡ m → place_of name 0 weekdays ≡ w → name_of name ≡ Some p → is_good name ≡ true
good_first name p (Some k) w e f g = good_name name k months refl e
good_first name p None (Some k) e f g = good_name name k weekdays refl f
good_first name p None None e f g = let none : name_of name ≡ None = rw (e, f) refl in absurd (none-some p (sym none ∙ g))

pub good_names : (name : List ℕ) (p : Piece) → name_of name ≡ Some p → is_good name ≡ true
good_names name p e = good_first name p (place_of name 0 months) (place_of name 0 weekdays) refl refl e

-- no name begins with a byte in front of the letters
no_low_name : (name : List ℕ) → leb 65 (get_or name 0 0) ≡ false → name_of name ≡ None
no_low_name name h = elim (names_of name) [
  | inl none ↦ none
  | inr some ↦
      let parts = and_parts (eqb (length name) 3) _ (good_names name some.0 some.1) in
      let letter = (and_parts (leb 65 (get_or name 0 0)) _ (and_parts (ltb (get_or name 0 0) 128) _ parts.1).1).0 in
      absurd (false≢true (sym h ∙ letter))
]

pub no_low_text : (text : List ℕ) → leb 65 (get_or text 0 0) ≡ false → HasNoName text
no_low_text [] h = no_low_name [] h
no_low_text (c ∷ t) h = no_low_name (take 3 (c ∷ t)) h

-- a text has a name at its front only where it may be cut after it
pub no_name_between : (text : List ℕ) → IsUtf8 text → (IsCharBoundary text 3 → ⊥) → HasNoName text
no_name_between text utf8 h = elim (names_of (take 3 text)) [
  | inl none ↦ none
  | inr some ↦
      let good = good_names (take 3 text) some.0 some.1 in
      let parts = and_parts (eqb (length (take 3 text)) 3) _ good in
      let three : length (take 3 text) ≡ 3 = eqb-true _ 3 parts.0 in
      let long : 3 ≤ length text = grind (arith, length-take) in
      let ascii = ltb-true _ _ (and_parts (leb 65 (get_or (take 3 text) 0 0)) _ (and_parts (ltb (get_or (take 3 text) 0 0) 128) _ parts.1).1).1 in
      let third : get_or text 2 0 < 128 = grind (arith, get_or-take) in
      absurd (h (IsCharBoundary-after_ascii text 2 utf8 (omega (arith, long)) third))
]

-- what stands for a name goes after what was written
pub advance_name : (quartz after_dash : Bool) (text rest written now : List ℕ) (number : ℕ) → IsUtf8 text → IsCharBoundary text 3 → rest ≡ drop 3 text → IsShown quartz after_dash (take 3 text) number → now ≡ written ++ decimal_of number → Advances quartz after_dash text written now rest
advance_name quartz after_dash text rest written now number utf8 boundary is_rest s e =
    let long : 3 ≤ length text = boundary.0 in
    let p = s.0 in
    let o = replaced quartz (is_dash p) (drop 3 text) in
    let whole : replaced quartz after_dash text ≡ with_front (decimal_of number) (replaced quartz false (drop 3 text)) =
    ap (option_map (expansion quartz after_dash)) (cut_named text p long s.1) ∙ shown_onto quartz after_dash p (cut_of (drop 3 text))
    ∙ ap (λ d. with_front d o) s.2 ∙ ap (λ b. with_front (decimal_of number) (replaced quartz b (drop 3 text))) s.3 in
    let parts = and_parts (eqb (length (take 3 text)) 3) _ (good_names (take 3 text) p s.1) in
    let letter = leb-true 65 _ (and_parts (leb 65 (get_or (take 3 text) 0 0)) _ (and_parts (ltb (get_or (take 3 text) 0 0) 128) _ parts.1).1).0 in
    let no_dash : has_dash text ≡ false = ne_eqb (get_or text 0 0) 45 (λ x. omega (arith, letter, get_or-take 3 text 0 0 (omega arith), x)) in
    record {
      shorter = omega (arith, ap length is_rest, length-drop 3 text);
      is_text = rw is_rest (IsUtf8-drop text 3 utf8 boundary);
      same =
          ap (with_front written) whole ∙ with_front-append written (decimal_of number) (replaced quartz false (drop 3 text)) ∙ rw (e, is_rest, no_dash) refl;
    }

-- ---- a character at the front

cut_unnamed : (c : ℕ) (t : List ℕ) → HasNoName (c ∷ t) → cut_of (c ∷ t) ≡ alone c (cut_of t)
cut_unnamed c [] h = refl
cut_unnamed c (b ∷ []) h = refl
cut_unnamed c (b ∷ d ∷ rest) h = ap (λ p. named p (alone c (cut_of (b ∷ d ∷ rest))) (cut_of rest)) h

pub replaced_lost : (quartz after_dash : Bool) (c : ℕ) (t : List ℕ) → HasNoName (c ∷ t) → is_lost c ≡ true → replaced quartz after_dash (c ∷ t) ≡ None
replaced_lost quartz after_dash c t h lost =
    ap (option_map (expansion quartz after_dash)) (cut_unnamed c t h ∙ ap (λ b. cond b None (onto (single c) (cut_of t))) lost)

pub replaced_single : (quartz after_dash : Bool) (c : ℕ) (t : List ℕ) → HasNoName (c ∷ t) → is_lost c ≡ false → replaced quartz after_dash (c ∷ t) ≡ with_front (c ∷ []) (replaced quartz (eqb c 45) t)
replaced_single quartz after_dash c t h kept =
    ap (option_map (expansion quartz after_dash)) (cut_unnamed c t h ∙ ap (λ b. cond b None (onto (single c) (cut_of t))) kept)
    ∙ shown_onto quartz after_dash (single c) (cut_of t)

-- no name begins with a byte past ASCII
high_no_name : (c : ℕ) (t : List ℕ) → 128 ≤ c → HasNoName (c ∷ t)
high_no_name c t h = elim (names_of (take 3 (c ∷ t))) [
  | inl none ↦ none
  | inr some ↦
      let good = good_names (take 3 (c ∷ t)) some.0 some.1 in
      let parts = and_parts (eqb (length (take 3 (c ∷ t))) 3) _ good in
      let low : c < 128 = ltb-true c 128 (and_parts (ltb c 128) _ parts.1).0 in
      absurd (omega (arith, low, h))
]

high_kept : (c : ℕ) → 128 ≤ c → (is_lost c ≡ false) × (eqb c 45 ≡ false)
high_kept c h = (grind (arith, nat_tests), grind (arith, nat_tests))

abbrev pub AreHigh : List ℕ → Type 0
AreHigh bs = (k : ℕ) → k < length bs → 128 ≤ get_or bs k 0

pub replaced_high : (quartz after_dash : Bool) (b : ℕ) (bs t : List ℕ) → AreHigh (b ∷ bs) → replaced quartz after_dash ((b ∷ bs) ++ t) ≡ with_front (b ∷ bs) (replaced quartz false t)
replaced_high quartz after_dash b [] t h =
    let high = h 0 (omega arith) in
    let k = high_kept b high in
    replaced_single quartz after_dash b t (high_no_name b t high) k.0 ∙ ap (λ d. with_front (b ∷ []) (replaced quartz d t)) k.1
replaced_high quartz after_dash b (d ∷ bs) t h =
    let high = h 0 (omega arith) in
    let k = high_kept b high in
    replaced_single quartz after_dash b ((d ∷ bs) ++ t) (high_no_name b ((d ∷ bs) ++ t) high) k.0
    ∙ ap (λ x. with_front (b ∷ []) (replaced quartz x ((d ∷ bs) ++ t))) k.1
    ∙ ap (with_front (b ∷ [])) (replaced_high quartz false d bs t (λ k l. h (suc k) (omega (arith, l))))
    ∙ with_front-append (b ∷ []) (d ∷ bs) (replaced quartz false t)

-- ---- any character

advance_ascii : (quartz after_dash : Bool) (c : ℕ) (rest written : List ℕ) → IsUtf8 rest → HasNoName (c ∷ rest) → is_lost c ≡ false → Advances quartz after_dash (c ∷ rest) written (written ++ c ∷ []) rest
advance_ascii quartz after_dash c rest written utf8 h kept = record {
  shorter = omega arith;
  is_text = utf8;
  same = ap (with_front written) (replaced_single quartz after_dash c rest h kept) ∙ with_front-append written (c ∷ []) (replaced quartz (eqb c 45) rest);
}

advance_high : (quartz after_dash : Bool) (bs rest written : List ℕ) → IsUtf8 rest → 0 < length bs → AreHigh bs → Advances quartz after_dash (bs ++ rest) written (written ++ bs) rest
advance_high quartz after_dash [] rest written utf8 some h = absurd (omega (arith, some))
advance_high quartz after_dash (b ∷ bs) rest written utf8 some h =
    let k = high_kept b (h 0 (omega arith)) in
    record {
      shorter = omega (arith, length-append bs rest);
      is_text = utf8;
      same =
          ap (with_front written) (replaced_high quartz after_dash b bs rest h) ∙ with_front-append written (b ∷ bs) (replaced quartz false rest)
          ∙ ap (λ d. with_front (written ++ b ∷ bs) (replaced quartz d rest)) (sym k.1);
    }

pub high_bytes : (c : ℕ) → 128 ≤ c → AreHigh (encode_utf8 c)
high_bytes c h = λ k l. elim (cases_lt (get_or (encode_utf8 c) k 0) 128) [
  | inl low ↦ absurd (omega (arith, inside_one c [] (encode_utf8 c) k (sym (append-nil (encode_utf8 c))) l low, low, h))
  | inr high ↦ high
]

-- the character goes after what was written
pub advance_char : (quartz after_dash : Bool) (text rest written now : List ℕ) (c : ℕ) → IsUtf8 text → HasNoName text → is_lost c ≡ false → text ≡ encode_utf8 c ++ rest → now ≡ written ++ encode_utf8 c → Advances quartz after_dash text written now rest
advance_char quartz after_dash text rest written now c utf8 h kept e f =
    let is_rest : IsUtf8 rest = IsUtf8-past_char text rest c utf8 e in
    elim (cases_lt c 128) [
      | inl small ↦
          let one = encode_ascii c small in
          let is_text : text ≡ c ∷ rest = e ∙ ap (λ x. x ++ rest) one in
          let is_now : now ≡ written ++ c ∷ [] = f ∙ ap (λ x. written ++ x) one in
          rw (is_text, is_now) (advance_ascii quartz after_dash c rest written is_rest (subst HasNoName is_text h) kept)
      | inr high ↦
          let some : 0 < length (encode_utf8 c) = omega (arith, length-encode c, (len_utf8_bounds c).0) in
          rw (e, f) (advance_high quartz after_dash (encode_utf8 c) rest written is_rest some (high_bytes c high))
    ]

-- a letter that stands for nothing ends it
pub lost_char : (quartz after_dash : Bool) (text rest : List ℕ) (c : ℕ) → HasNoName text → is_lost c ≡ true → text ≡ encode_utf8 c ++ rest → replaced quartz after_dash text ≡ None
lost_char quartz after_dash text rest c h lost e =
    let parts = and_parts (leb 65 c && leb c 90) _ lost in
    let small : c < 128 = omega (arith, leb-true c 90 (and_parts (leb 65 c) _ parts.0).1) in
    let is_text : text ≡ c ∷ rest = e ∙ ap (λ x. x ++ rest) (encode_ascii c small) in
    ap (replaced quartz after_dash) is_text ∙ replaced_lost quartz after_dash c rest (subst HasNoName is_text h) lost

-- Numbers and the sides of a text.
use Rattle.std.proofs.Common.{◌≡◌, ℕ, ◌<◌, ◌≤◌, Bool, true, false, cond, ◌&&◌, eqb, ltb, List, [], ◌∷◌, length, Some, None, Result, Ok, Err, refl, ap, sym, ◌∙◌, arith, get_or, eq-eqb, inl, inr}
use Rattle.std.proofs.lemmas.Bool.{false≢true, eqb-true, cases_lt}
use Rattle.std.specs.Bool.{Decides, MatchBool}
use Rattle.std.specs.Result.{OkIff, result_ok}
use Rattle.std.specs.Str.{all_ascii_digits}
use Rattle.std.specs.Str.Parse.{IsNumeral, digits_value, without_leading_plus, ParsesUnsigned}
use Rattle.std.proofs.lemmas.Bool.Decides.{Decides-and, Decides-ltb, same_from_decides}
use Rattle.std.proofs.lemmas.Str.Parse.{numerals_by_value, tells_all_ascii_digits}
use Rattle.std.specs.List.{list_any, before_first, after_first, position_or_len}
use Rattle.std.specs.Str.Pattern.{FindsChar}
use Rattle.std.proofs.lemmas.List.{get_or_default}
use Rattle.std.proofs.lemmas.List.Folds.{list_any_at, Any-from_list_any}
use Rattle.std.proofs.lemmas.List.Sums.{fails_before_first, passes_at_first}
use Rattle.std.proofs.lemmas.List.Splits.{slice_split_none, slice_split_first}
use Rattle.std.proofs.lemmas.Str.Pattern.{contains_char}
use Rattle.croner_base.specs.Part.{number_of, contains_byte, two_of, pieces_at}

abbrev all_digits : List ℕ → Type 0
all_digits ds = all_ascii_digits ds ≡ true

abbrev is_number : List ℕ → Bool
is_number ds = (ltb 0 (length ds) && all_ascii_digits ds) && ltb (digits_value 10 ds) 65536

number_decides : (ds : List ℕ) → Decides (is_number ds) (IsNumeral 10 ds × (digits_value 10 ds < 65536))
number_decides ds =
    let own = numerals_by_value all_digits tells_all_ascii_digits in
    Decides-and _ _ (Decides-and _ _ (Decides-ltb 0 (length ds)) (own.to ds, own.from ds)) (Decides-ltb (digits_value 10 ds) 65536)

when_number : (b : Bool) (v : ℕ) {P : Type 0} → Decides b P → (E : Type 0) (r : Result ℕ E) → OkIff r P v → result_ok r ≡ cond b (Some v) None
when_number true v d E (Ok x) h = ap Some h.1
when_number true v d E (Err e) h = absurd (h (d.0 refl))
when_number false v d E (Ok x) h = absurd (false≢true (d.1 h.0))
when_number false v d E (Err e) h = refl

-- what `parse` reads at 16 bits is the number
pub number_from_parse : {E : Type 0} (text : List ℕ) (r : Result ℕ E) → ParsesUnsigned 16 10 text r → result_ok r ≡ number_of text
number_from_parse {E} text r h = when_number (is_number (without_leading_plus text)) (digits_value 10 (without_leading_plus text)) (number_decides (without_leading_plus text)) E r h

-- `contains` at an ASCII character is the test
pub contains_is : (c : ℕ) (bs : List ℕ) (r : Bool) → MatchBool r ((i : ℕ) × (j : ℕ) × FindsChar c bs (Some (i, j)) × (i ≤ j) × (j ≤ length bs)) (FindsChar c bs None) → c < 128 → r ≡ contains_byte c bs
contains_is c bs r m small =
    let h = contains_char c bs r m small in
    let p : ℕ → Bool = λ b. eqb b c in
    same_from_decides {P = list_any p bs ≡ true} r (list_any p bs) (
      λ t. let x = h.0 t in list_any_at p bs x.0 0 x.1 (eq-eqb (get_or bs x.0 0) c x.2),
      λ t. let a = Any-from_list_any p bs t in h.1 a.0 a.2 (get_or_default bs a.0 0 a.1 a.2 ∙ a.3 ∙ eqb-true a.1 c a.4),
    )
    (λ t. t, λ t. t)

-- a text without the byte is one piece
pub pieces_lone : (c : ℕ) (bs : List ℕ) → length bs ≤ position_or_len (λ b. eqb b c) bs → pieces_at c bs ≡ bs ∷ []
pieces_lone c bs h =
    slice_split_none (λ b. eqb b c) bs (λ k d l. fails_before_first (λ b. eqb b c) bs k d (omega arith))

-- else its first piece ends there
pub pieces_first : (c : ℕ) (bs : List ℕ) → position_or_len (λ b. eqb b c) bs < length bs → pieces_at c bs ≡ before_first (λ b. eqb b c) bs ∷ pieces_at c (after_first (λ b. eqb b c) bs)
pieces_first c bs h = slice_split_first (λ b. eqb b c) bs 0 h

-- there is a first piece
pub pieces_some : (c : ℕ) (bs : List ℕ) → (first : List ℕ) × (more : List (List ℕ)) × (pieces_at c bs ≡ first ∷ more)
pieces_some c bs = elim (cases_lt (position_or_len (λ b. eqb b c) bs) (length bs)) [
  | inl h ↦ (before_first (λ b. eqb b c) bs, pieces_at c (after_first (λ b. eqb b c) bs), pieces_first c bs h)
  | inr h ↦ (bs, [], pieces_lone c bs h)
]

-- the byte stands in the text just where there is a first place
pub position_of_contains : (c : ℕ) (bs : List ℕ) → contains_byte c bs ≡ true → position_or_len (λ b. eqb b c) bs < length bs
position_of_contains c bs t =
    let p : ℕ → Bool = λ b. eqb b c in
    let a = Any-from_list_any p bs t in
    elim (cases_lt (position_or_len p bs) (length bs)) [
      | inl h ↦ h
      | inr h ↦ absurd (false≢true (sym (fails_before_first p bs a.0 a.1 (omega (arith, a.2))) ∙ ap p a.3 ∙ a.4))
    ]

pub position_of_none : (c : ℕ) (bs : List ℕ) → contains_byte c bs ≡ false → length bs ≤ position_or_len (λ b. eqb b c) bs
position_of_none c bs f =
    let p : ℕ → Bool = λ b. eqb b c in
    elim (cases_lt (position_or_len p bs) (length bs)) [
      | inl h ↦ absurd (false≢true (sym f ∙ list_any_at p bs (position_or_len p bs) 0 h (passes_at_first p bs 0 h)))
      | inr h ↦ h
    ]

-- the two sides of a text
pub two_none : (c : ℕ) (bs : List ℕ) → length bs ≤ position_or_len (λ b. eqb b c) bs → two_of (pieces_at c bs) ≡ None
two_none c bs h = ap two_of (pieces_lone c bs h)

pub two_pair : (c : ℕ) (bs : List ℕ) → position_or_len (λ b. eqb b c) bs < length bs → contains_byte c (after_first (λ b. eqb b c) bs) ≡ false → two_of (pieces_at c bs) ≡ Some (before_first (λ b. eqb b c) bs, after_first (λ b. eqb b c) bs)
two_pair c bs h f = ap two_of (pieces_first c bs h ∙ ap (λ x. before_first (λ b. eqb b c) bs ∷ x) (pieces_lone c _ (position_of_none c _ f)))

pub two_more : (c : ℕ) (bs : List ℕ) → position_or_len (λ b. eqb b c) bs < length bs → contains_byte c (after_first (λ b. eqb b c) bs) ≡ true → two_of (pieces_at c bs) ≡ None
two_more c bs h t =
    let rest : List ℕ = after_first (λ b. eqb b c) bs in
    let more = pieces_some c (after_first (λ b. eqb b c) rest) in
    ap two_of (pieces_first c bs h ∙ ap (λ x. before_first (λ b. eqb b c) bs ∷ x) (pieces_first c rest (position_of_contains c rest t) ∙ ap (λ x. before_first (λ b. eqb b c) rest ∷ x) more.2))

pub two_none_of : (c : ℕ) (bs : List ℕ) → contains_byte c bs ≡ false → two_of (pieces_at c bs) ≡ None
two_none_of c bs f = two_none c bs (position_of_none c bs f)

pub two_pair_of : (c : ℕ) (bs : List ℕ) → contains_byte c bs ≡ true → contains_byte c (after_first (λ b. eqb b c) bs) ≡ false → two_of (pieces_at c bs) ≡ Some (before_first (λ b. eqb b c) bs, after_first (λ b. eqb b c) bs)
two_pair_of c bs t f = two_pair c bs (position_of_contains c bs t) f

pub two_more_of : (c : ℕ) (bs : List ℕ) → contains_byte c bs ≡ true → contains_byte c (after_first (λ b. eqb b c) bs) ≡ true → two_of (pieces_at c bs) ≡ None
two_more_of c bs t u = two_more c bs (position_of_contains c bs t) u

pub ruleset two_sides = (two_none_of, two_pair_of, two_more_of)

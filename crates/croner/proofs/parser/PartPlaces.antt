-- A part of a list in its place: found from the front, comma by comma.
use Rattle.std.proofs.Common.{◌≡◌, ℕ, suc, ◌+◌, ◌-◌, ◌<◌, ◌≤◌, true, false, not, cond, eqb, List, [], ◌∷◌, ◌++◌, length, length-take, get_or, get_or-take, Option, Some, None, IsSomeAnd, refl, ap, sym, ◌∙◌, subst, arith, inl, inr}
use Rattle.std.proofs.lemmas.Bool.{and_from, cases_Bool, cond-false, cond-true, eqb-true, false≢true, or_from, or_parts}
use Rattle.std.proofs.lemmas.List.{append_assoc, append-nil, length-append}
use Rattle.std.proofs.lemmas.List.Splits.{length-slice_split, slice_split-cons_yes}
use Rattle.std.proofs.lemmas.List.Sums.{fails_before_first, passes_at_first, split_at_first, sum_by-append}
use Rattle.std.proofs.lemmas.Str.{IsUtf8-nil}
use Rattle.std.specs.List.{after_first, before_first, count_by, list_all, position_or_len}
use Rattle.std.specs.Str.{IsUtf8}
use Rattle.croner_base.specs.Part.{contains_byte, pieces_at}
use Rattle.croner.specs.declared.parser.fault.PatternField.{PatternField}
use Rattle.croner.specs.declared.parser.fault.PatternField.TheVariants as fields
use Rattle.croner.specs.declared.parser.pieces.Piece.{Piece}
use Rattle.croner.specs.parser.Grammar.{without_plus, without_sign}
use Rattle.croner.specs.Private.parser.Places.{IsPartIn, IsPartOf, has_part}
use Rattle.croner.proofs.parser.FoundPlaces.{no_commas}
use Rattle.croner.proofs.parser.ListParts.{is_no_comma, part_off}

-- ---- texts without a comma

free_text : (text : List ℕ) → ((k : ℕ) → k < length text → eqb (get_or text k 0) 44 ≡ false) → contains_byte 44 text ≡ false
free_text [] h = refl
free_text (c ∷ cs) h = or_from (eqb c 44) (contains_byte 44 cs) (h 0 (omega arith)) (free_text cs (λ k l. h (suc k) (omega (arith, l))))

free_all : (text : List ℕ) → contains_byte 44 text ≡ false → list_all is_no_comma text ≡ true
free_all [] h = refl
free_all (c ∷ cs) h =
    let parts = or_parts (eqb c 44) (contains_byte 44 cs) h in
    and_from (is_no_comma c) (list_all is_no_comma cs) (ap not parts.0) (free_all cs parts.1)

abbrev comma_at : List ℕ → ℕ
comma_at text = position_or_len (λ b. eqb b 44) text

whole_free : (text : List ℕ) → comma_at text ≡ length text → contains_byte 44 text ≡ false
whole_free text e = free_text text (λ k l. fails_before_first (λ b. eqb b 44) text k 0 (omega (arith, l, e)))

-- a text is what stands in front of its first comma, the comma, and what stands after it
record IsCutAt (text front after : List ℕ) : Type 0 where
  spells : text ≡ front ++ 44 ∷ after
  free : contains_byte 44 front ≡ false

cut_at : (text : List ℕ) → comma_at text < length text → IsCutAt text (before_first (λ b. eqb b 44) text) (after_first (λ b. eqb b 44) text)
cut_at text l =
    let at = comma_at text in
    record {
      spells = split_at_first (λ b. eqb b 44) text 0 l ∙ ap (λ c. before_first (λ b. eqb b 44) text ++ c ∷ after_first (λ b. eqb b 44) text) (eqb-true (get_or text at 0) 44 (passes_at_first (λ b. eqb b 44) text 0 l));
      free = free_text (before_first (λ b. eqb b 44) text) (λ k m.
          let inside : k < at = omega (arith, m, length-take at text) in
          ap (λ c. eqb c 44) (get_or-take at text k 0 inside) ∙ fails_before_first (λ b. eqb b 44) text k 0 inside);
    }

-- ---- the parts

some_there : (text : List ℕ) (k : ℕ) → has_part k text ≡ true → 0 < length text
some_there [] k h = absurd (false≢true h)
some_there (c ∷ cs) k h = omega arith

pub only_part : (text : List ℕ) → IsUtf8 text → comma_at text ≡ length text → has_part 0 text ≡ true → IsPartOf text 0 0 text
only_part text utf8 e h = record {
  is_piece = record {
    front = [];
    back = [];
    spells = sym (append-nil text);
    its_start = refl;
    its_end = refl;
    some = some_there text 0 h;
    piece_utf8 = utf8;
    back_utf8 = IsUtf8-nil;
  };
  one = whole_free text e;
  its_part = refl;
}

pub no_other_part : (text : List ℕ) (k : ℕ) → comma_at text ≡ length text → (k ≡ 0 → ⊥) → has_part k text ≡ true → ⊥
no_other_part text k e other h =
    elim (part_off text [] k (free_all text (whole_free text e)) (ap (has_part k) (append-nil text) ∙ h)) [
      | inl first ↦ other first
      | inr none ↦ false≢true none
    ]

comma_utf8 : (after : List ℕ) → IsUtf8 after → IsUtf8 (44 ∷ after)
unfolding lib.Utf8.encode
comma_utf8 after utf8 = (44 ∷ utf8.0, (utf8.1.0, ap (λ x. 44 ∷ x) utf8.1.1))

no_first : (front after : List ℕ) → has_part 0 (front ++ 44 ∷ after) ≡ true → 0 < length front
no_first [] after h = absurd (false≢true h)
no_first (c ∷ cs) after h = omega arith

pub first_part : (text front after : List ℕ) → IsUtf8 front → IsUtf8 after → comma_at text < length text → front ≡ before_first (λ b. eqb b 44) text → after ≡ after_first (λ b. eqb b 44) text → has_part 0 text ≡ true → IsPartOf text 0 0 front
first_part text front after u v l e f h =
    let cut : IsCutAt text front after = rw (e, f) (cut_at text l) in
    record {
      is_piece = record {
        front = [];
        back = 44 ∷ after;
        spells = cut.spells;
        its_start = refl;
        its_end = refl;
        some = no_first front after (ap (has_part 0) (sym cut.spells) ∙ h);
        piece_utf8 = u;
        back_utf8 = comma_utf8 after v;
      };
      one = cut.free;
      its_part = refl;
    }

after_comma : (front after : List ℕ) (k : ℕ) → contains_byte 44 front ≡ false → has_part (suc k) (front ++ 44 ∷ after) ≡ true → has_part k after ≡ true
after_comma front after k free h = elim (part_off front (44 ∷ after) (suc k) (free_all front free) h) [
  | inl first ↦ absurd (omega (arith, first))
  | inr there ↦ there
]

pub part_after_comma : (text front after : List ℕ) (k n : ℕ) → comma_at text < length text → front ≡ before_first (λ b. eqb b 44) text → after ≡ after_first (λ b. eqb b 44) text → k ≡ suc n → has_part k text ≡ true → has_part n after ≡ true
part_after_comma text front after k n l e f same h =
    let cut : IsCutAt text front after = rw (e, f) (cut_at text l) in
    after_comma front after n cut.free (ap (has_part (suc n)) (sym cut.spells) ∙ ap (λ m. has_part m text) (sym same) ∙ h)

commas_on : (front rest : List ℕ) → contains_byte 44 front ≡ false → length (pieces_at 44 (front ++ rest)) ≡ length (pieces_at 44 rest)
commas_on front rest h =
    length-slice_split (λ b. eqb b 44) (front ++ rest) ∙ ap (λ n. n + 1) (sum_by-append (λ b. cond (eqb b 44) 1 0) front rest ∙ ap (λ n. n + count_by (λ b. eqb b 44) rest) (no_commas front h) ∙ omega arith)
    ∙ sym (length-slice_split (λ b. eqb b 44) rest)

one_more : (front : List ℕ) → length (pieces_at 44 (44 ∷ front)) ≡ length (pieces_at 44 front) + 1
one_more front = ap length (slice_split-cons_yes (λ b. eqb b 44) 44 front refl) ∙ omega arith

-- a part of what stands after the first comma is one of the text
next_part : (text front after piece : List ℕ) (k n a : ℕ) → IsCutAt text front after → k ≡ suc n → IsPartOf after n a piece → IsPartOf text k (length front + 1 + a) piece
next_part text front after piece k n a cut same p =
    let q = p.is_piece in
    record {
      is_piece = record {
        front = front ++ 44 ∷ q.front;
        back = q.back;
        spells = cut.spells ∙ ap (λ x. front ++ 44 ∷ x) q.spells ∙ sym (append_assoc front (44 ∷ q.front) (piece ++ q.back));
        its_start = omega (arith, length-append front (44 ∷ q.front), q.its_start);
        its_end = refl;
        some = q.some;
        piece_utf8 = q.piece_utf8;
        back_utf8 = q.back_utf8;
      };
      one = p.one;
      its_part = omega (arith, commas_on front (44 ∷ q.front) cut.free, one_more q.front, p.its_part, same);
    }

part_found : (o : Option Piece) (text front after : List ℕ) (k n at on : ℕ) → IsCutAt text front after → k ≡ suc n → on ≡ at + length front + 1 → IsSomeAnd o (λ p. IsPartIn after on n p) → IsSomeAnd o (λ p. IsPartIn text at k p)
part_found None text front after k n at on cut same is_on h = h
part_found (Some p) text front after k n at on cut same is_on h =
    (length front + 1 + h.0, omega (arith, h.1, is_on), next_part text front after p.text.now k n h.0 cut same h.2)

pub part_found_after : (o : Option Piece) (text front after : List ℕ) (k n at on : ℕ) → comma_at text < length text → front ≡ before_first (λ b. eqb b 44) text → after ≡ after_first (λ b. eqb b 44) text → k ≡ suc n → on ≡ at + length front + 1 → IsSomeAnd o (λ p. IsPartIn after on n p)
    → IsSomeAnd o (λ p. IsPartIn text at k p)
part_found_after o text front after k n at on l e f same is_on h =
    let cut : IsCutAt text front after = rw (e, f) (cut_at text l) in
    part_found o text front after k n at on cut same is_on h

-- ---- the sign in front

record IsSigned (text rest : List ℕ) : Type 0 where
  sign : List ℕ
  spells : text ≡ sign ++ rest
  free : contains_byte 44 sign ≡ false

plus_signed : (text : List ℕ) → IsSigned text (without_plus text)
plus_signed [] = record { sign = []; spells = refl; free = refl }
plus_signed (c ∷ cs) = elim (cases_Bool (eqb c 43)) [
  | inl is_so ↦ record {
    sign = c ∷ [];
    spells = ap (λ xs. c ∷ xs) (sym (cond-true (eqb c 43) cs (c ∷ cs) is_so));
    free = or_from (eqb c 44) false (ap (λ b. eqb b 44) (eqb-true c 43 is_so)) refl;
  }
  | inr is_not ↦ record { sign = []; spells = sym (cond-false (eqb c 43) cs (c ∷ cs) is_not); free = refl }
]

signed : (field : PatternField) (text : List ℕ) → IsSigned text (without_sign field text)
signed fields.Seconds text = record { sign = []; spells = refl; free = refl }
signed fields.Minutes text = record { sign = []; spells = refl; free = refl }
signed fields.Hours text = record { sign = []; spells = refl; free = refl }
signed fields.DayOfMonth text = record { sign = []; spells = refl; free = refl }
signed fields.Month text = record { sign = []; spells = refl; free = refl }
signed fields.Weekday text = plus_signed text
signed fields.Year text = record { sign = []; spells = refl; free = refl }

part_signed : (o : Option Piece) (text rest : List ℕ) (k at on : ℕ) → IsSigned text rest → on ≡ at + (length text - length rest) → IsSomeAnd o (λ p. IsPartIn rest on k p) → IsSomeAnd o (λ p. IsPartIn text at k p)
part_signed None text rest k at on s is_on h = h
part_signed (Some p) text rest k at on s is_on h =
    let q = h.2.is_piece in
    let long : length text - length rest ≡ length s.sign = omega (arith, ap length s.spells, length-append s.sign rest) in (
      length s.sign + h.0,
      omega (arith, h.1, is_on, long),
      record {
        is_piece = record {
          front = s.sign ++ q.front;
          back = q.back;
          spells = s.spells ∙ ap (λ x. s.sign ++ x) q.spells ∙ sym (append_assoc s.sign q.front (p.text.now ++ q.back));
          its_start = omega (arith, length-append s.sign q.front, q.its_start);
          its_end = refl;
          some = q.some;
          piece_utf8 = q.piece_utf8;
          back_utf8 = q.back_utf8;
        };
        one = h.2.one;
        its_part = commas_on s.sign q.front s.free ∙ h.2.its_part;
      },
    )

pub part_with_sign : (o : Option Piece) (field : PatternField) (text rest : List ℕ) (k at on : ℕ) → rest ≡ without_sign field text → on ≡ at + (length text - length rest) → IsSomeAnd o (λ p. IsPartIn rest on k p) → IsSomeAnd o (λ p. IsPartIn text at k p)
part_with_sign o field text rest k at on e is_on h = part_signed o text rest k at on (subst (IsSigned text) (sym e) (signed field text)) is_on h

pub sign_short : (field : PatternField) (text rest : List ℕ) → rest ≡ without_sign field text → length rest ≤ length text
sign_short field text rest e =
    let s = signed field text in omega (arith, ap length e, ap length s.spells, length-append s.sign (without_sign field text))

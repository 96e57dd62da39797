-- The places that a fault may have: the whole text, a word of it, one of its characters, and a piece of a part.
use Rattle.std.proofs.Common.{◌≡◌, ℕ, ltb, suc, zero, ◌+◌, ◌-◌, ◌<◌, ◌≤◌, Bool, true, false, cond, eqb, ◌||◌, ◌&&◌, List, [], ◌∷◌, ◌++◌, length, take, drop, get_or, get_or-take, get_or-drop, length-drop, drop-cons, take-append-drop, take_all, slice_range, Option, Some, None, refl, ap, sym, ◌∙◌, subst, arith, inl, inr}
use Rattle.std.proofs.lemmas.Bool.{false≢true, cases_Bool, cond_both, eq-eqb, ne_eqb, or_from, or_parts}
use Rattle.std.proofs.lemmas.List.{append_assoc, append-nil, length-append}
use Rattle.std.proofs.lemmas.List.Splits.{length-slice_split}
use Rattle.std.proofs.lemmas.List.Sums.{sum_by-append, sum_by-cons}
use Rattle.std.proofs.lemmas.Str.{IsCharBoundary-after_ascii, IsCharBoundary-before_ascii, IsCharBoundary-end, IsCharBoundary-start, IsUtf8-append, IsUtf8-drop, IsUtf8-encode, IsUtf8-take, chars-encodes, encode_ascii, length-encode, len_utf8_bounds}
use Rattle.std.specs.Char.{encode_utf8}
use Rattle.std.specs.List.{count_by}
use Rattle.std.specs.Str.{IsUtf8, IsCharBoundary, chars, encode_utf8_all, str_to_ascii_uppercase}
use Rattle.croner_base.specs.Part.{contains_byte, pieces_at}
use Rattle.croner.specs.declared.parser.fault.PatternField.{PatternField}
use Rattle.croner.specs.parser.Faults.{IsInField, IsInNamed, IsLeast, counted_word, from_illegal, front_of_word, is_whole, most_fields, named_field, place_of_word, refused_by, word_at}
use Rattle.croner.specs.parser.Grammar.{Component, Empty, Illegal, Invalid, Refusal, without_sign}
use Rattle.croner.specs.parser.Settings.{Settings}
use Rattle.croner.specs.parser.Words.{words}
use Rattle.croner.specs.declared.parser.pieces.Piece.{Piece}
use Rattle.croner.specs.Private.parser.Places.{IsFirstIllegal, IsFound, IsPartIn, IsPartOf, IsPiece, IsWithin, IsWordFrom, IsWritten}
use Rattle.croner.proofs.parser.WordPlaces.{IsSeen, seen, whole_word, word_ends, word_utf8, words_around}

-- ---- the whole text

unnamed : (text : List ℕ) (start end : ℕ) (b : Bool) → IsInNamed text (cond b None None) start end
unnamed text start end true = tt
unnamed text start end false = tt

all_bytes : (text : List ℕ) → slice_range text 0 (length text) ≡ text
all_bytes text = take_all (length text - 0) text (omega arith)

found_all : (s : Settings) (text : List ℕ) (refusal : Refusal) → IsUtf8 text → IsLeast s refusal text 0 (length text) → IsInNamed text (named_field text refusal) 0 (length text) → IsFound s text refusal 0 (length text)
found_all s text refusal utf8 least field = record {
  starts = IsCharBoundary-start text utf8;
  ends = IsCharBoundary-end text;
  order = omega arith;
  some = λ l. l;
  least = least;
  field = field;
  sign = λ h. ap (contains_byte 64) (all_bytes text) ∙ h;
}

pub found_empty : (s : Settings) (text : List ℕ) → IsUtf8 text → IsFound s text Empty 0 (length text)
found_empty s text utf8 = found_all s text Empty utf8 (refl, refl) (unnamed text 0 (length text) (contains_byte 64 text))

pub found_count : (s : Settings) (text : List ℕ) → IsUtf8 text → is_whole s text ≡ true → IsFound s text Invalid 0 (length text)
found_count s text utf8 h =
    found_all s text Invalid utf8 (record { from_start = λ _. refl; to_end = λ _. refl; word = λ no. absurd (false≢true (sym no ∙ h)) }) (unnamed text 0 (length text) (contains_byte 64 text))

-- ---- a word

pub found_word : (s : Settings) (text : List ℕ) (place at : ℕ) (word : List ℕ) → IsUtf8 text → IsWordFrom text place at word → contains_byte 64 text ≡ false → eqb (most_fields s.seconds_field s.year_field) 0 ≡ false → counted_word s text ≡ place + 1 → IsFound s text Invalid at (at + length word)
found_word s text place at word utf8 w no_at some number =
    let k = word_utf8 text place at word w in
    let v = seen text place at at (at + length word) word word utf8 w 0 (length word) (whole_word word k.0 k.1) (omega arith) refl in
    let a = words_around text place at (at + length word) word utf8 w refl in
    let whole : is_whole s text ≡ false = or_from (contains_byte 64 text) (eqb (most_fields s.seconds_field s.year_field) 0) no_at some in
    record {
      starts = v.starts;
      ends = v.ends;
      order = omega (arith, v.order);
      some = λ _. v.order;
      least = record {
        from_start = λ h. absurd (false≢true (sym whole ∙ h));
        to_end = λ h. absurd (false≢true (sym whole ∙ h));
        word = λ _. record {
          one_word = subst (λ x. words x ≡ x ∷ []) (sym v.slice) v.one_word;
          its_number = omega (arith, a.0, number);
          whole = omega (arith, a.1, number);
        };
      };
      field = unnamed text at (at + length word) (contains_byte 64 text);
      sign = λ h. absurd (false≢true (sym no_at ∙ h));
    }

-- ---- the sign @

has_at : (text : List ℕ) (i : ℕ) → i < length text → get_or text i 0 ≡ 64 → contains_byte 64 text ≡ true
has_at [] i l e = absurd (omega (arith, l))
has_at (c ∷ cs) zero l e = ap (λ b. b || contains_byte 64 cs) (eq-eqb c 64 e)
has_at (c ∷ cs) (suc i) l e = elim (cases_Bool (eqb c 64)) [
  | inl is_so ↦ ap (λ b. b || contains_byte 64 cs) is_so
  | inr is_not ↦ ap (λ b. b || contains_byte 64 cs) is_not ∙ has_at cs i (omega (arith, l)) e
]

one_sign : (text : List ℕ) (i : ℕ) → i < length text → get_or text i 0 ≡ 64 → slice_range text i (i + 1) ≡ 64 ∷ []
one_sign text i l e =
    let n : (i + 1) - i ≡ 1 = omega arith in
    ap (λ k. take k (drop i text)) n ∙ ap (take 1) (drop-cons text i 0 l) ∙ ap (λ c. c ∷ []) e

sign_named : (text : List ℕ) (start end : ℕ) (o : Option PatternField) (b : Bool) → b ≡ true → IsInNamed text (cond b None o) start end
sign_named text start end o true h = tt
sign_named text start end o false h = absurd (false≢true h)

one_char : (c : ℕ) → chars (encode_utf8_all (c ∷ [])) ≡ c ∷ [] → length (chars (encode_utf8 c)) ≡ 1
one_char c e = ap (λ x. length (chars x)) (sym (append-nil (encode_utf8 c))) ∙ ap length e

found_sign : (s : Settings) (text : List ℕ) (refusal : Refusal) (i : ℕ) → IsUtf8 text → i < length text → get_or text i 0 ≡ 64 → IsLeast s refusal text i (i + 1) → IsFound s text refusal i (i + 1)
found_sign s text refusal i utf8 l e least =
    let small : get_or text i 0 < 128 = omega (arith, e) in
    record {
      starts = IsCharBoundary-before_ascii text i l small;
      ends = IsCharBoundary-after_ascii text i utf8 l small;
      order = omega arith;
      some = λ _. omega arith;
      least = least;
      field = sign_named text i (i + 1) (refused_by refusal) (contains_byte 64 text) (has_at text i l e);
      sign = λ _. ap (contains_byte 64) (one_sign text i l e);
    }

pub found_sign_character : (s : Settings) (text : List ℕ) (field : PatternField) (i : ℕ) → IsUtf8 text → i < length text → get_or text i 0 ≡ 64 → IsFound s text (Illegal field) i (i + 1)
found_sign_character s text field i utf8 l e =
    found_sign s text (Illegal field) i utf8 l e (record {
      one = ap (λ x. length (chars x)) (one_sign text i l e) ∙ ap (λ x. length (chars x)) (sym (encode_ascii 64 (omega arith))) ∙ one_char 64 (chars-encodes (64 ∷ []) refl);
      first = λ no. absurd (false≢true (sym no ∙ has_at text i l e));
    })

pub found_sign_part : (s : Settings) (text : List ℕ) (field : PatternField) (part i : ℕ) → IsUtf8 text → i < length text → get_or text i 0 ≡ 64 → IsFound s text (Component field part) i (i + 1)
found_sign_part s text field part i utf8 l e =
    found_sign s text (Component field part) i utf8 l e (record {
      one_part = ap (contains_byte 44) (one_sign text i l e);
      its_part = λ no. absurd (false≢true (sym no ∙ has_at text i l e));
    })

-- ---- in the field

in_field : (text : List ℕ) (field : PatternField) (start end : ℕ) (front piece back : List ℕ) → IsWritten text field → contains_byte 64 text ≡ false → IsSeen text (place_of_word text field) start end front piece back → IsInField text field start end
in_field text field start end front piece back here no_at v = record {
  all_written = no_at;
  one_word = subst (λ x. words x ≡ x ∷ []) (sym v.slice) v.one_word;
  its_word = omega (arith, v.count, here.reaches);
}

field_named : (text : List ℕ) (field : PatternField) (start end : ℕ) → contains_byte 64 text ≡ false → IsInField text field start end → IsInNamed text (cond (contains_byte 64 text) None (Some field)) start end
field_named text field start end no_at h = subst (λ b. IsInNamed text (cond b None (Some field)) start end) (sym no_at) h

found_in_field : (s : Settings) (text : List ℕ) (refusal : Refusal) (field : PatternField) (start end : ℕ) (front piece back : List ℕ) → refused_by refusal ≡ Some field → IsWritten text field → contains_byte 64 text ≡ false → IsSeen text (place_of_word text field) start end front piece back
    → IsLeast s refusal text start end → IsFound s text refusal start end
found_in_field s text refusal field start end front piece back named here no_at v least = record {
  starts = v.starts;
  ends = v.ends;
  order = omega (arith, v.order);
  some = λ _. v.order;
  least = least;
  field = subst (λ o. IsInNamed text (cond (contains_byte 64 text) None o) start end) (sym named) (field_named text field start end no_at (in_field text field start end front piece back here no_at v));
  sign = λ h. absurd (false≢true (sym no_at ∙ h));
}

-- ---- one character

taken : (j : ℕ) (xs : List ℕ) → j ≤ length xs → length (take j xs) ≡ j
taken j xs h = omega (arith, h, length-drop j xs, ap length (take-append-drop j xs), length-append (take j xs) (drop j xs))

character_piece : (field : PatternField) (word : List ℕ) (a b : ℕ) → (h : IsFirstIllegal field word a b) → IsPiece word a b (encode_utf8 h.c)
character_piece field word a b h = record {
  front = take a word;
  back = h.rest;
  spells = sym (take-append-drop a word) ∙ ap (λ x. take a word ++ x) h.begins;
  its_start = taken a word h.from.starts.0;
  its_end = h.its_end;
  some = omega (arith, length-encode h.c, (len_utf8_bounds h.c).0);
  piece_utf8 = IsUtf8-encode h.c h.is_scalar;
  back_utf8 = h.rest_utf8;
}

pub found_character : (s : Settings) (text : List ℕ) (field : PatternField) (at start end : ℕ) (word : List ℕ) (a b : ℕ) → IsUtf8 text → IsWritten text field → contains_byte 64 text ≡ false → IsWordFrom text (place_of_word text field) at word → word ≡ word_at text (place_of_word text field)
    → IsFirstIllegal field word a b → at + a ≡ start → at + b ≡ end → IsFound s text (Illegal field) start end
unfolding character_piece
found_character s text field at start end word a b utf8 here no_at w is_word h is_start is_end =
    let p = character_piece field word a b h in
    let v = seen text (place_of_word text field) at start end word (encode_utf8 h.c) utf8 w a b p is_start is_end in
    found_in_field s text (Illegal field) field start end p.front (encode_utf8 h.c) p.back refl here no_at v (record {
      one = ap (λ x. length (chars x)) v.slice ∙ one_char h.c (chars-encodes (h.c ∷ []) (ap (λ b. b && true) h.is_scalar));
      first = λ _.
          ap (λ x. from_illegal field (without_sign field (str_to_ascii_uppercase x))) (sym is_word) ∙ h.from.first
          ∙ ap str_to_ascii_uppercase (h.begins ∙ sym v.rest_of_word);
    })

-- ---- a piece of a part

pub no_commas : (text : List ℕ) → contains_byte 44 text ≡ false → count_by (λ b. eqb b 44) text ≡ 0
no_commas [] h = refl
no_commas (c ∷ cs) h =
    let parts = or_parts (eqb c 44) (contains_byte 44 cs) h in
    sum_by-cons (λ b. cond (eqb b 44) 1 0) c cs ∙ ap (λ b. cond b 1 0 + count_by (λ x. eqb x 44) cs) parts.0 ∙ ap (λ n. 0 + n) (no_commas cs parts.1)

same_parts : (front text : List ℕ) → contains_byte 44 text ≡ false → length (pieces_at 44 (front ++ text)) ≡ length (pieces_at 44 front)
same_parts front text h =
    length-slice_split (λ b. eqb b 44) (front ++ text) ∙ ap (λ n. n + 1) (sum_by-append (λ b. cond (eqb b 44) 1 0) front text ∙ ap (λ n. count_by (λ b. eqb b 44) front + n) (no_commas text h) ∙ omega arith)
    ∙ sym (length-slice_split (λ b. eqb b 44) front)

comma_parts : (a b : List ℕ) → contains_byte 44 (a ++ b) ≡ false → (contains_byte 44 a ≡ false) × (contains_byte 44 b ≡ false)
comma_parts [] b h = (refl, h)
comma_parts (c ∷ a) b h =
    let parts = or_parts (eqb c 44) (contains_byte 44 (a ++ b)) h in
    let k = comma_parts a b parts.1 in
    (or_from (eqb c 44) (contains_byte 44 a) parts.0 k.0, k.1)

-- a boundary of the text in a slice of it is one of the slice
boundary_in : (text piece : List ℕ) (from to i : ℕ) → slice_range text from to ≡ piece → from + length piece ≡ to → i ≤ length piece → IsCharBoundary text (from + i) → to ≤ length text → IsCharBoundary piece i
boundary_in text piece from to i slice is_to inside b long = (
  inside,
  λ l high.
      let byte : get_or piece i 0 ≡ get_or text (from + i) 0 =
      ap (λ x. get_or x i 0) (sym slice) ∙ get_or-take (to - from) (drop from text) i 0 (omega (arith, l, is_to)) ∙ get_or-drop from text i 0 in
      let result = b.1 (omega (arith, l, is_to, long)) (subst (λ c. 128 ≤ c) byte high) in
      subst (λ c. 192 ≤ c) (sym byte) result,
)

front_boundary : (piece : List ℕ) (i j : ℕ) → i < j → j ≤ length piece → IsCharBoundary piece i → IsCharBoundary (take j piece) i
front_boundary piece i j less inside b = (
  omega (arith, taken j piece inside, less),
  λ l high.
      let byte : get_or (take j piece) i 0 ≡ get_or piece i 0 = get_or-take j piece i 0 less in
      subst (λ c. 192 ≤ c) (sym byte) (b.1 (omega (arith, less, inside)) (subst (λ c. 128 ≤ c) byte high)),
)

-- a piece of a piece
inner_piece : (word piece : List ℕ) (a i j : ℕ) → (p : IsPiece word a (a + length piece) piece) → i < j → j ≤ length piece → IsCharBoundary piece i → IsCharBoundary piece j → IsPiece word (a + i) (a + j) (drop i (take j piece))
inner_piece word piece a i j p less inside bi bj =
    let head = take j piece in
    let split : piece ≡ take i head ++ (drop i head ++ drop j piece) =
    sym (take-append-drop j piece) ∙ ap (λ x. x ++ drop j piece) (sym (take-append-drop i head)) ∙ append_assoc (take i head) (drop i head) (drop j piece) in
    let long = taken j piece inside in
    record {
      front = p.front ++ take i head;
      back = drop j piece ++ p.back;
      spells =
          p.spells ∙ ap (λ x. p.front ++ (x ++ p.back)) split ∙ ap (λ x. p.front ++ x) (append_assoc (take i head) (drop i head ++ drop j piece) p.back ∙ ap (λ x. take i head ++ x) (append_assoc (drop i head) (drop j piece) p.back))
          ∙ sym (append_assoc p.front (take i head) (drop i head ++ (drop j piece ++ p.back)));
      its_start = omega (arith, length-append p.front (take i head), p.its_start, taken i head (omega (arith, long, less)));
      its_end = omega (arith, length-drop i head, long, less);
      some = omega (arith, length-drop i head, long, less);
      piece_utf8 = IsUtf8-drop head i (IsUtf8-take piece j p.piece_utf8 bj) (front_boundary piece i j less inside bi);
      back_utf8 = IsUtf8-append (drop j piece) p.back (IsUtf8-drop piece j p.piece_utf8 bj) p.back_utf8;
    }

pub found_part : (s : Settings) (text : List ℕ) (field : PatternField) (part at start end : ℕ) (word piece : List ℕ) (a : ℕ) → IsUtf8 text → IsWritten text field → contains_byte 64 text ≡ false → IsWordFrom text (place_of_word text field) at word
    → IsPartOf word part a piece → IsWithin text (at + a) (at + a + length piece) start end → IsFound s text (Component field part) start end
unfolding inner_piece
found_part s text field part at start end word piece a utf8 here no_at w p inside =
    let place = place_of_word text field in
    let from = at + a in
    let to = at + a + length piece in
    let outer = seen text place at from to word piece utf8 w a (a + length piece) p.is_piece refl (omega arith) in
    let i = start - from in
    let j = end - from in
    let less : i < j = omega (arith, inside.least_first, inside.order) in
    let long : j ≤ length piece = omega (arith, inside.greatest_last) in
    let bi = boundary_in text piece from to i outer.slice refl (omega (arith, less, long)) (subst (IsCharBoundary text) (omega (arith, inside.least_first)) inside.starts) outer.ends.0 in
    let bj = boundary_in text piece from to j outer.slice refl long (subst (IsCharBoundary text) (omega (arith, inside.least_first, inside.order)) inside.ends) outer.ends.0 in
    let head = take j piece in
    let q = inner_piece word piece a i j p.is_piece less long bi bj in
    let v = seen text place at start end word (drop i head) utf8 w (a + i) (a + j) q (omega (arith, inside.least_first)) (omega (arith, inside.least_first, inside.order)) in
    let split : piece ≡ head ++ drop j piece = sym (take-append-drop j piece) in
    let head_free = (comma_parts head (drop j piece) (ap (contains_byte 44) (sym split) ∙ p.one)).0 in
    let free = (comma_parts (take i head) (drop i head) (ap (contains_byte 44) (take-append-drop i head) ∙ head_free)).1 in
    let front : front_of_word text field end ≡ p.is_piece.front ++ head =
    v.front_of_word ∙ append_assoc p.is_piece.front (take i head) (drop i head) ∙ ap (λ x. p.is_piece.front ++ x) (take-append-drop i head) in
    found_in_field s text (Component field part) field start end q.front (drop i head) q.back refl here no_at v (record {
      one_part = ap (contains_byte 44) v.slice ∙ free;
      its_part = λ _. ap (λ x. length (pieces_at 44 x)) front ∙ same_parts p.is_piece.front head head_free ∙ p.its_part;
    })

-- ---- without the sign @

pub no_sign : (text : List ℕ) → ((i : ℕ) → i < length text → get_or text i 0 ≡ 64 → ⊥) → contains_byte 64 text ≡ false
no_sign [] h = refl
no_sign (c ∷ cs) h =
    or_from (eqb c 64) (contains_byte 64 cs) (ne_eqb c 64 (λ e. h 0 (omega arith) e)) (no_sign cs (λ i l e. h (suc i) (omega (arith, l)) e))

-- ---- the same of a part in its word

pub part_ends : (text word : List ℕ) (place at k : ℕ) (p : Piece) → IsUtf8 text → IsWordFrom text place at word → IsPartIn word at k p → p.start + length p.text.now ≤ length text
part_ends text word place at k p utf8 w h =
    let q = h.2.is_piece in
    omega (arith, word_ends text place at word utf8 w, h.1, q.its_start, ap length q.spells, length-append q.front (p.text.now ++ q.back), length-append p.text.now q.back)

pub part_within : (text word : List ℕ) (place at k : ℕ) (p : Piece) → IsUtf8 text → IsWordFrom text place at word → IsPartIn word at k p → IsWithin text p.start (p.start + length p.text.now) p.start (p.start + length p.text.now)
part_within text word place at k p utf8 w h =
    let v = seen text place at p.start (p.start + length p.text.now) word p.text.now utf8 w h.0 (h.0 + length p.text.now) h.2.is_piece h.1 (omega (arith, h.1)) in
    record {
      least_first = omega arith;
      order = v.order;
      greatest_last = omega arith;
      starts = v.starts;
      ends = v.ends;
    }

pub found_in_part : (s : Settings) (text : List ℕ) (field : PatternField) (part at start end : ℕ) (word : List ℕ) (p : Piece) → IsUtf8 text → IsWritten text field → contains_byte 64 text ≡ false → IsWordFrom text (place_of_word text field) at word
    → IsPartIn word at part p → IsWithin text p.start (p.start + length p.text.now) start end → IsFound s text (Component field part) start end
found_in_part s text field part at start end word p utf8 here no_at w h inside =
    found_part s text field part at start end word p.text.now h.0 utf8 here no_at w h.2 (subst (λ n. IsWithin text n (n + length p.text.now) start end) (sym h.1) inside)

-- ---- a wrong count

pub counted_some : (s : Settings) (text : List ℕ) → 0 < length (words text) → 0 < counted_word s text
counted_some s text some =
    let most = most_fields s.seconds_field s.year_field in
    cond_both (ltb most (length (words text))) (most + 1) (length (words text)) (λ n. 0 < n) (λ _. omega arith) (λ _. some)

pub whole_by_sign : (s : Settings) (text : List ℕ) → contains_byte 64 text ≡ true → is_whole s text ≡ true
whole_by_sign s text h = ap (λ b. b || eqb (most_fields s.seconds_field s.year_field) 0) h

or_yes : (b : Bool) → (b || true) ≡ true
or_yes true = refl
or_yes false = refl

pub whole_by_none : (s : Settings) (text : List ℕ) → eqb (most_fields s.seconds_field s.year_field) 0 ≡ true → is_whole s text ≡ true
whole_by_none s text h = ap (λ b. contains_byte 64 text || b) h ∙ or_yes (contains_byte 64 text)

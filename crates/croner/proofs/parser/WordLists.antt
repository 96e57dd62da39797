-- The words of a text are those that its split at white space gives, and no other list is.
use Rattle.std.proofs.Common.{◌≡◌, ℕ, ◌<◌, Bool, true, cond, ltb, not, List, [], ◌∷◌, ◌++◌, length, map, refl, ap, sym, ◌∙◌, subst, arith, inl, inr}
use Rattle.std.proofs.lemmas.Bool.{not-false, lt-ltb, cases_Bool, and_parts}
use Rattle.std.proofs.lemmas.List.{append_assoc, append-nil, length-append}
use Rattle.std.proofs.lemmas.List.Splits.{slice_split-cons_yes, slice_split-cons_no}
use Rattle.std.proofs.lemmas.Str.{encodes-append, cons_from_encodes, encodes_same, encode_same, length-encode, len_utf8_bounds, encodes-chars, scalars-chars, NoCharPasses-append, NoCharPasses-nil}
use Rattle.std.specs.Char.{encode_utf8, is_whitespace, is_not_whitespace}
use Rattle.std.specs.List.{slice_split, onto_first, filter}
use Rattle.std.specs.Str.{NoCharPasses, NonePass, EmptyOrStartsWithPassing, IsUtf8, chars, encode_utf8_all, all_scalars}
use lib.Utf8.{scalar}
use Rattle.croner.specs.parser.Words.{AreWords, words_of_chars, words}

abbrev is_some_word : List ℕ → Bool
is_some_word w = ltb 0 (length w)

-- ---- no other list

pub split_encodes : (ds cs rest : List ℕ) → encode_utf8_all cs ≡ encode_utf8_all ds ++ rest → (es : List ℕ) × (cs ≡ ds ++ es) × (encode_utf8_all es ≡ rest)
split_encodes [] cs rest e = (cs, refl, e)
split_encodes (d ∷ ds) cs rest e =
    let k = cons_from_encodes cs (encode_utf8_all ds ++ rest) d (e ∙ append_assoc (encode_utf8 d) (encode_utf8_all ds) rest) in
    let r = split_encodes ds k.0 rest k.2 in
    (r.0, k.1 ∙ ap (λ xs. d ∷ xs) r.1, r.2)

-- white space in front changes nothing
gap_words : (gs es : List ℕ) → NonePass is_not_whitespace gs → words_of_chars (gs ++ es) ≡ words_of_chars es
gap_words [] es h = refl
gap_words (g ∷ gs) es h =
    ap (filter is_some_word) (slice_split-cons_yes is_whitespace g (gs ++ es) (not-false (is_whitespace g) h.0)) ∙ gap_words gs es h.1

-- a word in front joins the first part
split_word : (us es : List ℕ) (parts : List (List ℕ)) (first : List ℕ) → NonePass is_whitespace us → slice_split is_whitespace es ≡ first ∷ parts → slice_split is_whitespace (us ++ es) ≡ (us ++ first) ∷ parts
split_word [] es parts first h e = e
split_word (u ∷ us) es parts first h e =
    slice_split-cons_no is_whitespace u (us ++ es) h.0 ∙ ap (onto_first u) (split_word us es parts first h.1 e)

word_first : (u : ℕ) (us es : List ℕ) (parts : List (List ℕ)) → NonePass is_whitespace (u ∷ us) → slice_split is_whitespace es ≡ [] ∷ parts → words_of_chars ((u ∷ us) ++ es) ≡ (u ∷ us) ∷ words_of_chars es
word_first u us es parts h e =
    let whole : slice_split is_whitespace ((u ∷ us) ++ es) ≡ (u ∷ us) ∷ parts = split_word (u ∷ us) es parts [] h e ∙ ap (λ w. w ∷ parts) (append-nil (u ∷ us)) in
    let some : is_some_word (u ∷ us) ≡ true = lt-ltb 0 (length (u ∷ us)) (omega arith) in
    ap (filter is_some_word) whole ∙ ap (λ b. cond b ((u ∷ us) ∷ filter is_some_word parts) (filter is_some_word parts)) some
    ∙ ap (λ ws. (u ∷ us) ∷ ws) (sym (ap (filter is_some_word) e))

some_bytes : (c : ℕ) (rest : List ℕ) → 0 < length (encode_utf8 c ++ rest)
some_bytes c rest = omega (arith, length-append (encode_utf8 c) rest, length-encode c, (len_utf8_bounds c).0)

-- what follows a word: nothing, or white space
next_part : (es : List ℕ) → ((more : List ℕ) × EmptyOrStartsWithPassing is_whitespace (encode_utf8_all es) more) → (parts : List (List ℕ)) × (slice_split is_whitespace es ≡ [] ∷ parts)
next_part [] h = ([], refl)
next_part (c ∷ es) h =
    let k = h.1 (some_bytes c (encode_utf8_all es)) in
    let same = encode_same c k.0 (encode_utf8_all es) h.0 k.2 in
    (slice_split is_whitespace es, slice_split-cons_yes is_whitespace c es (ap is_whitespace same.0 ∙ k.1))

one_word : (us es : List ℕ) → NonePass is_whitespace us → 0 < length (encode_utf8_all us) → ((more : List ℕ) × EmptyOrStartsWithPassing is_whitespace (encode_utf8_all es) more) → words_of_chars (us ++ es) ≡ us ∷ words_of_chars es
one_word [] es h some ends = absurd (omega (arith, some))
one_word (u ∷ us) es h some ends = let p = next_part es ends in word_first u us es p.0 h p.1

words_unique : (ws : List (List ℕ)) (cs : List ℕ) → AreWords (encode_utf8_all cs) ws → ws ≡ map encode_utf8_all (words_of_chars cs)
words_unique [] cs h =
    let same : cs ≡ h.0 = sym (encodes_same h.0 cs h.1) in
    let none = gap_words h.0 [] h.2 in
    sym (ap (λ xs. map encode_utf8_all (words_of_chars xs)) (same ∙ sym (append-nil h.0)) ∙ ap (map encode_utf8_all) none)
words_unique (w ∷ ws) cs h =
    let s = h.1 in
    let gs = s.is_gap.0 in
    let us = s.is_word.0 in
    let spelled : encode_utf8_all cs ≡ encode_utf8_all gs ++ (encode_utf8_all us ++ h.0) = rw (s.is_gap.1, s.is_word.1) s.spells in
    let one = split_encodes gs cs (encode_utf8_all us ++ h.0) spelled in
    let two = split_encodes us one.0 h.0 one.2 in
    let ends = subst (λ r. (more : List ℕ) × EmptyOrStartsWithPassing is_whitespace r more) (sym two.2) s.ends in
    let some : 0 < length (encode_utf8_all us) = subst (λ t. 0 < length t) (sym s.is_word.1) s.some in
    let rest = words_unique ws two.0 (subst (λ r. AreWords r ws) (sym two.2) h.2) in
    let all : words_of_chars cs ≡ us ∷ words_of_chars two.0 =
    ap words_of_chars (one.1 ∙ ap (λ r. gs ++ r) two.1) ∙ gap_words gs (us ++ two.0) s.is_gap.2 ∙ one_word us two.0 s.is_word.2 some ends in
    ap (λ v. v ∷ ws) (sym s.is_word.1) ∙ ap (λ vs. encode_utf8_all us ∷ vs) rest ∙ sym (ap (map encode_utf8_all) all)

-- a list of words of the text is the one
pub words_are : (text : List ℕ) (ws : List (List ℕ)) → IsUtf8 text → AreWords text ws → ws ≡ words text
words_are text ws utf8 h =
    words_unique ws (chars text) (subst (λ t. AreWords t ws) (sym (encodes-chars text utf8)) h)

-- ---- and it is one

pub gap_more : (g t : List ℕ) (ws : List (List ℕ)) → NoCharPasses is_not_whitespace g → AreWords t ws → AreWords (g ++ t) ws
gap_more g t [] gap h = NoCharPasses-append is_not_whitespace g t gap h
gap_more g t (w ∷ ws) gap h =
    let s = h.1 in (
      h.0,
      record {
        gap = g ++ s.gap;
        spells = ap (λ x. g ++ x) s.spells ∙ sym (append_assoc g s.gap (w ++ h.0));
        some = s.some;
        is_gap = NoCharPasses-append is_not_whitespace g s.gap gap s.is_gap;
        is_word = s.is_word;
        ends = s.ends;
      },
      h.2,
    )

-- the first part of a split is empty or the first word
front_words : (g cs first rest : List ℕ) (parts : List (List ℕ)) → NoCharPasses is_not_whitespace g → cs ≡ first ++ rest → NonePass is_whitespace first → ((more : List ℕ) × EmptyOrStartsWithPassing is_whitespace (encode_utf8_all rest) more) → AreWords (encode_utf8_all rest) (map encode_utf8_all (filter is_some_word parts)) → AreWords (g ++ encode_utf8_all cs) (map encode_utf8_all (filter is_some_word (first ∷ parts)))
front_words g cs [] rest parts gap e word ends others =
    gap_more g (encode_utf8_all cs) (map encode_utf8_all (filter is_some_word parts)) gap
    (subst (λ x. AreWords (encode_utf8_all x) (map encode_utf8_all (filter is_some_word parts))) (sym e) others)
front_words g cs (u ∷ us) rest parts gap e word ends others =
    let some : is_some_word (u ∷ us) ≡ true = lt-ltb 0 (length (u ∷ us)) (omega arith) in
    let kept : filter is_some_word ((u ∷ us) ∷ parts) ≡ (u ∷ us) ∷ filter is_some_word parts =
    ap (λ b. cond b ((u ∷ us) ∷ filter is_some_word parts) (filter is_some_word parts)) some in
    let whole : AreWords (g ++ encode_utf8_all cs) (encode_utf8_all (u ∷ us) ∷ map encode_utf8_all (filter is_some_word parts)) = (
      encode_utf8_all rest,
      record {
        gap = g;
        spells = ap (λ x. g ++ x) (ap encode_utf8_all e ∙ encodes-append (u ∷ us) rest);
        some = some_bytes u (encode_utf8_all us);
        is_gap = gap;
        is_word = (u ∷ us, refl, word);
        ends = ends;
      },
      others,
    ) in
    subst (λ ws. AreWords (g ++ encode_utf8_all cs) (map encode_utf8_all ws)) (sym kept) whole

-- the characters split at white space: the first part, the others, and what follows the first
record Parted (cs : List ℕ) : Type 0 where
  first : List ℕ
  parts : List (List ℕ)
  rest : List ℕ
  parted : slice_split is_whitespace cs ≡ first ∷ parts
  same : cs ≡ first ++ rest
  word : NonePass is_whitespace first
  ends : (more : List ℕ) × EmptyOrStartsWithPassing is_whitespace (encode_utf8_all rest) more
  others : AreWords (encode_utf8_all rest) (map encode_utf8_all (filter is_some_word parts))

parted : (cs : List ℕ) → all_scalars cs ≡ true → Parted cs
parted [] h = record {
  first = [];
  parts = [];
  rest = [];
  parted = refl;
  same = refl;
  word = tt;
  ends = ([], λ l. absurd (omega (arith, l)));
  others = NoCharPasses-nil is_not_whitespace;
}
parted (c ∷ cs) h =
    let scalars = and_parts (scalar c) (all_scalars cs) h in
    let r = parted cs scalars.1 in
    elim (cases_Bool (is_whitespace c)) [
      | inl white ↦ record {
        first = [];
        parts = r.first ∷ r.parts;
        rest = c ∷ cs;
        parted = slice_split-cons_yes is_whitespace c cs white ∙ ap (λ ps. [] ∷ ps) r.parted;
        same = refl;
        word = tt;
        ends = (encode_utf8_all cs, λ l. (c, white, refl, scalars.0));
        others =
            front_words (encode_utf8 c) cs r.first r.rest r.parts (c ∷ [], append-nil (encode_utf8 c), (ap not white, tt)) r.same r.word r.ends r.others;
      }
      | inr other ↦ record {
        first = c ∷ r.first;
        parts = r.parts;
        rest = r.rest;
        parted = slice_split-cons_no is_whitespace c cs other ∙ ap (onto_first c) r.parted;
        same = ap (λ xs. c ∷ xs) r.same;
        word = (other, r.word);
        ends = r.ends;
        others = r.others;
      }
    ]

words_hold : (cs : List ℕ) → all_scalars cs ≡ true → AreWords (encode_utf8_all cs) (map encode_utf8_all (words_of_chars cs))
words_hold cs h =
    let r = parted cs h in
    subst (λ ps. AreWords (encode_utf8_all cs) (map encode_utf8_all (filter is_some_word ps))) (sym r.parted)
    (front_words [] cs r.first r.rest r.parts (NoCharPasses-nil is_not_whitespace) r.same r.word r.ends r.others)

-- the words of a text are its words
pub are_words : (text : List ℕ) → IsUtf8 text → AreWords text (words text)
are_words text utf8 =
    subst (λ t. AreWords t (words text)) (encodes-chars text utf8) (words_hold (chars text) (scalars-chars text utf8))

-- The words of a text in their places, and the pieces of a word: what stands in front of them and after them.
use Rattle.std.proofs.Common.{◌≡◌, ℕ, ltb, suc, zero, Some, slice_get, ◌+◌, ◌-◌, ◌<◌, ◌≤◌, Bool, true, List, [], ◌∷◌, ◌++◌, length, map, take, drop, get_or, take_at, drop_at, slice_range, refl, ap, sym, ◌∙◌, subst, arith}
use Rattle.std.proofs.lemmas.Bool.{cond-false, cond-true, false≢true, ltb-true, not-false}
use Rattle.std.proofs.lemmas.List.{append_assoc, append-nil, length-append}
use Rattle.std.proofs.lemmas.Option.{none-some, same_Some, slice_get-get_or}
use Rattle.std.proofs.lemmas.Str.{IsUtf8-append, IsUtf8-nil, IsUtf8-take, IsCharBoundary-at_seam, chars_from_encodes, cons_from_encodes, encodes-append, encodes_same}
use Rattle.std.specs.Char.{encode_utf8, is_whitespace, is_not_whitespace}
use Rattle.std.specs.Str.{IsUtf8, IsCharBoundary, NoCharPasses, NonePass, chars, encode_utf8_all, skip_leading_whitespace, trim_start}
use Rattle.croner.specs.declared.parser.pieces.Piece.{Piece}
use Rattle.croner.specs.parser.Faults.{word_at}
use Rattle.croner.specs.parser.Words.{AreWords, StartsWith, words}
use Rattle.croner.specs.Private.parser.Places.{AreItsWords, ArePlaced, Follows, IsPiece, IsWalked, IsWordFrom}
use Rattle.croner.proofs.parser.GivenWords.{gap_follows, words_on}
use Rattle.croner.proofs.parser.ReplacedWords.{front_of_text}
use Rattle.croner.proofs.parser.WordLists.{are_words, words_are}

-- ---- words after words

no_first : (word rest gap : List ℕ) → 0 < length word → [] ≡ gap ++ (word ++ rest) → ⊥
no_first word rest gap some e = omega (arith, some, ap length e, length-append gap (word ++ rest), length-append word rest)

words_after : (a b : List ℕ) (ws vs : List (List ℕ)) → AreWords a ws → AreWords b vs → (0 < length a → Follows b) → AreWords (a ++ b) (ws ++ vs)
words_after [] b [] vs h k f = k
words_after [] b (w ∷ ws) vs h k f = absurd (no_first w h.0 h.1.gap h.1.some h.1.spells)
words_after (x ∷ a) b ws vs h k f = words_on (x ∷ a) b ws vs h k (f (omega arith))

-- white space that begins a text begins it whatever follows
follows_front : (a b : List ℕ) → 0 < length a → Follows a → Follows (a ++ b)
follows_front a b some f =
    let k = f.1 some in (f.0 ++ b, λ _. (k.0, k.1, ap (λ xs. xs ++ b) k.2 ∙ append_assoc (encode_utf8 k.0) f.0 b, k.3))

-- a text that begins with another character doesn't
no_white : (us bs more : List ℕ) (c : ℕ) → 0 < length (encode_utf8_all us) → NonePass is_whitespace us → is_whitespace c ≡ true → encode_utf8_all (us ++ bs) ≡ encode_utf8 c ++ more → ⊥
no_white [] bs more c some plain white e = omega (arith, some)
no_white (u ∷ us) bs more c some plain white e =
    let k = cons_from_encodes (u ∷ (us ++ bs)) more c e in
    let same : u ≡ c = ap (λ xs. get_or xs 0 0) k.1 in
    false≢true (sym plain.0 ∙ ap is_whitespace same ∙ white)

none_parts : (p : ℕ → Bool) (ds es : List ℕ) → NonePass p (ds ++ es) → NonePass p ds × NonePass p es
none_parts p [] es h = (tt, h)
none_parts p (d ∷ ds) es h = let k = none_parts p ds es h.1 in ((h.0, k.0), k.1)

plain_parts : (a b : List ℕ) → IsUtf8 a → IsUtf8 b → NoCharPasses is_whitespace (a ++ b) → NoCharPasses is_whitespace a × NoCharPasses is_whitespace b
plain_parts a b ua ub h =
    let same : h.0 ≡ ua.0 ++ ub.0 = encodes_same h.0 (ua.0 ++ ub.0) (h.1 ∙ ap (λ x. x ++ b) (sym ua.1.1) ∙ ap (λ x. encode_utf8_all ua.0 ++ x) (sym ub.1.1) ∙ sym (encodes-append ua.0 ub.0)) in
    let k = none_parts is_whitespace ua.0 ub.0 (subst (NonePass is_whitespace) same h.2) in
    ((ua.0, ua.1.1, k.0), (ub.0, ub.1.1, k.1))

-- a text without white space is one word
one_word : (q : List ℕ) → IsUtf8 q → 0 < length q → NoCharPasses is_whitespace q → words q ≡ q ∷ []
one_word q utf8 some plain =
    sym (words_are q (q ∷ []) utf8 (
      [],
      record {
        gap = [];
        spells = sym (append-nil q);
        some = some;
        is_gap = ([], refl, tt);
        is_word = plain;
        ends = ([], λ l. absurd (omega (arith, l)));
      },
      ([], refl, tt),
    ))

-- ---- the walk over a text

walk_starts : (text : List ℕ) → IsUtf8 text → IsWalked text [] 0 text
walk_starts text utf8 = record {
  done = [];
  spells = refl;
  its_end = refl;
  are_words = ([], refl, tt);
  apart = λ l. absurd (omega (arith, l));
  utf8 = utf8;
}

-- the word's characters, and what stands after it
inside : (rest word after : List ℕ) → IsUtf8 rest → StartsWith rest word after → IsUtf8 word × IsUtf8 after
inside rest word after utf8 s =
    let gs = s.is_gap.0 in
    let us = s.is_word.0 in
    let spelled : rest ≡ encode_utf8_all gs ++ (encode_utf8_all us ++ after) = rw (s.is_gap.1, s.is_word.1) s.spells in
    let one = front_of_text gs (encode_utf8_all us ++ after) (subst IsUtf8 spelled utf8) in
    let two = front_of_text us after one.1 in
    (subst IsUtf8 s.is_word.1 (us, (two.0, refl)), two.1)

-- a front of the first word stands apart from what was walked over
apart_at : (rest word after p gap : List ℕ) → IsUtf8 after → Follows rest → 0 < length word → NoCharPasses is_whitespace word → rest ≡ gap ++ (word ++ after) → NoCharPasses is_not_whitespace gap → Follows (gap ++ p)
apart_at rest word after p [] utf8 k some plain e g =
    let w = k.1 (omega (arith, ap length e, length-append word after, some)) in
    let same : encode_utf8_all (plain.0 ++ utf8.0) ≡ encode_utf8 w.0 ++ k.0 =
    encodes-append plain.0 utf8.0 ∙ ap (λ x. x ++ encode_utf8_all utf8.0) plain.1 ∙ ap (λ x. word ++ x) utf8.1.1 ∙ sym e ∙ w.2 in
    absurd (no_white plain.0 utf8.0 k.0 w.0 (subst (λ x. 0 < length x) (sym plain.1) some) plain.2 w.1 same)
apart_at rest word after p (g ∷ gs) utf8 k some plain e h = follows_front (g ∷ gs) p (omega arith) (gap_follows (g ∷ gs) h)

apart : (done rest word after p : List ℕ) → (s : StartsWith rest word after) → IsUtf8 after → (0 < length done → Follows rest) → 0 < length done → Follows (s.gap ++ p)
apart done rest word after p s utf8 f some = apart_at rest word after p s.gap utf8 (f some) s.some s.is_word s.spells s.is_gap

-- a step goes past the gap and the word
pub walk_goes_on : (text word after rest : List ℕ) (ws : List (List ℕ)) (from : ℕ) → (w : IsWalked text ws from rest) → (s : StartsWith rest word after) → IsWalked text (ws ++ word ∷ []) (from + length s.gap + length word) after
walk_goes_on text word after rest ws from w s =
    let k = inside rest word after w.utf8 s in
    let one : AreWords (s.gap ++ word) (word ∷ []) = (
      [],
      record {
        gap = s.gap;
        spells = ap (λ x. s.gap ++ x) (sym (append-nil word));
        some = s.some;
        is_gap = s.is_gap;
        is_word = s.is_word;
        ends = ([], λ l. absurd (omega (arith, l)));
      },
      ([], refl, tt),
    ) in
    record {
      done = w.done ++ (s.gap ++ word);
      spells = w.spells ∙ ap (λ x. w.done ++ x) (s.spells ∙ sym (append_assoc s.gap word after)) ∙ sym (append_assoc w.done (s.gap ++ word) after);
      its_end = omega (arith, length-append w.done (s.gap ++ word), length-append s.gap word, w.its_end);
      are_words = words_after w.done (s.gap ++ word) ws (word ∷ []) w.are_words one (apart w.done rest word after word s k.1 w.apart);
      apart = λ _. s.ends;
      utf8 = k.1;
    }

-- ---- a piece of a word in its text

-- what a place in a word says of the text
pub record IsSeen (text : List ℕ) (place : ℕ) (start end : ℕ) (front piece back : List ℕ) : Type 0 where
  pub starts : IsCharBoundary text start
  pub ends : IsCharBoundary text end
  pub order : start < end
  pub slice : slice_range text start end ≡ piece
  pub one_word : words piece ≡ piece ∷ []
  pub count : length (words (take end text)) ≡ place + 1
  pub front_of_word : word_at (take end text) place ≡ front ++ piece
  pub rest_of_word : word_at (drop start text) 0 ≡ piece ++ back

at_end : (ws : List (List ℕ)) (w : List ℕ) → get_or (ws ++ w ∷ []) (length ws) [] ≡ w
at_end [] w = refl
at_end (v ∷ ws) w = at_end ws w

last_of : (ws : List (List ℕ)) (w : List ℕ) (n : ℕ) → length ws ≡ n → get_or (ws ++ w ∷ []) n [] ≡ w
last_of ws w n e = ap (λ k. get_or (ws ++ w ∷ []) k []) (sym e) ∙ at_end ws w

pub seen : (text : List ℕ) (place at start end : ℕ) (word piece : List ℕ) → IsUtf8 text → (w : IsWordFrom text place at word) → (a b : ℕ) → (p : IsPiece word a b piece) → at + a ≡ start → at + b ≡ end → IsSeen text place start end p.front piece p.back
seen text place at start end word piece utf8 w a b p is_start is_end =
    let s = w.first in
    let done = w.walked.done in
    let gap = s.gap in
    let k = inside w.rest word w.after w.walked.utf8 s in
    let tail : IsUtf8 (piece ++ p.back) = IsUtf8-append piece p.back p.piece_utf8 p.back_utf8 in
    let before : IsUtf8 p.front =
    subst IsUtf8 (ap (take (length p.front)) p.spells ∙ take_at p.front (piece ++ p.back) (length p.front) refl)
    (IsUtf8-take word (length p.front) k.0 (IsCharBoundary-at_seam word p.front (piece ++ p.back) p.spells tail)) in
    let plain = plain_parts p.front (piece ++ p.back) before tail (subst (NoCharPasses is_whitespace) p.spells s.is_word) in
    let plain_piece = plain_parts piece p.back p.piece_utf8 p.back_utf8 plain.1 in
    let plain_front = plain_parts (p.front ++ piece) p.back (IsUtf8-append p.front piece before p.piece_utf8) p.back_utf8 (subst (NoCharPasses is_whitespace) (p.spells ∙ sym (append_assoc p.front piece p.back)) s.is_word) in
    let lead = done ++ (gap ++ p.front) in
    let rear = p.back ++ w.after in
    let spelled : text ≡ lead ++ (piece ++ rear) =
    w.walked.spells ∙ ap (λ x. done ++ x) (s.spells ∙ ap (λ x. gap ++ (x ++ w.after)) p.spells ∙ ap (λ x. gap ++ x) (append_assoc p.front (piece ++ p.back) w.after) ∙ sym (append_assoc gap p.front ((piece ++ p.back) ++ w.after)))
    ∙ sym (append_assoc done (gap ++ p.front) ((piece ++ p.back) ++ w.after)) ∙ ap (λ x. lead ++ x) (append_assoc piece p.back w.after) in
    let upto : text ≡ (lead ++ piece) ++ rear = spelled ∙ sym (append_assoc lead piece rear) in
    let rear_utf8 : IsUtf8 rear = IsUtf8-append p.back w.after p.back_utf8 k.1 in
    let length_lead : length lead ≡ start = omega (arith, length-append done (gap ++ p.front), length-append gap p.front, w.walked.its_end, w.its_start, p.its_start, is_start) in
    let length_upto : length (lead ++ piece) ≡ end = omega (arith, length-append lead piece, length_lead, p.its_end, is_start, is_end) in
    let starts : IsCharBoundary text start = subst (IsCharBoundary text) length_lead (IsCharBoundary-at_seam text lead (piece ++ rear) spelled (IsUtf8-append piece rear p.piece_utf8 rear_utf8)) in
    let ends : IsCharBoundary text end = subst (IsCharBoundary text) length_upto (IsCharBoundary-at_seam text (lead ++ piece) rear upto rear_utf8) in
    let taken : take end text ≡ lead ++ piece = ap (take end) upto ∙ take_at (lead ++ piece) rear end length_upto in
    let dropped : drop start text ≡ piece ++ rear = ap (drop start) spelled ∙ drop_at lead (piece ++ rear) start length_lead in
    let fronts : words (take end text) ≡ w.ws ++ (p.front ++ piece) ∷ [] =
    sym (words_are (take end text) (w.ws ++ (p.front ++ piece) ∷ []) (IsUtf8-take text end utf8 ends)
    (subst (λ t. AreWords t (w.ws ++ (p.front ++ piece) ∷ []))
    (ap (λ x. done ++ x) (sym (append_assoc gap p.front piece)) ∙ sym (append_assoc done (gap ++ p.front) piece) ∙ sym taken)
    (words_after done (gap ++ (p.front ++ piece)) w.ws ((p.front ++ piece) ∷ []) w.walked.are_words (
      [],
      record {
        gap = gap;
        spells = ap (λ x. gap ++ x) (sym (append-nil (p.front ++ piece)));
        some = omega (arith, length-append p.front piece, p.some);
        is_gap = s.is_gap;
        is_word = plain_front.0;
        ends = ([], λ l. absurd (omega (arith, l)));
      },
      ([], refl, tt),
    )
    (apart done w.rest word w.after (p.front ++ piece) s k.1 w.walked.apart)))) in
    let after : words (drop start text) ≡ (piece ++ p.back) ∷ words w.after =
    ap words (dropped ∙ sym (append_assoc piece p.back w.after))
    ∙ sym (words_are ((piece ++ p.back) ++ w.after) ((piece ++ p.back) ∷ words w.after) (IsUtf8-append (piece ++ p.back) w.after tail k.1) (
      w.after,
      record {
        gap = [];
        spells = refl;
        some = omega (arith, length-append piece p.back, p.some);
        is_gap = ([], refl, tt);
        is_word = plain.1;
        ends = s.ends;
      },
      are_words w.after k.1,
    )) in
    record {
      starts = starts;
      ends = ends;
      order = omega (arith, p.its_end, p.some, is_start, is_end);
      slice = ap (take (end - start)) dropped ∙ take_at piece rear (end - start) (omega (arith, p.its_end, is_start, is_end));
      one_word = one_word piece p.piece_utf8 p.some plain_piece.0;
      count = ap length fronts ∙ length-append w.ws ((p.front ++ piece) ∷ []) ∙ ap (λ n. n + 1) w.its_place;
      front_of_word = ap (λ ws. get_or ws place []) fronts ∙ last_of w.ws (p.front ++ piece) place w.its_place;
      rest_of_word = ap (λ ws. get_or ws 0 []) after;
    }

-- ---- a whole word

-- a word is a piece of itself
pub whole_word : (word : List ℕ) → IsUtf8 word → 0 < length word → IsPiece word 0 (length word) word
whole_word word utf8 some = record {
  front = [];
  back = [];
  spells = sym (append-nil word);
  its_start = refl;
  its_end = omega arith;
  some = some;
  piece_utf8 = utf8;
  back_utf8 = IsUtf8-nil;
}

pub word_utf8 : (text : List ℕ) (place at : ℕ) (word : List ℕ) → IsWordFrom text place at word → IsUtf8 word × (0 < length word)
word_utf8 text place at word w = ((inside w.rest word w.after w.walked.utf8 w.first).0, w.first.some)

-- the words in front of a word, and those after it
pub words_around : (text : List ℕ) (place at end : ℕ) (word : List ℕ) → IsUtf8 text → IsWordFrom text place at word → at + length word ≡ end → (length (words (take at text)) ≡ place) × (place + 1 + length (words (drop end text)) ≡ length (words text))
words_around text place at end word utf8 w is_end =
    let s = w.first in
    let done = w.walked.done in
    let k = inside w.rest word w.after w.walked.utf8 s in
    let lead = done ++ s.gap in
    let spelled : text ≡ lead ++ (word ++ w.after) = w.walked.spells ∙ ap (λ x. done ++ x) s.spells ∙ sym (append_assoc done s.gap (word ++ w.after)) in
    let tail = IsUtf8-append word w.after k.0 k.1 in
    let length_lead : length lead ≡ at = omega (arith, length-append done s.gap, w.walked.its_end, w.its_start) in
    let upto : text ≡ (lead ++ word) ++ w.after = spelled ∙ sym (append_assoc lead word w.after) in
    let starts : IsCharBoundary text at = subst (IsCharBoundary text) length_lead (IsCharBoundary-at_seam text lead (word ++ w.after) spelled tail) in
    let taken : take at text ≡ lead = ap (take at) spelled ∙ take_at lead (word ++ w.after) at length_lead in
    let dropped : drop end text ≡ w.after = ap (drop end) upto ∙ drop_at (lead ++ word) w.after end (omega (arith, length-append lead word, length_lead, is_end)) in
    let fronts : words (take at text) ≡ w.ws ++ [] =
    sym (words_are (take at text) (w.ws ++ []) (IsUtf8-take text at utf8 starts)
    (subst (λ t. AreWords t (w.ws ++ [])) (sym taken) (words_after done s.gap w.ws [] w.walked.are_words s.is_gap (λ _. gap_follows s.gap s.is_gap)))) in
    let all : words text ≡ w.ws ++ word ∷ words w.after =
    sym (words_are text (w.ws ++ word ∷ words w.after) utf8
    (subst (λ t. AreWords t (w.ws ++ word ∷ words w.after)) (sym w.walked.spells)
    (words_after done w.rest w.ws (word ∷ words w.after) w.walked.are_words (w.after, s, are_words w.after k.1) w.walked.apart))) in (
      omega (arith, ap length fronts, length-append w.ws [], w.its_place),
      omega (arith, ap length all, length-append w.ws (word ∷ words w.after), w.its_place, ap (λ t. length (words t)) dropped),
    )

-- ---- the list of them

pub placed_more : (text : List ℕ) (n : ℕ) (ps : List Piece) (p : Piece) → ArePlaced text n ps → IsWordFrom text (n + length ps) p.start p.text.now → ArePlaced text n (ps ++ p ∷ [])
placed_more text n [] p h w = (subst (λ k. IsWordFrom text k p.start p.text.now) (omega arith) w, tt)
placed_more text n (q ∷ ps) p h w = (h.0, placed_more text (n + 1) ps p h.1 (subst (λ k. IsWordFrom text k p.start p.text.now) (omega arith) w))

-- ---- the walk, step by step

pub walk_boundary : (text rest : List ℕ) (ws : List (List ℕ)) (from : ℕ) → IsWalked text ws from rest → IsCharBoundary text from
walk_boundary text rest ws from w =
    subst (IsCharBoundary text) w.its_end (IsCharBoundary-at_seam text w.done rest w.spells w.utf8)

walk_rest : (text rest : List ℕ) (ws : List (List ℕ)) (from : ℕ) → IsWalked text ws from rest → drop from text ≡ rest
walk_rest text rest ws from w = ap (drop from) w.spells ∙ drop_at w.done rest from w.its_end

skip_gap : (gs es : List ℕ) → NonePass is_not_whitespace gs → skip_leading_whitespace (gs ++ es) ≡ skip_leading_whitespace es
skip_gap [] es h = refl
skip_gap (g ∷ gs) es h =
    cond-true (is_whitespace g) (skip_leading_whitespace (gs ++ es)) (g ∷ (gs ++ es)) (not-false (is_whitespace g) h.0) ∙ skip_gap gs es h.1

skip_none : (us es : List ℕ) → 0 < length (encode_utf8_all us) → NonePass is_whitespace us → skip_leading_whitespace (us ++ es) ≡ us ++ es
skip_none [] es some h = absurd (omega (arith, some))
skip_none (u ∷ us) es some h = cond-false (is_whitespace u) (skip_leading_whitespace (us ++ es)) (u ∷ (us ++ es)) h.0

-- the white space in front of a word is trimmed
trimmed_front : (rest word after : List ℕ) → IsUtf8 rest → StartsWith rest word after → trim_start rest ≡ word ++ after
unfolding trim_start
trimmed_front rest word after utf8 s =
    let gs = s.is_gap.0 in
    let us = s.is_word.0 in
    let k = inside rest word after utf8 s in
    let bs = k.1.0 in
    let spelled : encode_utf8_all (gs ++ (us ++ bs)) ≡ rest =
    encodes-append gs (us ++ bs) ∙ ap (λ x. x ++ encode_utf8_all (us ++ bs)) s.is_gap.1 ∙ ap (λ x. s.gap ++ x) (encodes-append us bs ∙ ap (λ x. x ++ encode_utf8_all bs) s.is_word.1 ∙ ap (λ x. word ++ x) k.1.1.1) ∙ sym s.spells in
    let same : gs ++ (us ++ bs) ≡ chars rest = chars_from_encodes (gs ++ (us ++ bs)) rest utf8 spelled in
    ap (λ cs. encode_utf8_all (skip_leading_whitespace cs)) (sym same)
    ∙ ap encode_utf8_all (skip_gap gs (us ++ bs) s.is_gap.2 ∙ skip_none us bs (subst (λ x. 0 < length x) (sym s.is_word.1) s.some) s.is_word.2)
    ∙ encodes-append us bs ∙ ap (λ x. x ++ encode_utf8_all bs) s.is_word.1 ∙ ap (λ x. word ++ x) k.1.1.1

-- where the next word begins
pub next_start : (text rest word after here : List ℕ) (ws : List (List ℕ)) (from : ℕ) → IsWalked text ws from rest → (s : StartsWith rest word after) → here ≡ trim_start (drop from text) → length text - length here ≡ from + length s.gap
next_start text rest word after here ws from w s e =
    let trimmed : here ≡ word ++ after = e ∙ ap trim_start (walk_rest text rest ws from w) ∙ trimmed_front rest word after w.utf8 s in
    omega (arith, ap length w.spells, length-append w.done rest, w.its_end, ap length s.spells, length-append s.gap (word ++ after), ap length trimmed)

pub walk_ends : (text rest : List ℕ) (ws : List (List ℕ)) (from : ℕ) → IsUtf8 text → IsWalked text ws from rest → NoCharPasses is_not_whitespace rest → ws ≡ words text
walk_ends text rest ws from utf8 w gap =
    words_are text ws utf8 (subst (AreWords text) (append-nil ws) (subst (λ t. AreWords t (ws ++ [])) (sym w.spells) (words_after w.done rest ws [] w.are_words gap (λ _. gap_follows rest gap))))

-- ---- a word of the list

placed_at : (text : List ℕ) (n : ℕ) (ps : List Piece) (k : ℕ) (p : Piece) → ArePlaced text n ps → slice_get ps k ≡ Some p → IsWordFrom text (n + k) p.start p.text.now
placed_at text n [] k p h e = absurd (none-some p e)
placed_at text n (q ∷ ps) zero p h e =
    subst (λ (x : Piece). IsWordFrom text (n + 0) x.start x.text.now) (same_Some q p e) (subst (λ m. IsWordFrom text m q.start q.text.now) (omega arith) h.0)
placed_at text n (q ∷ ps) (suc k) p h e = subst (λ m. IsWordFrom text m p.start p.text.now) (omega arith) (placed_at text (n + 1) ps k p h.1 e)

text_at : (ps : List Piece) (k : ℕ) (p : Piece) → slice_get ps k ≡ Some p → get_or (map (λ (x : Piece). x.text.now) ps) k [] ≡ p.text.now
text_at [] k p e = absurd (none-some p e)
text_at (q ∷ ps) zero p e = ap (λ (x : Piece). x.text.now) (same_Some q p e)
text_at (q ∷ ps) (suc k) p e = text_at ps k p e

-- the piece at a place is the word at it
word_there : (text : List ℕ) (pieces : List Piece) (place : ℕ) (p : Piece) → AreItsWords text pieces → slice_get pieces place ≡ Some p → IsWordFrom text place p.start p.text.now × (p.text.now ≡ word_at text place)
word_there text pieces place p its e = (
  subst (λ m. IsWordFrom text m p.start p.text.now) (omega arith) (placed_at text 0 pieces place p its.placed e),
  sym (text_at pieces place p e) ∙ ap (λ ws. get_or ws place []) its.all,
)

pub word_at_place : (text : List ℕ) (pieces : List Piece) (place : ℕ) (p : Piece) → AreItsWords text pieces → true ≡ ltb place (length pieces) → p ≡ get_or pieces place p → IsWordFrom text place p.start p.text.now × (p.text.now ≡ word_at text place)
word_at_place text pieces place p its inside e =
    word_there text pieces place p its (slice_get-get_or pieces place p (ltb-true place (length pieces) (sym inside)) ∙ ap Some (sym e))

-- a word ends within its text
pub word_ends : (text : List ℕ) (place at : ℕ) (word : List ℕ) → IsUtf8 text → IsWordFrom text place at word → at + length word ≤ length text
word_ends text place at word utf8 w =
    omega (arith, ap length w.walked.spells, length-append w.walked.done w.rest, w.walked.its_end, ap length w.first.spells, length-append w.first.gap (word ++ w.after), length-append word w.after, w.its_start)

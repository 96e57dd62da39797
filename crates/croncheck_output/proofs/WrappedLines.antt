-- Lines of a text: word by word they are the whole text, and none is too long but a word.
use Rattle.std.proofs.Common.{◌≡◌, ◌∙◌, ◌<◌, ◌+◌, ◌&&◌, ◌||◌, ℕ, Bool, true, false, List, [], ◌∷◌, ◌++◌, Option, Some, None, length, drop, get_or, append_assoc, ap, sym, refl, arith}
use Rattle.std.proofs.lemmas.Bool.{true≢false}
use Rattle.std.proofs.lemmas.List.{append-nil, length-append, at_drop_more, at_drop_all}
use Rattle.std.proofs.lemmas.List.Splits.{join_with_byte-slice_split}
use Rattle.std.specs.Prelude.{◌==◌, nat_le}
use Rattle.std.specs.List.{list_all, join_with_byte, onto_first}
use Rattle.croncheck_output.specs.Wrapped.{words_of, with_word, fits, lines_from, lines_of, joined, is_word, is_within}
use Rattle.croncheck_output.specs.Private.Wrapping.{takes, front_of, length_with_word, pieces}

-- ---- there is a line

-- there are some lines
abbrev AreSome : List (List ℕ) → Type 0
AreSome all = (l : List ℕ) × (ls : List (List ℕ)) × (all ≡ l ∷ ls)

some_by : (most : ℕ) (line w : List ℕ) (ws : List (List ℕ)) (b : Bool) → fits most (with_word line w) ≡ b → AreSome (lines_from most (with_word line w) ws)
    → AreSome (lines_from most line (w ∷ ws))
some_by most line w ws true e h = (h.0, h.1, rw e h.2)
some_by most line w ws false e h = (line, lines_from most w ws, rw e refl)

some_lines : (most : ℕ) (line : List ℕ) (ws : List (List ℕ)) → AreSome (lines_from most line ws)
some_lines most line [] = (line, [], refl)
some_lines most line (w ∷ ws) = some_by most line w ws (fits most (with_word line w)) refl (some_lines most (with_word line w) ws)

joined_some : (between line : List ℕ) (all : List (List ℕ)) → AreSome all → joined between (line ∷ all) ≡ line ++ (between ++ joined between all)
joined_some between line all h = rw h.2 refl

spaced_some : (line : List ℕ) (all : List (List ℕ)) → AreSome all → join_with_byte 32 (line ∷ all) ≡ line ++ (32 ∷ join_with_byte 32 all)
spaced_some line all h = rw h.2 refl

-- ---- word by word

length_with : (line w : List ℕ) → length (with_word line w) ≡ length line + (1 + length w)
length_with line w =
    let one : length (32 ∷ w) ≡ 1 + length w = omega arith in
    length-append line (32 ∷ w) ∙ ap (λ n. length line + n) one

taken : (most : ℕ) (line w : List ℕ) (b : Bool) → fits most (with_word line w) ≡ b → takes most (length line) w ≡ b
taken most line w b e = ap (λ n. nat_le n most) (sym (length_with line w)) ∙ e

joined_by : (most : ℕ) (between line w : List ℕ) (ws : List (List ℕ)) (b : Bool) → fits most (with_word line w) ≡ b
    → joined between (lines_from most (with_word line w) ws) ≡ with_word line w ++ pieces most between (Some (length (with_word line w))) ws
    → joined between (lines_from most w ws) ≡ w ++ pieces most between (Some (length w)) ws
    → joined between (lines_from most line (w ∷ ws)) ≡ line ++ pieces most between (Some (length line)) (w ∷ ws)
joined_by most between line w ws true e on next =
    rw (e, taken most line w true e)
    (on ∙ ap (λ n. with_word line w ++ pieces most between (Some n) ws) (length_with line w)
    ∙ append_assoc line (32 ∷ w) (pieces most between (Some (length line + (1 + length w))) ws))
joined_by most between line w ws false e on next =
    rw (e, taken most line w false e)
    (joined_some between line (lines_from most w ws) (some_lines most w ws) ∙ ap (λ r. line ++ (between ++ r)) next)

pieces_joined : (most : ℕ) (between line : List ℕ) (ws : List (List ℕ))
    → joined between (lines_from most line ws) ≡ line ++ pieces most between (Some (length line)) ws
pieces_joined most between line [] = sym (append-nil line)
pieces_joined most between line (w ∷ ws) =
    joined_by most between line w ws (fits most (with_word line w)) refl (pieces_joined most between (with_word line w) ws) (pieces_joined most between w ws)

-- the pieces of all words are the lines
pub pieces_of_all : (most : ℕ) (between : List ℕ) (words : List (List ℕ)) → pieces most between None words ≡ joined between (lines_of most words)
pieces_of_all most between [] = refl
pieces_of_all most between (w ∷ ws) = sym (pieces_joined most between w ws)

-- ---- in order

order_by : (most : ℕ) (line w : List ℕ) (ws : List (List ℕ)) (b : Bool) → fits most (with_word line w) ≡ b
    → join_with_byte 32 (lines_from most (with_word line w) ws) ≡ join_with_byte 32 (with_word line w ∷ ws)
    → join_with_byte 32 (lines_from most w ws) ≡ join_with_byte 32 (w ∷ ws)
    → join_with_byte 32 (with_word line w ∷ ws) ≡ join_with_byte 32 (line ∷ w ∷ ws)
    → join_with_byte 32 (lines_from most line (w ∷ ws)) ≡ join_with_byte 32 (line ∷ w ∷ ws)
order_by most line w ws true e on next one = rw e (on ∙ one)
order_by most line w ws false e on next one = rw e (spaced_some line (lines_from most w ws) (some_lines most w ws) ∙ ap (λ r. line ++ (32 ∷ r)) next)

one_line : (line w : List ℕ) (ws : List (List ℕ)) → join_with_byte 32 (with_word line w ∷ ws) ≡ join_with_byte 32 (line ∷ w ∷ ws)
one_line line w [] = refl
one_line line w (x ∷ xs) = append_assoc line (32 ∷ w) (32 ∷ join_with_byte 32 (x ∷ xs))

order_from : (most : ℕ) (line : List ℕ) (ws : List (List ℕ)) → join_with_byte 32 (lines_from most line ws) ≡ join_with_byte 32 (line ∷ ws)
order_from most line [] = refl
order_from most line (w ∷ ws) =
    order_by most line w ws (fits most (with_word line w)) refl (order_from most (with_word line w) ws) (order_from most w ws) (one_line line w ws)

order_of : (most : ℕ) (words : List (List ℕ)) → join_with_byte 32 (lines_of most words) ≡ join_with_byte 32 words
order_of most [] = refl
order_of most (w ∷ ws) = order_from most w ws

-- the lines, with a space between each two, are the text
pub lines_in_order : (most : ℕ) (text : List ℕ) → join_with_byte 32 (lines_of most (words_of text)) ≡ text
lines_in_order most text = order_of most (words_of text) ∙ join_with_byte-slice_split 32 text

-- ---- none is too long

-- the pieces of a text have no space
with_first : (b : ℕ) (parts : List (List ℕ)) → (b == 32) ≡ false → list_all is_word parts ≡ true → list_all is_word (onto_first b parts) ≡ true
with_first b [] other all = rw other refl
with_first b (p ∷ ps) other all = rw other all

words_by : (b : ℕ) (bs : List ℕ) (is_space : Bool) → (b == 32) ≡ is_space → list_all is_word (words_of bs) ≡ true → list_all is_word (words_of (b ∷ bs)) ≡ true
words_by b bs true is all = rw is all
words_by b bs false is all = rw is (with_first b (words_of bs) is all)

all_words : (text : List ℕ) → list_all is_word (words_of text) ≡ true
all_words [] = refl
all_words (b ∷ bs) = words_by b bs (b == 32) refl (all_words bs)

or_so : (a b : Bool) → b ≡ true → (a || b) ≡ true
or_so true b is = refl
or_so false b is = is

left_so : (a b : Bool) → (a && b) ≡ true → a ≡ true
left_so true b is = refl
left_so false b is = is

right_so : (a b : Bool) → (a && b) ≡ true → b ≡ true
right_so true b is = is
right_so false b is = absurd (true≢false (sym is))

within_by : (most : ℕ) (line w : List ℕ) (ws : List (List ℕ)) (b : Bool) → fits most (with_word line w) ≡ b → is_within most line ≡ true
    → (is_within most (with_word line w) ≡ true → list_all (is_within most) (lines_from most (with_word line w) ws) ≡ true)
    → list_all (is_within most) (lines_from most w ws) ≡ true
    → list_all (is_within most) (lines_from most line (w ∷ ws)) ≡ true
within_by most line w ws true e is on next = rw e (on (ap (λ b. b || is_word (with_word line w)) e))
within_by most line w ws false e is on next = rw (e, is) next

within_from : (most : ℕ) (line : List ℕ) (ws : List (List ℕ)) → is_within most line ≡ true → list_all is_word ws ≡ true
    → list_all (is_within most) (lines_from most line ws) ≡ true
within_from most line [] is all = rw is refl
within_from most line (w ∷ ws) is all =
    let word : is_word w ≡ true = left_so (is_word w) (list_all is_word ws) all in
    let rest : list_all is_word ws ≡ true = right_so (is_word w) (list_all is_word ws) all in
    within_by most line w ws (fits most (with_word line w)) refl is (λ one. within_from most (with_word line w) ws one rest)
    (within_from most w ws (or_so (fits most w) (is_word w) word) rest)

within_of : (most : ℕ) (words : List (List ℕ)) → list_all is_word words ≡ true → list_all (is_within most) (lines_of most words) ≡ true
within_of most [] all = refl
within_of most (w ∷ ws) all =
    within_from most w ws (or_so (fits most w) (is_word w) (left_so (is_word w) (list_all is_word ws) all)) (right_so (is_word w) (list_all is_word ws) all)

-- no line is too long, unless it is one word
pub lines_within : (most : ℕ) (text : List ℕ) → list_all (is_within most) (lines_of most (words_of text)) ≡ true
lines_within most text = within_of most (words_of text) (all_words text)

-- ---- a word more

word_put : (most : ℕ) (between old new : List ℕ) (used : Option ℕ) (w : List ℕ) (ws : List (List ℕ)) (front : List ℕ) (n : ℕ) (whole : List ℕ)
    → new ≡ old ++ (front ++ w) → front ≡ front_of most between used w → n ≡ length_with_word most used w → old ++ pieces most between used (w ∷ ws) ≡ whole
    → new ++ pieces most between (Some n) ws ≡ whole
word_put most between old new used w ws front n whole is front_is n_is h =
    let P = pieces most between (Some (length_with_word most used w)) ws in
    rw (is, front_is, n_is)
    (append_assoc old (front_of most between used w ++ w) P ∙ ap (λ r. old ++ r) (append_assoc (front_of most between used w) w P) ∙ h)

-- the next word was put after the others
pub next_word_put : (most : ℕ) (between old new : List ℕ) (used : Option ℕ) (words : List (List ℕ)) (k : ℕ) (w front : List ℕ) (n : ℕ) (whole : List ℕ)
    → k < length words → w ≡ get_or words k w → new ≡ old ++ (front ++ w) → front ≡ front_of most between used w → n ≡ length_with_word most used w
    → old ++ pieces most between used (drop k words) ≡ whole → new ++ pieces most between (Some n) (drop (k + 1) words) ≡ whole
next_word_put most between old new used words k w front n whole within at is front_is n_is h =
    word_put most between old new used w (drop (k + 1) words) front n whole is front_is n_is
    (ap (λ r. old ++ r)
    (ap (λ x. pieces most between used (x ∷ drop (k + 1) words)) at ∙ sym (at_drop_more (pieces most between used) words k w within)) ∙ h)

-- all words were put
pub all_words_put : (most : ℕ) (between done : List ℕ) (used : Option ℕ) (words : List (List ℕ)) (k : ℕ) (whole : List ℕ) → k ≡ length words
    → done ++ pieces most between used (drop k words) ≡ whole → done ≡ whole
all_words_put most between done used words k whole all h =
    sym (append-nil done) ∙ ap (λ r. done ++ r) (sym (at_drop_all (pieces most between used) words k (omega (arith, all)))) ∙ h

-- Folded lines: how long each is, and what they are without their folds.
use Rattle.std.proofs.Common.{◌≡◌, ℕ, suc, ◌+◌, ◌≤◌, ◌==◌, ◌&&◌, Bool, true, false, cond, List, [], ◌∷◌, ◌++◌, length, IsUtf8, append_assoc, ap, sym, ◌∙◌, refl, arith}
use Rattle.std.specs.Prelude.{nat_lt, not}
use Rattle.std.specs.Char.{encode_utf8, len_utf8}
use Rattle.std.specs.List.{list_all}
use Rattle.std.specs.Str.{chars, encode_utf8_all}
use Rattle.std.proofs.lemmas.Bool.{and_parts, false≢true}
use Rattle.std.proofs.lemmas.Bool.Decides.{nat_tests}
use Rattle.std.proofs.lemmas.List.{append-nil}
use Rattle.std.proofs.lemmas.List.Folds.{list_all-append}
use Rattle.std.proofs.lemmas.Str.{encodes-chars, length-encode, len_utf8_bounds}
use Rattle.cronplan_forms.specs.ContentLines.{line_end, fold_text, is_full, placed, used_with, folded, content_line, unfolded, are_short, is_no_return}

-- ---- lengths

both : (x y : Bool) → x ≡ true → y ≡ true → (x && y) ≡ true
both x y h k = rw h k

of_two : (b : Bool) (x y : Bool) → x ≡ true → y ≡ true → cond b x y ≡ true
of_two true x y h k = h
of_two false x y h k = k

same_line : (t x y z : Bool) → (y ≡ true → z ≡ true) → cond t x y ≡ true → cond t x z ≡ true
same_line true x y z h k = k
same_line false x y z h k = h k

-- fewer bytes before the first line are no worse
fewer : (bs : List ℕ) (n m : ℕ) → n ≤ m → are_short m bs ≡ true → are_short n bs ≡ true
fewer [] n m h k = refl
fewer (b ∷ bs) n m h k =
    let parts = and_parts (nat_lt m 77) _ k in
    let first : nat_lt m 77 ≡ true = parts.0 in
    let less : nat_lt n 77 ≡ true = grind (arith, nat_tests) in
    both (nat_lt n 77) _ less (same_line (b == 10) _ _ _ (fewer bs (suc n) (suc m) (omega (arith, h))) parts.1)

-- bytes that find room, before short lines
after_bytes : (bs rest : List ℕ) (n m : ℕ) → n + length bs ≡ m → m ≤ 75 → are_short m rest ≡ true → are_short n (bs ++ rest) ≡ true
after_bytes [] rest n m e h k = fewer rest n m (omega (arith, e)) k
after_bytes (b ∷ bs) rest n m e h k =
    let less : nat_lt n 77 ≡ true = grind (arith, nat_tests, e, h) in
    let same : suc n + length bs ≡ m = omega (arith, e) in
    let anew : are_short (length bs) rest ≡ true = fewer rest (length bs) m (omega (arith, e)) k in
    both (nat_lt n 77) _ less
    (of_two (b == 10) _ _ (after_bytes bs rest 0 (length bs) (omega arith) (omega (arith, e, h)) anew) (after_bytes bs rest (suc n) m same h k))

size_of : (c n : ℕ) → n + length (encode_utf8 c) ≡ n + len_utf8 c
size_of c n = ap (λ k. n + k) (length-encode c)

-- a fold after so many bytes, and a line that begins with its space
after_fold : (rest : List ℕ) (n : ℕ) → n ≤ 75 → are_short 1 rest ≡ true → are_short n (fold_text ++ rest) ≡ true
after_fold rest n h k =
    let first : nat_lt n 77 ≡ true = grind (arith, nat_tests) in
    let second : nat_lt (suc n) 77 ≡ true = grind (arith, nat_tests) in
    both (nat_lt n 77) _ first (both (nat_lt (suc n) 77) _ second k)

one_short : (t : Bool) (c n : ℕ) (rest : List ℕ) → n ≤ 75 → is_full n c ≡ t → are_short (cond t (1 + len_utf8 c) (n + len_utf8 c)) rest ≡ true
    → are_short n (cond t (fold_text ++ encode_utf8 c) (encode_utf8 c) ++ rest) ≡ true
one_short true c n rest h full k =
    let few : 1 + len_utf8 c ≤ 75 = omega (arith, len_utf8_bounds c) in
    after_fold (encode_utf8 c ++ rest) n h (after_bytes (encode_utf8 c) rest 1 (1 + len_utf8 c) (size_of c 1) few k)
one_short false c n rest h full k =
    let few : n + len_utf8 c ≤ 75 = grind (arith, nat_tests, full) in
    after_bytes (encode_utf8 c) rest n (n + len_utf8 c) (size_of c n) few k

room : (t : Bool) (c n : ℕ) → is_full n c ≡ t → cond t (1 + len_utf8 c) (n + len_utf8 c) ≤ 75
room true c n full = omega (arith, len_utf8_bounds c)
room false c n full = grind (arith, nat_tests, full)

all_short : (cs : List ℕ) (n : ℕ) → n ≤ 75 → are_short n (folded n cs ++ line_end) ≡ true
all_short [] n h =
    let first : nat_lt n 77 ≡ true = grind (arith, nat_tests) in
    let second : nat_lt (suc n) 77 ≡ true = grind (arith, nat_tests) in
    both (nat_lt n 77) _ first (both (nat_lt (suc n) 77) _ second refl)
all_short (c ∷ cs) n h =
    let next : used_with n c ≤ 75 = room (is_full n c) c n refl in
    let rest = all_short cs (used_with n c) next in
    ap (are_short n) (append_assoc (placed n c) (folded (used_with n c) cs) line_end) ∙ (one_short (is_full n c) c n (folded (used_with n c) cs ++ line_end) h refl rest)

-- each line of the file is short
pub short : (line : List ℕ) → are_short 0 (content_line line) ≡ true
unfolding content_line
short line = all_short (chars line) 0 (omega arith)

-- ---- without the folds

-- bytes without a carriage return stay
stays : (bs rest : List ℕ) → list_all is_no_return bs ≡ true → unfolded (bs ++ rest) ≡ bs ++ unfolded rest
stays [] rest h = refl
stays (b ∷ bs) rest h =
    let parts = and_parts (is_no_return b) (list_all is_no_return bs) h in
    let other : (b == 13) ≡ false = not_true (b == 13) parts.0 in
    rw other (ap (λ l. b ∷ l) (stays bs rest parts.1)) where
      not_true : (t : Bool) → not t ≡ true → t ≡ false
      not_true false e = refl
      not_true true e = absurd (false≢true e)

one_whole : (t : Bool) (c : ℕ) (rest : List ℕ) → list_all is_no_return (encode_utf8 c) ≡ true
    → unfolded (cond t (fold_text ++ encode_utf8 c) (encode_utf8 c) ++ rest) ≡ encode_utf8 c ++ unfolded rest
one_whole true c rest h = stays (encode_utf8 c) rest h
one_whole false c rest h = stays (encode_utf8 c) rest h

all_whole : (cs : List ℕ) (n : ℕ) → list_all is_no_return (encode_utf8_all cs) ≡ true → unfolded (folded n cs ++ line_end) ≡ encode_utf8_all cs ++ line_end
all_whole [] n h = refl
all_whole (c ∷ cs) n h =
    let parts = and_parts (list_all is_no_return (encode_utf8 c)) (list_all is_no_return (encode_utf8_all cs))
    (sym (list_all-append is_no_return (encode_utf8 c) (encode_utf8_all cs)) ∙ h) in
    ap unfolded (append_assoc (placed n c) (folded (used_with n c) cs) line_end)
    ∙ one_whole (is_full n c) c (folded (used_with n c) cs ++ line_end) parts.0
    ∙ ap (λ l. encode_utf8 c ++ l) (all_whole cs (used_with n c) parts.1)
    ∙ sym (append_assoc (encode_utf8 c) (encode_utf8_all cs) line_end)

-- without its folds a line is as it was
pub whole : (line : List ℕ) → IsUtf8 line → list_all is_no_return line ≡ true → unfolded (content_line line) ≡ line ++ line_end
unfolding content_line
whole line utf8 h =
    let same : encode_utf8_all (chars line) ≡ line = encodes-chars line utf8 in
    all_whole (chars line) 0 (ap (list_all is_no_return) same ∙ h) ∙ ap (λ l. l ++ line_end) same

-- ---- the loop

pub one_more : (new done all cs es : List ℕ) (used next c : ℕ) → new ≡ done ++ placed used c → cs ≡ c ∷ es → next ≡ used_with used c
    → done ++ folded used cs ≡ all → new ++ folded next es ≡ all
one_more new done all cs es used next c n e m h =
    ap (λ x. x ++ folded next es) n ∙ ap (λ k. (done ++ placed used c) ++ folded k es) m
    ∙ append_assoc done (placed used c) (folded (used_with used c) es) ∙ sym (ap (λ x. done ++ folded used x) e) ∙ h

pub no_more : (old done cs all : List ℕ) (used : ℕ) → cs ≡ [] → done ++ folded used cs ≡ old ++ all → done ++ line_end ≡ old ++ (all ++ line_end)
no_more old done cs all used e h =
    ap (λ x. x ++ line_end) (sym (append-nil done) ∙ sym (ap (λ x. done ++ folded used x) e) ∙ h) ∙ append_assoc old all line_end

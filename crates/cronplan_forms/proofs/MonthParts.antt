-- The parts of a month's grid, one after the other.
use Rattle.std.proofs.Common.{◌≡◌, ◌∙◌, ℕ, zero, suc, ◌+◌, ◌-◌, ◌<◌, ◌≤◌, Bool, true, false, ◌||◌, inl, inr, List, [], ◌∷◌, ◌++◌, length, get_or, drop, take, replicate, append_assoc, refl, ap, sym, arith, nat_le}
use Rattle.std.specs.Fmt.{decimal, styled_decimal, padded_integral, format_spec, char_count}
use Rattle.std.specs.List.{flat_map, list_any, range_with_len, repeat}
use Rattle.std.specs.Prelude.{codes, encode_utf8}
use Rattle.std.specs.Str.{chars}
use Rattle.std.proofs.lemmas.Bool.{cases_eq, cond-true, cond-false, le-leb, lt-leb, or_left, or_right}
use Rattle.std.proofs.lemmas.List.{append-nil, at_drop_more, take_all}
use Rattle.std.proofs.lemmas.List.Concat.{flat_map-append}
use Rattle.std.proofs.lemmas.Str.{encode_ascii}
use Rattle.cronplan_forms.specs.declared.month.Daily.{Daily}
use Rattle.cronplan_forms.specs.Months.{character_text, cut_text, fill, date_cell, left_cell, daily_line}

-- ---- numbers one after the other

range-suc : (a n : ℕ) → range_with_len a (suc n) ≡ range_with_len a n ++ (a + n) ∷ []
range-suc a zero = ap (λ (k : ℕ). k ∷ []) (omega arith)
range-suc a (suc n) = ap (λ (ks : List ℕ). a ∷ ks) (range-suc (a + 1) n ∙ ap (λ (k : ℕ). range_with_len (a + 1) n ++ k ∷ []) (omega arith))

range_more : (a n : ℕ) → range_with_len a (n + 1) ≡ range_with_len a n ++ (a + n) ∷ []
range_more a n = let same : n + 1 ≡ suc n = omega arith in ap (range_with_len a) same ∙ range-suc a n

-- one number more
step : (f : ℕ → List ℕ) (n : ℕ) → flat_map f (range_with_len 0 (n + 1)) ≡ flat_map f (range_with_len 0 n) ++ f n
step f n =
    ap (flat_map f) (range_more 0 n) ∙ flat_map-append f (range_with_len 0 n) ((0 + n) ∷ [])
    ∙ ap (λ (bs : List ℕ). flat_map f (range_with_len 0 n) ++ bs) (append-nil (f (0 + n)) ∙ ap f (omega arith))

pub more : (f : ℕ → List ℕ) (n : ℕ) (old done new : List ℕ) → done ≡ old ++ flat_map f (range_with_len 0 n) → new ≡ done ++ f n
    → new ≡ old ++ flat_map f (range_with_len 0 (n + 1))
more f n old done new h e =
    e ∙ ap (λ (bs : List ℕ). bs ++ f n) h ∙ append_assoc old (flat_map f (range_with_len 0 n)) (f n) ∙ ap (λ (bs : List ℕ). old ++ bs) (sym (step f n))

-- what holds of one of the numbers, or of none
list_any-append : (f : ℕ → Bool) (xs : List ℕ) (k : ℕ) → list_any f (xs ++ k ∷ []) ≡ (list_any f xs || f k)
list_any-append f [] k = at (f k) where
  at : (b : Bool) → (b || false) ≡ b
  at true = refl
  at false = refl
list_any-append f (x ∷ xs) k = at (f x) (list_any-append f xs k) where
  at : (b : Bool) → list_any f (xs ++ k ∷ []) ≡ (list_any f xs || f k) → (b || list_any f (xs ++ k ∷ [])) ≡ ((b || list_any f xs) || f k)
  at true e = refl
  at false e = e

pub any_more : (f : ℕ → Bool) (n : ℕ) → list_any f (range_with_len 0 (n + 1)) ≡ (list_any f (range_with_len 0 n) || f n)
any_more f n = ap (list_any f) (range_more 0 n) ∙ list_any-append f (range_with_len 0 n) (0 + n) ∙ ap (λ (k : ℕ). list_any f (range_with_len 0 n) || f k) (omega arith)

pub any_none : (f : ℕ → Bool) (n : ℕ) → list_any f (range_with_len 0 n) ≡ false → f n ≡ false → list_any f (range_with_len 0 (n + 1)) ≡ false
any_none f n e h = any_more f n ∙ ap (λ (b : Bool). b || f n) e ∙ h

pub any_one : (f : ℕ → Bool) (n k : ℕ) → k < n → f k ≡ true → list_any f (range_with_len 0 n) ≡ true
any_one f zero k h e = absurd (omega arith)
any_one f (suc n) k h e =
    let same : suc n ≡ n + 1 = omega arith in
    ap (λ (i : ℕ). list_any f (range_with_len 0 i)) same ∙ any_more f n
    ∙ elim (cases_eq k n) [
      | inl same ↦ or_right (list_any f (range_with_len 0 n)) (f n) (ap f (sym same) ∙ e)
      | inr other ↦ or_left (list_any f (range_with_len 0 n)) (f n) (any_one f n k (omega arith) e)
    ]

-- ---- cells

repeated : (n : ℕ) → repeat n (encode_utf8 32) ≡ replicate n 32
repeated zero = refl
repeated (suc n) = ap (λ (bs : List ℕ). bs ++ repeat n (encode_utf8 32)) (encode_ascii 32 (omega arith)) ∙ ap (λ (bs : List ℕ). 32 ∷ bs) (repeated n)

-- what a hole with a width and its number to the left writes
padded_left : (w : ℕ) (text : List ℕ) → padded_integral (format_spec 32 1 0 w 18446744073709551615) false [] text ≡ text ++ replicate (w - length text) 32
unfolding padded_integral char_count
padded_left w text =
    let e : w - length text - 0 - 0 - 0 ≡ w - length text = omega arith in
    rw e (ap (λ (bs : List ℕ). text ++ bs) (repeated (w - length text)))

pub date_written : (date : ℕ) → styled_decimal (format_spec 32 1 0 10 18446744073709551615) date ≡ date_cell date
unfolding date_cell fill
date_written date = padded_left 10 (decimal date)

pub left_written : (count : ℕ) → 3 < count → codes "+" ++ styled_decimal (format_spec 32 1 0 9 18446744073709551615) (count - 3) ≡ left_cell count
unfolding left_cell fill
left_written count h =
    let digits : List ℕ = decimal (count - 3) in
    let same : 9 - length digits ≡ 10 - (1 + length digits) = omega arith in
    ap (λ (bs : List ℕ). codes "+" ++ bs) (padded_left 9 digits ∙ ap (λ (n : ℕ). digits ++ replicate n 32) same)
    ∙ sym (cond-false (nat_le count 3) (replicate 10 32) (codes "+" ++ (digits ++ replicate (10 - (1 + length digits)) 32)) (lt-leb count 3 h))

pub none_left : (count : ℕ) → count ≤ 3 → fill 0 ≡ left_cell count
unfolding left_cell
none_left count h = sym (cond-true (nat_le count 3) (fill 0) (codes "+" ++ (decimal (count - 3) ++ fill (1 + length (decimal (count - 3))))) (le-leb count 3 h))

-- ---- texts

pub cut_whole : (most : ℕ) (text : List ℕ) → length (chars text) ≤ most → cut_text most text ≡ flat_map character_text (take most (chars text))
unfolding cut_text
cut_whole most text h =
    ap (flat_map character_text) (cond-true (nat_le (length (chars text)) most) (chars text) (take (most - 1) (chars text) ++ 126 ∷ []) (le-leb (length (chars text)) most h)
    ∙ sym (take_all most (chars text) h))

tilde : flat_map character_text (126 ∷ []) ≡ codes "~"
tilde = append-nil (encode_utf8 126) ∙ encode_ascii 126 (omega arith)

pub cut_short : (most : ℕ) (text : List ℕ) → most < length (chars text) → cut_text most text ≡ flat_map character_text (take (most - 1) (chars text)) ++ codes "~"
unfolding cut_text
cut_short most text h =
    ap (flat_map character_text) (cond-false (nat_le (length (chars text)) most) (chars text) (take (most - 1) (chars text) ++ 126 ∷ []) (lt-leb (length (chars text)) most h))
    ∙ flat_map-append character_text (take (most - 1) (chars text)) (126 ∷ []) ∙ ap (λ (bs : List ℕ). flat_map character_text (take (most - 1) (chars text)) ++ bs) tilde

-- one character more of a text
pub one_more : (new done all cs es : List ℕ) (left next c : ℕ) → new ≡ done ++ flat_map character_text (take left (c ∷ [])) → cs ≡ c ∷ es → next ≡ left - 1
    → done ++ flat_map character_text (take left cs) ≡ all → new ++ flat_map character_text (take next es) ≡ all
one_more new done all cs es left next c n e m h =
    ap (λ (bs : List ℕ). bs ++ flat_map character_text (take next es)) n ∙ append_assoc done (flat_map character_text (take left (c ∷ []))) (flat_map character_text (take next es))
    ∙ ap (λ (bs : List ℕ). done ++ bs) (ap (λ (k : ℕ). flat_map character_text (take left (c ∷ [])) ++ flat_map character_text (take k es)) m ∙ parts left)
    ∙ sym (ap (λ (xs : List ℕ). done ++ flat_map character_text (take left xs)) e) ∙ h where
      nothing : (k : ℕ) → flat_map character_text (take k []) ≡ []
      nothing zero = refl
      nothing (suc k) = refl

      parts : (k : ℕ) → flat_map character_text (take k (c ∷ [])) ++ flat_map character_text (take (k - 1) es) ≡ flat_map character_text (take k (c ∷ es))
      parts zero = refl
      parts (suc k) =
          ap (λ (bs : List ℕ). (character_text c ++ bs) ++ flat_map character_text (take (suc k - 1) es)) (nothing k)
          ∙ ap (λ (bs : List ℕ). bs ++ flat_map character_text (take (suc k - 1) es)) (append-nil (character_text c))
          ∙ ap (λ (i : ℕ). character_text c ++ flat_map character_text (take i es)) (omega arith)

pub no_more : (done all cs : List ℕ) (left : ℕ) → cs ≡ [] → done ++ flat_map character_text (take left cs) ≡ all → done ≡ all
no_more done all cs left e h = sym (append-nil done) ∙ ap (λ (bs : List ℕ). done ++ bs) (sym (nothing left)) ∙ sym (ap (λ (xs : List ℕ). done ++ flat_map character_text (take left xs)) e) ∙ h where
  nothing : (k : ℕ) → flat_map character_text (take k []) ≡ []
  nothing zero = refl
  nothing (suc k) = refl

-- ---- what starts on every day

pub daily_step : (xs : List Daily) (i : ℕ) (x : Daily) → i < length xs → x ≡ get_or xs i x → flat_map daily_line (drop i xs) ≡ daily_line x ++ flat_map daily_line (drop (i + 1) xs)
daily_step xs i x h is = at_drop_more (flat_map daily_line) xs i x h ∙ ap (λ (y : Daily). daily_line y ++ flat_map daily_line (drop (i + 1) xs)) (sym is)

-- The parts of a word, as the functions of texts give them.
use Rattle.std.proofs.Common.{◌≡◌, ◌∙◌, ℕ, ◌<◌, Bool, true, false, sym, ap, refl, inl, inr, arith, List, [], ◌∷◌, ◌++◌, length, take, drop, get_or}
use Rattle.std.proofs.Math.Seq.{take-append_seam}
use Rattle.std.specs.Ordering.{int_eq}
use Rattle.std.specs.Prelude.{ℤ, pos, ◌<ℤ◌, ◌≤ℤ◌, int_lt, unsigned_abs, ◌==◌, ◌||◌, ◌⊎◌, ◌↔◌, codes, IsSome, Option, Some, None, MatchOption, option_map}
use Rattle.std.specs.Char.{to_ascii_lowercase}
use Rattle.std.specs.Borrow.{Bor}
use Rattle.std.specs.List.{position_or_len}
use Rattle.std.specs.Str.{bytes_eq, str_to_ascii_lowercase, IsUtf8, IsCharBoundary}
use Rattle.std.specs.Str.Pattern.{FindsChar, FindsTextPrefix, SplitsAtFirstByte, StripsPrefix}
use Rattle.std.proofs.lemmas.Bool.{eq-eqb, ne_eqb, false≢true}
use Rattle.std.proofs.lemmas.Bool.Decides.{nat_tests, Decides-int_eq}
use Rattle.std.proofs.lemmas.Int.{ints}
use Rattle.std.proofs.lemmas.List.{take-append-drop}
use Rattle.std.proofs.lemmas.Slice.Eq.{bytes_eq-Decides}
use Rattle.std.proofs.lemmas.Str.{IsCharBoundary-after_ascii}
use Rattle.croner_base.proofs.tables.TableTests.{not_true, lt_test}
use Rattle.croncheck_runs.specs.Length.{length_text}
use Rattle.croncheck_moments.specs.Zone.{without_front, without_sign, split_at, split_view, is_utc_name, utc_and_hours, behind_text, ahead_text, note_text, note_of}

pub split_once : (c : ℕ) (s : List ℕ) (r : Option (Bor (List ℕ) × Bor (List ℕ))) → SplitsAtFirstByte (FindsChar c) (Some c) s r → c < 128 → split_view r ≡ split_at c s
unfolding split_at
split_once c s None h low =
    let end : position_or_len (λ b. b == c) s ≡ length s = h low (λ w o is. is) in
    let test : (position_or_len (λ b. b == c) s == length s) ≡ true = eq-eqb _ _ end in
    rw test refl
split_once c s (Some x) h low =
    let parts = h low (λ w o is. is) in
    let test : (position_or_len (λ b. b == c) s == length s) ≡ false = ne_eqb _ _ (λ end. omega (arith, end, parts.2)) in
    rw (test, parts.0, parts.1) refl

pub strip_prefix : (p s : List ℕ) (r : Option (Bor (List ℕ))) → MatchOption r (FindsTextPrefix p s None) (λ x. StripsPrefix (FindsTextPrefix p) s x.now)
    → option_map (λ x. x.now) r ≡ without_front p s
unfolding without_front
strip_prefix p s None lacks =
    let test : bytes_eq (take (length p) s) p ≡ false =
    not_true _ (λ yes. lacks (drop (length p) s) (sym (take-append-drop (length p) s) ∙ ap (λ l. l ++ drop (length p) s) ((bytes_eq-Decides _ _).0 yes))) in
    rw test refl
strip_prefix p s (Some x) h =
    let front : take (length p) s ≡ p = ap (λ l. take (length p) l) h.1.1 ∙ take-append_seam p (drop h.0 s) in
    let test : bytes_eq (take (length p) s) p ≡ true = (bytes_eq-Decides _ _).1 front in
    rw test (ap (λ l. Some l) (h.2 ∙ ap (λ n. drop n s) h.1.0))

-- ---- the name of UTC

-- a byte that becomes one of ASCII as a small letter is one
ascii_before : (c d : ℕ) → to_ascii_lowercase c ≡ d → d < 128 → c < 128
ascii_before c d is small = grind (arith, nat_tests)

-- a text of whose first three bytes this is so, that are three
three_of : (s : List ℕ) (p q r : ℕ) → str_to_ascii_lowercase (take 3 s) ≡ p ∷ q ∷ r ∷ [] → r < 128 → (2 < length s) × (get_or s 2 0 < 128)
three_of [] p q r is small = absurd (cc)
three_of (a ∷ []) p q r is small = absurd (cc)
three_of (a ∷ b ∷ []) p q r is small = absurd (cc)
three_of (a ∷ b ∷ c ∷ rest) p q r is small = (omega arith, ascii_before c r (cc) small)

one_of : (a b : Bool) → (a || b) ≡ true → (a ≡ true) ⊎ (b ≡ true)
one_of true b h = inl refl
one_of false b h = inr h

named : (s : List ℕ) → is_utc_name (take 3 s) ≡ true → (2 < length s) × (get_or s 2 0 < 128)
named s h = elim (one_of (bytes_eq (str_to_ascii_lowercase (take 3 s)) (codes "gmt")) (bytes_eq (str_to_ascii_lowercase (take 3 s)) (codes "utc")) h) [
  | inl gmt ↦ three_of s 103 109 116 ((bytes_eq-Decides _ _).0 gmt) (omega arith)
  | inr utc ↦ three_of s 117 116 99 ((bytes_eq-Decides _ _).0 utc) (omega arith)
]

none_is_none : {A : Type 0} (r : Option A) → r ≡ None → IsSome r → ⊥
none_is_none None is some = false≢true some
none_is_none (Some x) is some = absurd (cc)

-- a text that can't be cut after three bytes doesn't begin with that name
pub no_name : (s : List ℕ) (r : Option (Bor (List ℕ) × Bor (List ℕ))) → IsUtf8 s → (IsSome r ↔ IsCharBoundary s 3) → r ≡ None → None ≡ utc_and_hours s
no_name s r text cuts none =
    let other : is_utc_name (take 3 s) ≡ false = not_true _ (λ yes.
    let third = named s yes in
    none_is_none r none (cuts.1 (IsCharBoundary-after_ascii s 2 text third.0 third.1))) in
    rw other refl

-- ---- what is said of a rule of that name

pub said_behind : (name hours digits text : List ℕ) (length : ℕ) (ahead : ℤ) → ahead <ℤ pos 0 → digits ≡ without_sign hours → length ≡ unsigned_abs ahead
    → text ≡ behind_text name hours digits (length_text length) → text ≡ note_text name hours ahead
said_behind name hours digits text length ahead less digits_are length_is is =
    let test : int_lt ahead (pos 0) ≡ true = lt_test ahead (pos 0) less in
    rw test (is ∙ ap (λ (d : List ℕ). behind_text name hours d (length_text length)) digits_are
    ∙ ap (λ (n : ℕ). behind_text name hours (without_sign hours) (length_text n)) length_is)

pub said_ahead : (name hours digits text : List ℕ) (length : ℕ) (ahead : ℤ) → pos 0 ≤ℤ ahead → digits ≡ without_sign hours → length ≡ unsigned_abs ahead
    → text ≡ ahead_text name hours digits (length_text length) → text ≡ note_text name hours ahead
said_ahead name hours digits text length ahead more digits_are length_is is =
    let test : int_lt ahead (pos 0) ≡ false = grind (arith, ints) in
    rw test (is ∙ ap (λ (d : List ℕ). ahead_text name hours d (length_text length)) digits_are
    ∙ ap (λ (n : ℕ). ahead_text name hours (without_sign hours) (length_text n)) length_is)

pub said_of : (word name hours text : List ℕ) (ahead : ℤ) → ¬ (ahead ≡ pos 0) → Some (name, hours) ≡ utc_and_hours word → text ≡ note_text name hours ahead
    → Some text ≡ note_of word ahead
said_of word name hours text ahead off parts is =
    let test : int_eq ahead (pos 0) ≡ false = not_true _ (λ yes. off ((Decides-int_eq ahead (pos 0)).0 yes)) in
    rw (test, sym parts, is) refl

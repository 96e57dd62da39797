-- The words of a text that is raised and trimmed are its words, each raised.
use Rattle.std.proofs.Common.{◌≡◌, ℕ, ◌<◌, true, false, not, eqb, ◌&&◌, List, [], ◌∷◌, ◌++◌, length, map, refl, ap, sym, ◌∙◌, subst, arith, inl, inr}
use Rattle.std.proofs.lemmas.Bool.{false≢true, and_parts, or_from, or_parts, cases_Bool, cond_both, eqb-true, not-false}
use Rattle.std.proofs.lemmas.Bool.Decides.{nat_tests}
use Rattle.std.proofs.lemmas.List.{append_assoc, append-nil, map-append}
use Rattle.std.proofs.lemmas.Str.{chars-encodes, encodes-append, encodes-chars, encodes_same, scalars-chars}
use Rattle.std.specs.Char.{encode_utf8, is_whitespace, is_not_whitespace, to_ascii_uppercase}
use Rattle.std.specs.Str.{IsUtf8, NonePass, NoCharPasses, all_scalars, chars, encode_utf8_all, skip_leading_whitespace, drop_trailing_whitespace, str_to_ascii_uppercase, trim, trim_start, trim_end}
use lib.Utf8.{scalar, low_scalar}
use Rattle.croner_base.specs.Part.{contains_byte}
use Rattle.croner.specs.parser.Words.{AreWords, words}
use Rattle.croner.specs.Private.parser.Places.{Follows}
use Rattle.croner.proofs.parser.OwnCuts.{raised, raised_char}
use Rattle.croner.proofs.parser.Expanded.{no_at_in}
use Rattle.croner.proofs.parser.Trimmed.{begins_white, trim_trims}
use Rattle.croner.proofs.parser.WordLists.{are_words, gap_more, words_are}

-- ---- words after one another

white_scalar : (c : ℕ) → is_whitespace c ≡ true → c < 55296
white_scalar c h = grind (arith, nat_tests)

chars_follow : (gs : List ℕ) → NonePass is_not_whitespace gs → Follows (encode_utf8_all gs)
chars_follow [] h = ([], λ l. absurd (omega (arith, l)))
chars_follow (c ∷ gs) h =
    let white = not-false (is_whitespace c) h.0 in
    (encode_utf8_all gs, λ _. (c, white, refl, low_scalar c (white_scalar c white)))

pub gap_follows : (g : List ℕ) → NoCharPasses is_not_whitespace g → Follows g
gap_follows g h = subst Follows h.1 (chars_follow h.0 h.2)

pub follows_on : (a b : List ℕ) → Follows a → Follows b → Follows (a ++ b)
follows_on [] b f g = g
follows_on (x ∷ a) b f g =
    let k = f.1 (omega arith) in
    (f.0 ++ b, λ _. (k.0, k.1, ap (λ xs. xs ++ b) k.2 ∙ append_assoc (encode_utf8 k.0) f.0 b, k.3))

-- a text after another one has its words after those of the other, where nothing or white space begins it
pub words_on : (a b : List ℕ) (ws vs : List (List ℕ)) → AreWords a ws → AreWords b vs → Follows b → AreWords (a ++ b) (ws ++ vs)
words_on a b [] vs h k f = gap_more a b vs h k
words_on a b (w ∷ ws) vs h k f =
    let s = h.1 in (
      h.0 ++ b,
      record {
        gap = s.gap;
        spells = ap (λ xs. xs ++ b) s.spells ∙ append_assoc s.gap (w ++ h.0) b ∙ ap (λ xs. s.gap ++ xs) (append_assoc w h.0 b);
        some = s.some;
        is_gap = s.is_gap;
        is_word = s.is_word;
        ends = follows_on h.0 b s.ends f;
      },
      words_on h.0 b ws vs h.2 k f,
    )

-- ---- what is raised

lower_raised : (c : ℕ) → is_whitespace (to_ascii_uppercase c) ≡ is_whitespace c
lower_raised c = elim (cases_Bool (is_whitespace c)) [
  | inl white ↦ let same : to_ascii_uppercase c ≡ c = grind (arith, nat_tests, white) in ap is_whitespace same
  | inr other ↦ let still : is_whitespace (to_ascii_uppercase c) ≡ false = grind (arith, nat_tests, other) in still ∙ sym other
]

raised_all : (cs : List ℕ) → encode_utf8_all (map to_ascii_uppercase cs) ≡ str_to_ascii_uppercase (encode_utf8_all cs)
raised_all [] = refl
raised_all (c ∷ cs) =
    ap (λ x. x ++ encode_utf8_all (map to_ascii_uppercase cs)) (sym (raised_char c)) ∙ ap (λ xs. str_to_ascii_uppercase (encode_utf8 c) ++ xs) (raised_all cs)
    ∙ sym (map-append to_ascii_uppercase (encode_utf8 c) (encode_utf8_all cs))

raised_none : (cs : List ℕ) → NonePass is_whitespace cs → NonePass is_whitespace (map to_ascii_uppercase cs)
raised_none [] h = tt
raised_none (c ∷ cs) h = (lower_raised c ∙ h.0, raised_none cs h.1)

raised_gap : (cs : List ℕ) → NonePass is_not_whitespace cs → NonePass is_not_whitespace (map to_ascii_uppercase cs)
raised_gap [] h = tt
raised_gap (c ∷ cs) h = (ap not (lower_raised c) ∙ h.0, raised_gap cs h.1)

gap_raised : (g : List ℕ) → NoCharPasses is_not_whitespace g → NoCharPasses is_not_whitespace (str_to_ascii_uppercase g)
gap_raised g h = (map to_ascii_uppercase h.0, raised_all h.0 ∙ ap str_to_ascii_uppercase h.1, raised_gap h.0 h.2)

raised_scalar : (c : ℕ) → is_whitespace c ≡ true → to_ascii_uppercase c ≡ c
raised_scalar c h = grind (arith, nat_tests)

follows_raised : (rest : List ℕ) → Follows rest → Follows (str_to_ascii_uppercase rest)
follows_raised [] f = f
follows_raised (b ∷ bs) f =
    let k = f.1 (omega arith) in
    let same = raised_scalar k.0 k.1 in (
      str_to_ascii_uppercase f.0,
      λ _. (
        k.0,
        k.1,
        ap str_to_ascii_uppercase k.2 ∙ map-append to_ascii_uppercase (encode_utf8 k.0) f.0 ∙ ap (λ x. x ++ str_to_ascii_uppercase f.0) (raised_char k.0 ∙ ap encode_utf8 same),
        k.3,
      ),
    )

some_raised : (w : List ℕ) → 0 < length w → 0 < length (str_to_ascii_uppercase w)
some_raised [] h = h
some_raised (c ∷ w) h = omega arith

words_raised : (ws : List (List ℕ)) (text : List ℕ) → AreWords text ws → AreWords (str_to_ascii_uppercase text) (map str_to_ascii_uppercase ws)
words_raised [] text h = gap_raised text h
words_raised (w ∷ ws) text h =
    let s = h.1 in (
      str_to_ascii_uppercase h.0,
      record {
        gap = str_to_ascii_uppercase s.gap;
        spells = ap str_to_ascii_uppercase s.spells ∙ map-append to_ascii_uppercase s.gap (w ++ h.0) ∙ ap (λ xs. str_to_ascii_uppercase s.gap ++ xs) (map-append to_ascii_uppercase w h.0);
        some = some_raised w s.some;
        is_gap = gap_raised s.gap s.is_gap;
        is_word = (map to_ascii_uppercase s.is_word.0, raised_all s.is_word.0 ∙ ap str_to_ascii_uppercase s.is_word.1, raised_none s.is_word.0 s.is_word.2);
        ends = follows_raised h.0 s.ends;
      },
      words_raised ws h.0 h.2,
    )

-- ---- what is trimmed

skipped : (cs : List ℕ) → (g : List ℕ) × (cs ≡ g ++ skip_leading_whitespace cs) × NonePass is_not_whitespace g
skipped [] = ([], refl, tt)
skipped (c ∷ cs) =
    cond_both (is_whitespace c) (skip_leading_whitespace cs) (c ∷ cs) (λ (xs : List ℕ). (g : List ℕ) × ((c ∷ cs) ≡ g ++ xs) × NonePass is_not_whitespace g)
    (λ white. let k = skipped cs in (c ∷ k.0, ap (λ xs. c ∷ xs) k.1, (ap not white, k.2))) (λ _. ([], refl, tt))

nothing_left : (ds : List ℕ) → length ds ≡ 0 → ds ≡ []
nothing_left [] h = refl
nothing_left (d ∷ ds) h = absurd (omega (arith, h))

dropped : (cs : List ℕ) → (h : List ℕ) × (cs ≡ drop_trailing_whitespace cs ++ h) × NonePass is_not_whitespace h
dropped [] = ([], refl, tt)
dropped (c ∷ cs) =
    let k = dropped cs in
    let ds = drop_trailing_whitespace cs in
    cond_both (is_whitespace c && eqb (length ds) 0) [] (c ∷ ds) (λ (xs : List ℕ). (h : List ℕ) × ((c ∷ cs) ≡ xs ++ h) × NonePass is_not_whitespace h)
    (λ both.
    let parts = and_parts (is_whitespace c) (eqb (length ds) 0) both in
    let none = nothing_left ds (eqb-true (length ds) 0 parts.1) in
    (c ∷ k.0, ap (λ xs. c ∷ xs) (k.1 ∙ ap (λ xs. xs ++ k.0) none), (ap not parts.0, k.2)))
    (λ _. (k.0, ap (λ xs. c ∷ xs) k.1, k.2))

scalars_after : (ds es : List ℕ) → all_scalars (ds ++ es) ≡ true → all_scalars es ≡ true
scalars_after [] es h = h
scalars_after (d ∷ ds) es h = scalars_after ds es (and_parts (scalar d) (all_scalars (ds ++ es)) h).1

-- what stands around a text that is trimmed
record Around (text : List ℕ) : Type 0 where
  front : List ℕ
  back : List ℕ
  spells : text ≡ front ++ (trim text ++ back)
  is_front : NoCharPasses is_not_whitespace front
  is_back : NoCharPasses is_not_whitespace back

around : (text : List ℕ) → IsUtf8 text → Around text
unfolding trim_start trim_end
around text utf8 =
    let cs = chars text in
    let one = skipped cs in
    let ds = skip_leading_whitespace cs in
    let two = dropped ds in
    let scalars : all_scalars ds ≡ true = scalars_after one.0 ds (ap all_scalars (sym one.1) ∙ scalars-chars text utf8) in
    let es = drop_trailing_whitespace ds in
    let trimmed : trim text ≡ encode_utf8_all es = ap (λ xs. encode_utf8_all (drop_trailing_whitespace xs)) (chars-encodes ds scalars) in
    record {
      front = encode_utf8_all one.0;
      back = encode_utf8_all two.0;
      spells =
          sym (encodes-chars text utf8) ∙ ap encode_utf8_all (one.1 ∙ ap (λ xs. one.0 ++ xs) two.1) ∙ encodes-append one.0 (es ++ two.0)
          ∙ ap (λ xs. encode_utf8_all one.0 ++ xs) (encodes-append es two.0 ∙ ap (λ xs. xs ++ encode_utf8_all two.0) (sym trimmed));
      is_front = (one.0, refl, one.2);
      is_back = (two.0, refl, two.2);
    }

trimmed_utf8 : (text : List ℕ) → IsUtf8 text → IsUtf8 (trim text)
trimmed_utf8 text utf8 = let t = trim_trims text utf8 in (t.cs, (t.scalars, t.spells))

-- the text as it is read: its words are those that were given, raised
pub words_given : (text : List ℕ) → IsUtf8 text → words (trim (str_to_ascii_uppercase text)) ≡ map str_to_ascii_uppercase (words text)
words_given text utf8 =
    let up = str_to_ascii_uppercase text in
    let up_utf8 = raised text utf8 in
    let a = around up up_utf8 in
    let inner = are_words (trim up) (trimmed_utf8 up up_utf8) in
    let joined = words_on (trim up) a.back (words (trim up)) [] inner a.is_back (gap_follows a.back a.is_back) in
    let all : AreWords up (words (trim up) ++ []) = subst (λ t. AreWords t (words (trim up) ++ [])) (sym a.spells) (gap_more a.front (trim up ++ a.back) (words (trim up) ++ []) a.is_front joined) in
    sym (append-nil (words (trim up))) ∙ words_are up (words (trim up) ++ []) up_utf8 all
    ∙ sym (words_are up (map str_to_ascii_uppercase (words text)) up_utf8 (words_raised (words text) text (are_words text utf8)))

pub given_utf8 : (text : List ℕ) → IsUtf8 text → IsUtf8 (trim (str_to_ascii_uppercase text))
given_utf8 text utf8 = trimmed_utf8 (str_to_ascii_uppercase text) (raised text utf8)

-- ---- the sign @

at_raised : (c : ℕ) → eqb c 64 ≡ false → eqb (to_ascii_uppercase c) 64 ≡ false
at_raised c h = grind (arith, nat_tests, h)

no_at_raised : (text : List ℕ) → contains_byte 64 text ≡ false → contains_byte 64 (str_to_ascii_uppercase text) ≡ false
no_at_raised [] h = refl
no_at_raised (c ∷ cs) h =
    let parts = or_parts (eqb c 64) (contains_byte 64 cs) h in
    or_from (eqb (to_ascii_uppercase c) 64) (contains_byte 64 (str_to_ascii_uppercase cs)) (at_raised c parts.0) (no_at_raised cs parts.1)

-- a text without the sign has none when it is read
pub no_at_given : (text : List ℕ) → IsUtf8 text → contains_byte 64 text ≡ false → contains_byte 64 (trim (str_to_ascii_uppercase text)) ≡ false
no_at_given text utf8 h =
    let up = str_to_ascii_uppercase text in
    let a = around up (raised text utf8) in
    let all = no_at_in a.front (trim up ++ a.back) (ap (contains_byte 64) (sym a.spells) ∙ no_at_raised text h) in
    (no_at_in (trim up) a.back all.1).0

-- characters that are all white space, of which the first is none
no_gap : (cs : List ℕ) → begins_white cs ≡ false → NonePass is_not_whitespace cs → cs ≡ []
no_gap [] b h = refl
no_gap (c ∷ cs) b h = absurd (false≢true (sym b ∙ not-false (is_whitespace c) h.0))

-- a text without words is empty when it is trimmed
pub no_words : (text : List ℕ) → IsUtf8 text → words (trim text) ≡ [] → length (trim text) ≡ 0
no_words text utf8 e =
    let t = trim_trims text utf8 in
    let h = subst (AreWords (trim text)) e (are_words (trim text) (trimmed_utf8 text utf8)) in
    let same : h.0 ≡ t.cs = encodes_same h.0 t.cs (h.1 ∙ sym t.spells) in
    let none : t.cs ≡ [] = no_gap t.cs t.begins (subst (NonePass is_not_whitespace) same h.2) in
    ap length (sym t.spells ∙ ap encode_utf8_all none)

-- The `?` of a text, and the `+` in front of it.
use Rattle.std.proofs.Common.{◌≡◌, ℕ, suc, ◌+◌, ◌<◌, false, cond, eqb, List, [], ◌∷◌, ◌++◌, length, get_or, drop, refl, ap, sym, ◌∙◌, arith, lit<, inl, inr}
use Rattle.std.proofs.lemmas.Bool.{ne_eqb, cases_lt, cond_both, or_parts}
use Rattle.std.proofs.lemmas.List.{map-append, append_assoc, append-nil, at_drop_more, at_drop_all}
use Rattle.std.proofs.lemmas.Str.{encode_ascii}
use Rattle.std.specs.Char.{encode_utf8}
use Rattle.std.specs.Str.{encode_utf8_all}
use Rattle.croner_base.specs.Part.{contains_byte}
use Rattle.croner.specs.parser.Grammar.{starred, without_plus}
use Rattle.croner.proofs.parser.Names.{AreHigh, high_bytes}

-- a text without a plus in front stays
pub no_plus : (text : List ℕ) → ((rest : List ℕ) → text ≡ 43 ∷ rest → ⊥) → without_plus text ≡ text
no_plus [] h = refl
no_plus (c ∷ cs) h =
    let other : eqb c 43 ≡ false = ne_eqb c 43 (λ e. h cs (ap (λ x. x ∷ cs) e)) in
    ap (λ b. cond b cs (c ∷ cs)) other

-- a text without a question mark stays
pub no_question : (text : List ℕ) → contains_byte 63 text ≡ false → starred text ≡ text
no_question [] h = refl
no_question (c ∷ cs) h =
    let parts = or_parts (eqb c 63) (contains_byte 63 cs) h in
    ap (λ b. cond b 42 c ∷ starred cs) parts.0 ∙ ap (λ xs. c ∷ xs) (no_question cs parts.1)

high_stay : (bs : List ℕ) → AreHigh bs → starred bs ≡ bs
high_stay [] h = refl
high_stay (b ∷ bs) h =
    let first = h 0 (omega arith) in
    let other : eqb b 63 ≡ false = ne_eqb b 63 (λ e. omega (arith, e, first)) in
    ap (λ x. cond x 42 b ∷ starred bs) other ∙ ap (λ xs. b ∷ xs) (high_stay bs (λ k l. h (suc k) (omega (arith, l))))

-- one character after another
pub starred_char : (c : ℕ) → starred (encode_utf8 c) ≡ encode_utf8 (cond (eqb c 63) 42 c)
starred_char c = elim (cases_lt c 128) [
  | inl small ↦ ap starred (encode_ascii c small) ∙ sym (encode_ascii (cond (eqb c 63) 42 c) (cond_both (eqb c 63) 42 c (λ d. d < 128) (λ e. lit< tt) (λ e. small)))
  | inr high ↦
      let other : eqb c 63 ≡ false = ne_eqb c 63 (λ e. omega (arith, e, high)) in
      high_stay (encode_utf8 c) (high_bytes c high) ∙ ap (λ x. encode_utf8 (cond x 42 c)) (sym other)
]

pub starred_more : (c : ℕ) (cs : List ℕ) → starred (encode_utf8_all (c ∷ cs)) ≡ encode_utf8 (cond (eqb c 63) 42 c) ++ starred (encode_utf8_all cs)
starred_more c cs =
    map-append _ (encode_utf8 c) (encode_utf8_all cs) ∙ ap (λ xs. xs ++ starred (encode_utf8_all cs)) (starred_char c)

-- a step of the copy, and its end
pub starred_step : (cs : List ℕ) (n c : ℕ) (written now whole : List ℕ) → (n < length cs) × (c ≡ get_or cs n c) → now ≡ written ++ encode_utf8 (cond (eqb c 63) 42 c) → written ++ starred (encode_utf8_all (drop n cs)) ≡ whole → now ++ starred (encode_utf8_all (drop (n + 1) cs)) ≡ whole
starred_step cs n c written now whole t e h =
    let rest = starred (encode_utf8_all (drop (n + 1) cs)) in
    let more : starred (encode_utf8_all (drop n cs)) ≡ starred (encode_utf8_all (c ∷ drop (n + 1) cs)) =
    at_drop_more (λ xs. starred (encode_utf8_all xs)) cs n c t.0 ∙ ap (λ x. starred (encode_utf8_all (x ∷ drop (n + 1) cs))) (sym t.1) in
    ap (λ xs. xs ++ rest) e ∙ append_assoc written (encode_utf8 (cond (eqb c 63) 42 c)) rest
    ∙ ap (λ xs. written ++ xs) (sym (starred_more c (drop (n + 1) cs)) ∙ sym more) ∙ h

pub starred_end : (cs : List ℕ) (n : ℕ) (written whole : List ℕ) → n ≡ length cs → written ++ starred (encode_utf8_all (drop n cs)) ≡ whole → written ≡ whole
starred_end cs n written whole e h =
    sym (append-nil written) ∙ ap (λ xs. written ++ xs) (sym (at_drop_all (λ xs. starred (encode_utf8_all xs)) cs n (omega (arith, e)))) ∙ h

-- No byte of an escaped text ends what it stands in.
use Rattle.std.proofs.Common.{◌≡◌, ℕ, zero, suc, ◌+◌, ◌/◌, ◌%◌, ◌<◌, ◌≤◌, ◌==◌, ◌&&◌, Bool, true, false, cond, List, [], ◌∷◌, ◌++◌, Option, Some, length, append_assoc, ap, sym, ◌∙◌, refl, arith}
use Rattle.std.specs.Prelude.{codes, nat_lt}
use Rattle.std.specs.Char.{encode_utf8}
use Rattle.std.specs.Fmt.{digits, digits_onto, digit_glyph}
use Rattle.std.specs.List.{list_all, flat_map}
use Rattle.std.specs.Str.{chars, encode_utf8_all}
use Rattle.std.proofs.lemmas.Bool.Decides.{nat_tests}
use Rattle.std.proofs.lemmas.List.{append-nil}
use Rattle.std.proofs.lemmas.Str.{encodes_same}
use Rattle.std.proofs.lemmas.List.Folds.{list_all-append}
use Rattle.cronplan_forms.specs.declared.escapes.Form.{Form}
use Rattle.cronplan_forms.specs.declared.escapes.Form.TheVariants as forms
use Rattle.cronplan_forms.specs.Escapes.{backslash, is_control, number_text, plain_text, or_plain, escaped_character, escaped_text, ends_no_property, ends_no_element, ends_nothing}

-- none of these bytes ends anything
record AreClosed (form : Form) (bs : List ℕ) : Type 0 where
  all : list_all (ends_nothing form) bs ≡ true

-- ---- parts

none : (form : Form) → AreClosed form []
none form = record { all = refl }

more : (form : Form) (b : ℕ) (bs : List ℕ) → ends_nothing form b ≡ true → AreClosed form bs → AreClosed form (b ∷ bs)
more form b bs h k = record { all = ap (λ t. t && list_all (ends_nothing form) bs) h ∙ k.all }

joined : (form : Form) (xs ys : List ℕ) → AreClosed form xs → AreClosed form ys → AreClosed form (xs ++ ys)
joined form xs ys h k = record { all = list_all-append (ends_nothing form) xs ys ∙ ap (λ t. t && list_all (ends_nothing form) ys) h.all ∙ k.all }

one_of_two : (form : Form) (b : Bool) (xs ys : List ℕ) → (b ≡ true → AreClosed form xs) → (b ≡ false → AreClosed form ys) → AreClosed form (cond b xs ys)
one_of_two form true xs ys h k = h refl
one_of_two form false xs ys h k = k refl

either : (form : Form) (b : Bool) (xs ys : List ℕ) → AreClosed form xs → AreClosed form ys → AreClosed form (cond b xs ys)
either form true xs ys h k = h
either form false xs ys h k = k

-- ---- bytes

high : (form : Form) (b : ℕ) → 128 ≤ b → ends_nothing form b ≡ true
high forms.Text b h = grind (arith, nat_tests)
high forms.Html b h = grind (arith, nat_tests)

letter : (form : Form) (b : ℕ) → 97 ≤ b → b < 127 → ends_nothing form b ≡ true
letter forms.Text b h k = grind (arith, nat_tests)
letter forms.Html b h k = grind (arith, nat_tests)

number : (form : Form) (b : ℕ) → 48 ≤ b → b < 58 → ends_nothing form b ≡ true
number forms.Text b h k = grind (arith, nat_tests)
number forms.Html b h k = grind (arith, nat_tests)

-- ---- numbers

glyph_closed : (form : Form) (d : ℕ) → d < 16 → ends_nothing form (digit_glyph false d) ≡ true
glyph_closed form d h = of_two (nat_lt d 10) refl where
  of_two : (b : Bool) → nat_lt d 10 ≡ b → ends_nothing form (cond b (48 + d) (87 + d)) ≡ true
  of_two true e = let few : d < 10 = grind (arith, nat_tests) in number form (48 + d) (omega arith) (omega (arith, few))
  of_two false e = let many : 10 ≤ d = grind (arith, nat_tests) in letter form (87 + d) (omega (arith, many)) (omega (arith, h))

digits_closed : (form : Form) (k n : ℕ) (acc : List ℕ) → AreClosed form acc → AreClosed form (digits_onto k 16 false n acc)
digits_closed form zero n acc h = h
digits_closed form (suc k) n acc h =
    let first : AreClosed form (digit_glyph false (n % 16) ∷ acc) = more form (digit_glyph false (n % 16)) acc (glyph_closed form (n % 16) (omega arith)) h in
    one_of_two form (n / 16 == 0) _ _ (λ _. first) (λ _. digits_closed form k (n / 16) (digit_glyph false (n % 16) ∷ acc) first)

signs_closed : (form : Form) → AreClosed form (backslash form) × AreClosed form (codes "u{") × AreClosed form (codes "}")
signs_closed forms.Text = (record { all = refl }, record { all = refl }, record { all = refl })
signs_closed forms.Html = (record { all = refl }, record { all = refl }, record { all = refl })

number_closed : (form : Form) (c : ℕ) → AreClosed form (number_text form c)
unfolding digits
number_closed form c =
    let signs = signs_closed form in
    joined form (backslash form) _ signs.0
    (joined form (codes "u{") _ signs.1 (joined form (digits 16 false c) (codes "}") (digits_closed form 64 c [] (none form)) signs.2))

-- ---- characters

encode_closed : (form : Form) (c : ℕ) → ends_nothing form c ≡ true → AreClosed form (encode_utf8 c)
unfolding encode_utf8
encode_closed form c h =
    let b = 128 + c % 64 in
    let d = 128 + (c / 64) % 64 in
    let e = 128 + (c / 4096) % 64 in
    let last : AreClosed form (b ∷ []) = more form b [] (high form b (omega arith)) (none form) in
    let third : AreClosed form (d ∷ b ∷ []) = more form d (b ∷ []) (high form d (omega arith)) last in
    let second : AreClosed form (e ∷ d ∷ b ∷ []) = more form e (d ∷ b ∷ []) (high form e (omega arith)) third in
    either form _ _ _ (more form c [] h (none form))
    (either form _ _ _ (more form (192 + c / 64) _ (high form (192 + c / 64) (omega arith)) last)
    (either form _ _ _ (more form (224 + c / 4096) _ (high form (224 + c / 4096) (omega arith)) third)
    (more form (240 + c / 262144) _ (high form (240 + c / 262144) (omega arith)) second)))

plain_closed : (form : Form) (c : ℕ) → (is_control c ≡ false → ends_nothing form c ≡ true) → AreClosed form (plain_text form c)
plain_closed form c h = one_of_two form (is_control c) _ _ (λ _. number_closed form c) (λ e. encode_closed form c (h e))

-- an escape, or what stands where there is none
escape_or : (form : Form) (c : ℕ) (b : Bool) (escape : List ℕ) (other : Option (List ℕ)) → AreClosed form escape
    → (b ≡ false → AreClosed form (or_plain form c other)) → AreClosed form (or_plain form c (cond b (Some escape) other))
escape_or form c true escape other h k = h
escape_or form c false escape other h k = k refl

no_element : (c : ℕ) → (c == 60) ≡ false → (c == 62) ≡ false → (c == 34) ≡ false → (c == 39) ≡ false → is_control c ≡ false → ends_no_element c ≡ true
no_element c less greater quote single control = rw (less, greater, quote, single, control) refl

no_property : (c : ℕ) → is_control c ≡ false → ends_no_property c ≡ true
no_property c control = rw control refl

character_closed : (form : Form) (c : ℕ) → AreClosed form (escaped_character form c)
character_closed forms.Text c =
    escape_or forms.Text c (c == 92) _ _ (record { all = refl }) (λ _. escape_or forms.Text c (c == 59) _ _ (record { all = refl })
    (λ _. escape_or forms.Text c (c == 44) _ _ (record { all = refl }) (λ _. escape_or forms.Text c (c == 10) _ _ (record { all = refl })
    (λ _. plain_closed forms.Text c (no_property c)))))
character_closed forms.Html c =
    escape_or forms.Html c (c == 38) _ _ (record { all = refl }) (λ _. escape_or forms.Html c (c == 60) _ _ (record { all = refl })
    (λ less. escape_or forms.Html c (c == 62) _ _ (record { all = refl }) (λ greater. escape_or forms.Html c (c == 34) _ _ (record { all = refl })
    (λ quote. escape_or forms.Html c (c == 39) _ _ (record { all = refl })
    (λ single. plain_closed forms.Html c (no_element c less greater quote single))))))

all_of : (form : Form) (cs : List ℕ) → AreClosed form (flat_map (escaped_character form) cs)
all_of form [] = none form
all_of form (c ∷ cs) = joined form (escaped_character form c) (flat_map (escaped_character form) cs) (character_closed form c) (all_of form cs)

-- no byte of a text ends what it stands in
pub closed : (form : Form) (text : List ℕ) → list_all (ends_nothing form) (escaped_text form text) ≡ true
unfolding escaped_text
closed form text = (all_of form (chars text)).all

pub all_closed : (form : Form) (text out : List ℕ) → out ≡ escaped_text form text → list_all (ends_nothing form) out ≡ true
all_closed form text out is = rw is (closed form text)

-- ---- the loop

pub one_more : (form : Form) (new done all cs es : List ℕ) (c : ℕ) → new ≡ done ++ escaped_character form c → cs ≡ c ∷ es
    → done ++ flat_map (escaped_character form) cs ≡ all → new ++ flat_map (escaped_character form) es ≡ all
one_more form new done all cs es c n e h =
    ap (λ x. x ++ flat_map (escaped_character form) es) n ∙ append_assoc done (escaped_character form c) (flat_map (escaped_character form) es)
    ∙ sym (ap (λ x. done ++ flat_map (escaped_character form) x) e) ∙ h

no_bytes : (bs : List ℕ) → length bs ≡ 0 → bs ≡ []
no_bytes [] e = refl
no_bytes (b ∷ bs) e = absurd (omega (arith, e))

-- characters of no bytes are none
pub no_characters : (cs rest : List ℕ) → encode_utf8_all cs ≡ rest → length rest ≡ 0 → cs ≡ []
no_characters cs rest e n = encodes_same cs [] (e ∙ no_bytes rest n)

pub no_more : (form : Form) (done all cs : List ℕ) → cs ≡ [] → done ++ flat_map (escaped_character form) cs ≡ all → done ≡ all
no_more form done all cs e h = sym (append-nil done) ∙ sym (ap (λ x. done ++ flat_map (escaped_character form) x) e) ∙ h

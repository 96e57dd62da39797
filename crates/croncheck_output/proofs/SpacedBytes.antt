-- Bytes as they are shown with a text in place of each byte of one value, piece by piece.
use Rattle.std.proofs.Common.{◌≡◌, ◌∙◌, ℕ, suc, ◌+◌, Bool, true, false, refl, sym, ap, List, [], ◌∷◌, ◌++◌, append_assoc, length, take, drop, nat_lt, arith}
use Rattle.std.proofs.lemmas.Bool.{false≢true}
use Rattle.std.proofs.lemmas.Bool.Decides.{nat_tests}
use Rattle.std.proofs.lemmas.List.{append-nil}
use Rattle.std.specs.List.{prefix_len}
use Rattle.std.specs.Prelude.{◌==◌}
use Rattle.crontab.specs.declared.bytes.Kind.TheVariants as kinds
use Rattle.crontab.specs.Bytes.{is_of, front, text_after, rest_of}
use Rattle.crontab.specs.Setting.{has}
use Rattle.croncheck_output.specs.Escaped.{bytes_shown, replaced_after, replaced}

some_left : (n : ℕ) → nat_lt 0 (suc n) ≡ true
some_left n = grind (arith, nat_tests)

-- ---- another byte

take_one : (n b : ℕ) (bs : List ℕ) → take (1 + n) (b ∷ bs) ≡ b ∷ take n bs
take_one n b bs = let one : 1 + n ≡ suc n = omega arith in rw one refl

drop_one : (n b : ℕ) (bs : List ℕ) → drop (1 + n) (b ∷ bs) ≡ drop n bs
drop_one n b bs = let one : 1 + n ≡ suc n = omega arith in rw one refl

front_more : (c b : ℕ) (bs : List ℕ) → (b == c) ≡ false → front (kinds.But c) (b ∷ bs) ≡ b ∷ front (kinds.But c) bs
front_more c b bs is = rw is (take_one (prefix_len (is_of (kinds.But c)) bs) b bs)

after_more : (c b : ℕ) (bs : List ℕ) → (b == c) ≡ false → text_after (kinds.But c) (b ∷ bs) ≡ text_after (kinds.But c) bs
after_more c b bs is = rw is (drop_one (prefix_len (is_of (kinds.But c)) bs) b bs)

has_more : (c b : ℕ) (bs : List ℕ) → (b == c) ≡ false → has c (b ∷ bs) ≡ has c bs
has_more c b bs is = ap (λ (l : List ℕ). nat_lt 0 (length l)) (after_more c b bs is)

-- ---- what stands before such a byte and after it

abbrev UpToSign : ℕ → List ℕ → List ℕ → List ℕ → Type 0
UpToSign c text bytes before =
    replaced_after c text before bytes ≡ bytes_shown (before ++ front (kinds.But c) bytes) ++ (text ++ replaced_after c text [] (rest_of (text_after (kinds.But c) bytes)))

sign_next : (c : ℕ) (text : List ℕ) (b : ℕ) (bs before : List ℕ) (is_sign : Bool) → (b == c) ≡ is_sign
    → ((more : List ℕ) → has c bs ≡ true → UpToSign c text bs more) → has c (b ∷ bs) ≡ true → UpToSign c text (b ∷ bs) before
sign_next c text b bs before true is later h = rw (is, append-nil before) refl
sign_next c text b bs before false is later h =
    let f = front_more c b bs is in
    let g = after_more c b bs is in
    let more : has c bs ≡ true = sym (has_more c b bs is) ∙ h in
    let step : replaced_after c text before (b ∷ bs) ≡ replaced_after c text (before ++ b ∷ []) bs = rw is refl in
    step ∙ later (before ++ b ∷ []) more
    ∙ ap (λ (l : List ℕ). bytes_shown l ++ (text ++ replaced_after c text [] (rest_of (text_after (kinds.But c) bs)))) (append_assoc before (b ∷ []) (front (kinds.But c) bs))
    ∙ sym (ap (λ (l : List ℕ). bytes_shown (before ++ l) ++ (text ++ replaced_after c text [] (rest_of (text_after (kinds.But c) bs)))) f)
    ∙ sym (ap (λ (l : List ℕ). bytes_shown (before ++ front (kinds.But c) (b ∷ bs)) ++ (text ++ replaced_after c text [] (rest_of l))) g)

up_to_sign : (c : ℕ) (text bytes before : List ℕ) → has c bytes ≡ true → UpToSign c text bytes before
up_to_sign c text [] before h = absurd (false≢true h)
up_to_sign c text (b ∷ bs) before h = sign_next c text b bs before (b == c) refl (λ more is. up_to_sign c text bs more is) h

-- ---- up to the end

end_next : (c : ℕ) (text : List ℕ) (b : ℕ) (bs before : List ℕ) (is_sign : Bool) → (b == c) ≡ is_sign
    → ((more : List ℕ) → has c bs ≡ false → replaced_after c text more bs ≡ bytes_shown (more ++ bs)) → has c (b ∷ bs) ≡ false
    → replaced_after c text before (b ∷ bs) ≡ bytes_shown (before ++ b ∷ bs)
end_next c text b bs before true is later h =
    let some : has c (b ∷ bs) ≡ true = rw is (some_left (length bs)) in
    absurd (false≢true (sym h ∙ some))
end_next c text b bs before false is later h =
    let none : has c bs ≡ false = sym (has_more c b bs is) ∙ h in
    let next = later (before ++ b ∷ []) none in
    rw (is, next, append_assoc before (b ∷ []) bs) refl

up_to_end : (c : ℕ) (text bytes before : List ℕ) → has c bytes ≡ false → replaced_after c text before bytes ≡ bytes_shown (before ++ bytes)
up_to_end c text [] before h = rw (append-nil before) refl
up_to_end c text (b ∷ bs) before h = end_next c text b bs before (b == c) refl (λ more is. up_to_end c text bs more is) h

-- ---- the loop

-- one piece more was put after a text
pub one_piece : (c : ℕ) (text old mid new piece tail rest bytes : List ℕ) → has c bytes ≡ true → piece ≡ front (kinds.But c) bytes
    → tail ≡ text_after (kinds.But c) bytes → mid ≡ old ++ bytes_shown piece → new ≡ mid ++ text → rest ≡ rest_of tail
    → new ++ replaced c text rest ≡ old ++ replaced c text bytes
one_piece c text old mid new piece tail rest bytes h piece_is tail_is mid_is new_is rest_is =
    rw (rest_is, tail_is, new_is, mid_is, piece_is, up_to_sign c text bytes [] h)
    (append_assoc (old ++ bytes_shown (front (kinds.But c) bytes)) text (replaced c text (rest_of (text_after (kinds.But c) bytes)))
    ∙ append_assoc old (bytes_shown (front (kinds.But c) bytes)) (text ++ replaced c text (rest_of (text_after (kinds.But c) bytes))))

-- the last piece was
pub last_piece : (c : ℕ) (text initial old new rest bytes : List ℕ) → has c rest ≡ false → new ≡ old ++ bytes_shown rest
    → old ++ replaced c text rest ≡ initial ++ replaced c text bytes → new ≡ initial ++ replaced c text bytes
last_piece c text initial old new rest bytes h new_is so_far = new_is ∙ ap (λ l. old ++ l) (sym (up_to_end c text rest [] h)) ∙ so_far

-- What bytes are shown as: one front after the other.
use Rattle.std.proofs.Common.{◌≡◌, ℕ, zero, suc, ◌<◌, ◌≤◌, List, [], ◌∷◌, ◌++◌, length, drop, Option, Some, None, ap, sym, ◌∙◌, refl, arith, length-drop, append_assoc}
use Rattle.std.proofs.lemmas.List.{append-nil}
use Rattle.bstr.specs.Utf8.{decoded}
use Rattle.bstr.proofs.lemmas.PieceLemmas.{piece-bounds}
use Rattle.croncheck_output.specs.Escaped.{front_shown, front_size, shown_from, bytes_shown}

-- the front of some bytes as it is shown, and what stands after it
abbrev pub front_of : List ℕ → List ℕ
front_of bs = front_shown (decoded bs).char bs

abbrev pub after_front : List ℕ → List ℕ
after_front bs = drop (front_size (decoded bs).char (decoded bs).size) bs

size_bounds : (c : Option ℕ) (n m : ℕ) → 1 ≤ n → n ≤ m → (1 ≤ front_size c n) × (front_size c n ≤ m)
size_bounds None n m h k = (omega arith, omega (arith, h, k))
size_bounds (Some c) n m h k = (h, k)

pub front_bounds : (bs : List ℕ) → 0 < length bs → (1 ≤ front_size (decoded bs).char (decoded bs).size) × (front_size (decoded bs).char (decoded bs).size ≤ length bs)
front_bounds bs some =
    let bounds = piece-bounds bs some in
    size_bounds (decoded bs).char (decoded bs).size (length bs) bounds.0 bounds.2

pub shorter : (bs : List ℕ) → 0 < length bs → length (after_front bs) < length bs
shorter bs some = omega (arith, length-drop (front_size (decoded bs).char (decoded bs).size) bs, (front_bounds bs some).0)

pub same_fuel : (f g : ℕ) (bs : List ℕ) → length bs ≤ f → length bs ≤ g → shown_from f bs ≡ shown_from g bs
unfolding shown_from
same_fuel zero zero bs hf hg = refl
same_fuel zero (suc g) [] hf hg = refl
same_fuel zero (suc g) (b ∷ bs) hf hg = absurd (omega (arith, hf))
same_fuel (suc f) zero [] hf hg = refl
same_fuel (suc f) zero (b ∷ bs) hf hg = absurd (omega (arith, hg))
same_fuel (suc f) (suc g) [] hf hg = refl
same_fuel (suc f) (suc g) (b ∷ bs) hf hg =
    let less = shorter (b ∷ bs) (omega arith) in
    ap (λ l. front_of (b ∷ bs) ++ l) (same_fuel f g (after_front (b ∷ bs)) (omega (arith, less, hf)) (omega (arith, less, hg)))

pub shown_step : (bs : List ℕ) → 0 < length bs → bytes_shown bs ≡ front_of bs ++ bytes_shown (after_front bs)
unfolding shown_from
shown_step [] some = absurd (omega (arith, some))
shown_step (b ∷ bs) some =
    let less = shorter (b ∷ bs) some in
    ap (λ l. front_of (b ∷ bs) ++ l) (same_fuel (length bs) (length (after_front (b ∷ bs))) (after_front (b ∷ bs)) (omega (arith, less)) (omega arith))

-- ---- the loop

pub one_more : (done all bs next rest : List ℕ) → 0 < length bs → next ≡ done ++ front_of bs → rest ≡ after_front bs → done ++ bytes_shown bs ≡ all → next ++ bytes_shown rest ≡ all
one_more done all bs next rest some written left h =
    ap (λ l. l ++ bytes_shown rest) written ∙ ap (λ l. (done ++ front_of bs) ++ bytes_shown l) left ∙ append_assoc done (front_of bs) (bytes_shown (after_front bs))
    ∙ ap (λ l. done ++ l) (sym (shown_step bs some)) ∙ h

pub no_more : (done all bs : List ℕ) → length bs ≡ 0 → done ++ bytes_shown bs ≡ all → done ≡ all
unfolding shown_from
no_more done all [] none h = sym (append-nil done) ∙ h
no_more done all (b ∷ bs) none h = absurd (omega (arith, none))

-- Counting the marked values of a field over its marks.
use Rattle.std.proofs.Common.{◌≡◌, ℕ, zero, suc, ◌+◌, Bool, true, false, cond, not, eqb, List, [], ◌∷◌, length, drop, get_or, refl, ap, ◌∙◌, arith, inl, inr}
use Rattle.std.specs.List.{filter, list_any, range_with_len}
use Rattle.std.proofs.lemmas.Bool.{cases_Bool, ne_eqb}
use Rattle.std.proofs.lemmas.List.{at_drop_more, at_drop_all}

same_count : (b : Bool) (u v : ℕ) (us vs : List ℕ) → length us ≡ length vs → length (cond b (u ∷ us) us) ≡ length (cond b (v ∷ vs) vs)
same_count true u v us vs h = ap suc h
same_count false u v us vs h = h

-- the values from a on, and the marks from place a on
pub count_from : (p : ℕ → Bool) (xs : List ℕ) (n a : ℕ) → a + n ≡ length xs → length (filter p (drop a xs)) ≡ length (filter (λ v. p (get_or xs v 0)) (range_with_len a n))
count_from p xs zero a h = at_drop_all (λ l. length (filter p l)) xs a (omega (arith, h))
count_from p xs (suc n) a h =
    at_drop_more (λ l. length (filter p l)) xs a 0 (omega (arith, h))
    ∙ same_count (p (get_or xs a 0)) (get_or xs a 0) a (filter p (drop (a + 1) xs)) (filter (λ v. p (get_or xs v 0)) (range_with_len (a + 1) n)) (count_from p xs n (a + 1) (omega (arith, h)))

-- some element passes where their count is not 0
pub any_counted : (p : ℕ → Bool) (xs : List ℕ) → not (eqb (length (filter p xs)) 0) ≡ list_any p xs
any_counted p [] = refl
any_counted p (x ∷ xs) = elim (cases_Bool (p x)) [
  | inl hit ↦ rw hit (ap not (ne_eqb _ 0 (λ e. absurd (omega (arith, e)))))
  | inr miss ↦ rw miss (any_counted p xs)
]

-- A text has at most one cut into names and characters, the one found from the left; where none is found there is none.
use Rattle.std.proofs.Common.{◌≡◌, ◌⊎◌, ℕ, zero, suc, ◌+◌, ◌<◌, true, false, cond, eqb, ltb, List, [], ◌∷◌, ◌++◌, length, Option, Some, None, get_or, refl, ap, sym, ◌∙◌, subst, arith, inl, inr}
use Rattle.std.proofs.lemmas.Bool.{false≢true, ltb-true, lt-ltb, ne_eqb, cases_Bool}
use Rattle.std.proofs.lemmas.Option.{none-some, same_Some}
use Rattle.std.proofs.lemmas.Slice.Eq.{bytes_eq-Decides}
use Rattle.std.specs.List.{flat_map}
use Rattle.std.specs.Str.{bytes_eq}
use Rattle.croner.specs.parser.Cut.{Piece, month, weekday, single, months, weekdays, letters, is_lost, IsPiece, ArePieces, IsCut, place_of, name_of, cut_of, onto, alone, named}

-- a capital that can't stand alone is no other letter
lone_ne : (c n : ℕ) → is_lost c ≡ false → is_lost n ≡ true → eqb c n ≡ false
lone_ne c n h m = ne_eqb c n (λ e. false≢true (sym h ∙ ap is_lost e ∙ m))

-- a month's name is cut off, and doesn't begin with E
month_name : (n : ℕ) (rest : List ℕ) → ltb n 12 ≡ true → (cut_of (get_or months n [] ++ rest) ≡ onto (month n) (cut_of rest)) × (eqb (get_or (get_or months n [] ++ rest) 0 0) 69 ≡ false)
month_name zero rest h = (refl, refl)
month_name (suc zero) rest h = (refl, refl)
month_name (suc (suc zero)) rest h = (refl, refl)
month_name (suc (suc (suc zero))) rest h = (refl, refl)
month_name (suc (suc (suc (suc zero)))) rest h = (refl, refl)
month_name (suc (suc (suc (suc (suc zero))))) rest h = (refl, refl)
month_name (suc (suc (suc (suc (suc (suc zero)))))) rest h = (refl, refl)
month_name (suc (suc (suc (suc (suc (suc (suc zero))))))) rest h = (refl, refl)
month_name (suc (suc (suc (suc (suc (suc (suc (suc zero)))))))) rest h = (refl, refl)
month_name (suc (suc (suc (suc (suc (suc (suc (suc (suc zero))))))))) rest h = (refl, refl)
month_name (suc (suc (suc (suc (suc (suc (suc (suc (suc (suc zero)))))))))) rest h = (refl, refl)
month_name (suc (suc (suc (suc (suc (suc (suc (suc (suc (suc (suc zero))))))))))) rest h = (refl, refl)
month_name (suc (suc (suc (suc (suc (suc (suc (suc (suc (suc (suc (suc n)))))))))))) rest h = absurd (omega (arith, ltb-true _ _ h))

-- and a weekday's
weekday_name : (n : ℕ) (rest : List ℕ) → ltb n 7 ≡ true → (cut_of (get_or weekdays n [] ++ rest) ≡ onto (weekday n) (cut_of rest)) × (eqb (get_or (get_or weekdays n [] ++ rest) 0 0) 69 ≡ false)
weekday_name zero rest h = (refl, refl)
weekday_name (suc zero) rest h = (refl, refl)
weekday_name (suc (suc zero)) rest h = (refl, refl)
weekday_name (suc (suc (suc zero))) rest h = (refl, refl)
weekday_name (suc (suc (suc (suc zero)))) rest h = (refl, refl)
weekday_name (suc (suc (suc (suc (suc zero))))) rest h = (refl, refl)
weekday_name (suc (suc (suc (suc (suc (suc zero)))))) rest h = (refl, refl)
weekday_name (suc (suc (suc (suc (suc (suc (suc n))))))) rest h = absurd (omega (arith, ltb-true _ _ h))

-- no piece begins with E
no_e : (ps : List Piece) → ArePieces ps → eqb (get_or (flat_map letters ps) 0 0) 69 ≡ false
no_e [] h = refl
no_e (month n ∷ ps) h = (month_name n (flat_map letters ps) h.0).1
no_e (weekday n ∷ ps) h = (weekday_name n (flat_map letters ps) h.0).1
no_e (single c ∷ ps) h = lone_ne c 69 h.0 refl

-- a byte that no name begins with, or that E doesn't follow
no_name : (c b d : ℕ) → is_lost c ≡ false → eqb b 69 ≡ false → name_of (c ∷ b ∷ d ∷ []) ≡ None
no_name c b d h e =
    let j = lone_ne c 74 h refl in
    let f = lone_ne c 70 h refl in
    let m = lone_ne c 77 h refl in
    let a = lone_ne c 65 h refl in
    let s = lone_ne c 83 h refl in
    let o = lone_ne c 79 h refl in
    let n = lone_ne c 78 h refl in
    let q = lone_ne c 68 h refl in
    let t = lone_ne c 84 h refl in
    elim (cases_Bool (eqb c 87)) [
      | inl w ↦ simp (j, f, m, a, s, o, n, q, t, e, w)
      | inr w ↦ simp (j, f, m, a, s, o, n, q, t, e, w)
    ]

cut_single : (c : ℕ) (t : List ℕ) → is_lost c ≡ false → eqb (get_or t 0 0) 69 ≡ false → cut_of (c ∷ t) ≡ onto (single c) (cut_of t)
cut_single c [] h e = rw h refl
cut_single c (b ∷ []) h e = rw h refl
cut_single c (b ∷ d ∷ rest) h e =
    ap (λ p. named p (alone c (cut_of (b ∷ d ∷ rest))) (cut_of rest)) (no_name c b d h e)
    ∙ ap (λ l. cond l None (onto (single c) (cut_of (b ∷ d ∷ rest)))) h

cut_of-letters : (ps : List Piece) → ArePieces ps → cut_of (flat_map letters ps) ≡ Some ps
cut_of-letters [] h = refl
cut_of-letters (month n ∷ ps) h = (month_name n (flat_map letters ps) h.0).0 ∙ ap (onto (month n)) (cut_of-letters ps h.1)
cut_of-letters (weekday n ∷ ps) h = (weekday_name n (flat_map letters ps) h.0).0 ∙ ap (onto (weekday n)) (cut_of-letters ps h.1)
cut_of-letters (single c ∷ ps) h = cut_single c (flat_map letters ps) h.0 (no_e ps h.1) ∙ ap (onto (single c)) (cut_of-letters ps h.1)

-- what is cut from the left is the one cut
pub cut_is : (text : List ℕ) (ps : List Piece) → IsCut text ps → cut_of text ≡ Some ps
cut_is text ps h = ap cut_of (sym h.spells) ∙ cut_of-letters ps h.legal

-- a text has at most one cut
pub one_cut : (text : List ℕ) (ps qs : List Piece) → IsCut text ps → IsCut text qs → ps ≡ qs
one_cut text ps qs h k = same_Some ps qs (sym (cut_is text ps h) ∙ cut_is text qs k)

-- where none is found there is none
pub no_cut : (text : List ℕ) (ps : List Piece) → cut_of text ≡ None → IsCut text ps → ⊥
no_cut text ps e h = none-some ps (sym e ∙ cut_is text ps h)

-- ---- and what is found is a cut

-- a name found stands in the list, at its place
pub place_of-at : (name : List ℕ) (n : ℕ) (xs : List (List ℕ)) (k : ℕ) → place_of name n xs ≡ Some k → (j : ℕ) × (k ≡ n + j) × (j < length xs) × (get_or xs j [] ≡ name)
place_of-at name n [] k e = absurd (none-some k e)
place_of-at name n (x ∷ xs) k e = elim (cases_Bool (bytes_eq name x)) [
  | inl t ↦
      (0, omega (arith, same_Some n k (sym (ap (λ b. cond b (Some n) (place_of name (n + 1) xs)) t) ∙ e)), omega arith, sym ((bytes_eq-Decides name x).0 t))
  | inr f ↦
      let r = place_of-at name (n + 1) xs k (sym (ap (λ b. cond b (Some n) (place_of name (n + 1) xs)) f) ∙ e) in
      (suc r.0, omega (arith, r.1), omega (arith, r.2), r.3)
]

-- the name found is the one at that place
named_there : (xs : List (List ℕ)) (name : List ℕ) (k : ℕ) → place_of name 0 xs ≡ Some k → (ltb k (length xs) ≡ true) × (get_or xs k [] ≡ name)
named_there xs name k e =
    let r = place_of-at name 0 xs k e in
    let same : k ≡ r.0 = omega (arith, r.1) in
    let P : ℕ → Type 0 = λ n. (ltb n (length xs) ≡ true) × (get_or xs n [] ≡ name) in
    subst P (sym same) (lt-ltb r.0 (length xs) r.2, r.3)

-- the name of a month, of a weekday, or none
first_of_names : (name : List ℕ) (m w : Option ℕ) → place_of name 0 months ≡ m → place_of name 0 weekdays ≡ w → (name_of name ≡ None) ⊎ ((p : Piece) × (name_of name ≡ Some p) × IsPiece p × (letters p ≡ name))
first_of_names name (Some k) w e f =
    let n = named_there months name k e in inr (month k, rw e refl, n.0, n.1)
first_of_names name None (Some k) e f =
    let n = named_there weekdays name k f in inr (weekday k, rw (e, f) refl, n.0, n.1)
first_of_names name None None e f = inl (rw (e, f) refl)

pub names_of : (name : List ℕ) → (name_of name ≡ None) ⊎ ((p : Piece) × (name_of name ≡ Some p) × IsPiece p × (letters p ≡ name))
names_of name = first_of_names name (place_of name 0 months) (place_of name 0 weekdays) refl refl

onto_cut : (p : Piece) (text : List ℕ) (rest : Option (List Piece)) (ps : List Piece) → IsPiece p → ((qs : List Piece) → rest ≡ Some qs → IsCut text qs) → onto p rest ≡ Some ps → IsCut (letters p ++ text) ps
onto_cut p text None ps legal h e = absurd (none-some ps e)
onto_cut p text (Some qs) ps legal h e =
    let k = h qs refl in
    subst (λ (xs : List Piece). IsCut (letters p ++ text) xs) (same_Some (p ∷ qs) ps e) (record {
      spells = ap (λ xs. letters p ++ xs) k.spells;
      legal = (legal, k.legal);
    })

alone_cut : (c : ℕ) (text : List ℕ) (rest : Option (List Piece)) (ps : List Piece) → ((qs : List Piece) → rest ≡ Some qs → IsCut text qs) → alone c rest ≡ Some ps → IsCut (c ∷ text) ps
alone_cut c text rest ps h e = elim (cases_Bool (is_lost c)) [
  | inl t ↦ absurd (none-some ps (sym (ap (λ b. cond b None (onto (single c) rest)) t) ∙ e))
  | inr f ↦ onto_cut (single c) text rest ps f h (sym (ap (λ b. cond b None (onto (single c) rest)) f) ∙ e)
]

end_cut : (qs : List Piece) → ◌≡◌ {A = Option (List Piece)} (Some []) (Some qs) → IsCut [] qs
end_cut qs e = subst (IsCut []) (same_Some [] qs e) (record { spells = refl; legal = tt })

-- what is found is a cut
pub cut_found : (text : List ℕ) (ps : List Piece) → cut_of text ≡ Some ps → IsCut text ps
cut_found [] ps e = end_cut ps e
cut_found (a ∷ []) ps e = alone_cut a [] (Some []) ps end_cut e
cut_found (a ∷ b ∷ []) ps e = alone_cut a (b ∷ []) (alone b (Some [])) ps (λ qs k. alone_cut b [] (Some []) qs end_cut k) e
cut_found (a ∷ b ∷ c ∷ rest) ps e = elim (names_of (a ∷ b ∷ c ∷ [])) [
  | inl none ↦
      alone_cut a (b ∷ c ∷ rest) (cut_of (b ∷ c ∷ rest)) ps (cut_found (b ∷ c ∷ rest))
      (sym (ap (λ p. named p (alone a (cut_of (b ∷ c ∷ rest))) (cut_of rest)) none) ∙ e)
  | inr some ↦
      subst (λ text. IsCut text ps) (ap (λ name. name ++ rest) some.3)
      (onto_cut some.0 rest (cut_of rest) ps some.2 (cut_found rest)
      (sym (ap (λ p. named p (alone a (cut_of (b ∷ c ∷ rest))) (cut_of rest)) some.1) ∙ e))
]

-- What filters, maps and permutations leave of lists.
use Rattle.std.proofs.Common.{◌≡◌, ◌≢◌, ◌∙◌, ◌⊎◌, inl, inr, ℕ, ◌<◌, Bool, true, false, cond, if◌then◌else◌, ◌==◌, List, [], ◌∷◌, length, get_or, map, filter, swap, refl, sym, ap, subst, arith}
use Rattle.std.proofs.lemmas.Bool.{false≢true, cases_lt, cond-false, false_from_ne_true}
use Rattle.std.proofs.lemmas.Bool.Decides.{nat_tests}
use Rattle.std.proofs.lemmas.List.{length-map, get_or-map}
use Rattle.std.proofs.lemmas.List.Edits.{swapped_from_swap, length-swap}
use Rattle.std.proofs.lemmas.List.Elements.{All-nil, All-cons, All-head, All-tail, All-weaker, All-contains, Contains-append_right}
use Rattle.std.proofs.lemmas.List.Sorted.{IsPermutation-keeps}
use Rattle.std.specs.List.{All, AllPairs, Contains}
use Rattle.std.specs.List.Sorted.{IsPermutation}

-- ---- filters

pub filter_all : {X : Type 0} (p : X → Bool) (xs : List X) → All (λ x. p x ≡ true) xs → filter p xs ≡ xs
filter_all p [] h = refl
filter_all p (x ∷ xs) h =
    subst (λ (b : Bool). cond b (x ∷ filter p xs) (filter p xs) ≡ x ∷ xs) (sym (All-head (λ y. p y ≡ true) x xs h))
    (ap (λ ys. x ∷ ys) (filter_all p xs (All-tail (λ y. p y ≡ true) x xs h)))

pub filter_none : {X : Type 0} (p : X → Bool) (xs : List X) → All (λ x. p x ≡ false) xs → filter p xs ≡ []
filter_none p [] h = refl
filter_none p (x ∷ xs) h =
    subst (λ (b : Bool). cond b (x ∷ filter p xs) (filter p xs) ≡ []) (sym (All-head (λ y. p y ≡ false) x xs h)) (filter_none p xs (All-tail (λ y. p y ≡ false) x xs h))

-- what passes is kept
pub kept : {X : Type 0} (p : X → Bool) (xs : List X) (x : X) → Contains xs x → p x ≡ true → Contains (filter p xs) x
kept {X} p xs x has = All-contains (λ y. p y ≡ true → Contains (filter p xs) y) xs x (each xs) has where
  head : (b : Bool) (y : X) (ys : List X) → b ≡ true → Contains (cond b (y ∷ ys) ys) y
  head true y ys e = (0, omega arith, refl)
  head false y ys e = absurd (false≢true e)

  tail : (b : Bool) (y z : X) (ys : List X) → Contains ys z → Contains (cond b (y ∷ ys) ys) z
  tail true y z ys h = Contains-append_right (y ∷ []) ys z h
  tail false y z ys h = h

  each : (ys : List X) → All (λ y. p y ≡ true → Contains (filter p ys) y) ys
  each [] = All-nil (λ y. p y ≡ true → Contains (filter p []) y)
  each (y ∷ ys) =
      All-cons (λ z. p z ≡ true → Contains (filter p (y ∷ ys)) z) y ys (head (p y) y (filter p ys))
      (All-weaker (λ z. p z ≡ true → Contains (filter p ys) z) (λ z. p z ≡ true → Contains (filter p (y ∷ ys)) z) (λ z h e. tail (p y) y z (filter p ys) (h e)) ys (each ys))

-- a filter by what is narrower
pub filter_within : {X : Type 0} (p q : X → Bool) → ((x : X) → p x ≡ true → q x ≡ true) → (xs : List X) → filter p (filter q xs) ≡ filter p xs
filter_within p q h [] = refl
filter_within p q h (x ∷ xs) = at (q x) refl (filter_within p q h xs) where
  at : (b : Bool) → q x ≡ b → filter p (filter q xs) ≡ filter p xs → filter p (cond b (x ∷ filter q xs) (filter q xs)) ≡ cond (p x) (x ∷ filter p xs) (filter p xs)
  at true e same = ap (λ ys. cond (p x) (x ∷ ys) ys) same
  at false e same = same ∙ sym (cond-false (p x) (x ∷ filter p xs) (filter p xs) (false_from_ne_true (p x) (λ yes. false≢true (sym e ∙ h x yes))))

-- ---- maps

pub map-map : {X Y Z : Type 0} (g : Y → Z) (f : X → Y) (xs : List X) → map g (map f xs) ≡ map (λ x. g (f x)) xs
map-map g f [] = refl
map-map g f (x ∷ xs) = ap (λ zs. g (f x) ∷ zs) (map-map g f xs)

pub map-filter : {X Y : Type 0} (f : X → Y) (p : Y → Bool) (xs : List X) → map f (filter (λ x. p (f x)) xs) ≡ filter p (map f xs)
map-filter f p [] = refl
map-filter f p (x ∷ xs) = at (p (f x)) (map-filter f p xs) where
  at : (b : Bool) → map f (filter (λ y. p (f y)) xs) ≡ filter p (map f xs)
      → map f (cond b (x ∷ filter (λ y. p (f y)) xs) (filter (λ y. p (f y)) xs)) ≡ cond b (f x ∷ filter p (map f xs)) (filter p (map f xs))
  at true same = ap (λ ys. f x ∷ ys) same
  at false same = same

pub Contains-map : {X Y : Type 0} (f : X → Y) (xs : List X) (x : X) → Contains xs x → Contains (map f xs) (f x)
Contains-map f xs x h = (h.0, omega (arith, h.1, length-map xs f), get_or-map f xs h.0 x (f x) h.1 ∙ ap f h.2)

-- what holds of what each is seen as
pub All-from_map : {X Y : Type 0} (f : X → Y) (P : Y → Type 0) (xs : List X) → All P (map f xs) → All (λ x. P (f x)) xs
All-from_map f P [] h = All-nil (λ x. P (f x))
All-from_map f P (x ∷ xs) h = All-cons (λ x. P (f x)) x xs (All-head P (f x) (map f xs) h) (All-from_map f P xs (All-tail P (f x) (map f xs) h))

-- ---- permutations

-- a number is another or it isn't
same_or_not : (a b : ℕ) → (a ≡ b) ⊎ (a ≢ b)
same_or_not a b =
    elim (cases_lt a b) [
      | inl under ↦ inr (λ e. omega arith)
      | inr over ↦
          elim (cases_lt b a) [
            | inl under ↦ inr (λ e. omega arith)
            | inr not_over ↦ inl (omega arith)
          ]
    ]

-- where an element of a swap stood
abbrev sigma : ℕ → ℕ → ℕ → ℕ
sigma a b k = if k == a then b else if k == b then a else k

-- of any two elements at different places
apart : {X : Type 0} (R : X → X → Type 0) → ((x y : X) → R x y → R y x) → (xs : List X) (i j : ℕ) (d : X) → AllPairs R xs → i ≢ j → i < length xs → j < length xs
    → R (get_or xs i d) (get_or xs j d)
apart R symm xs i j d all ne i_in j_in =
    elim (cases_lt i j) [
      | inl under ↦ all i j d under j_in
      | inr over ↦ symm (get_or xs j d) (get_or xs i d) (all j i d (omega arith) i_in)
    ]

pairs_swap : {X : Type 0} (R : X → X → Type 0) → ((x y : X) → R x y → R y x) → (xs : List X) (a b : ℕ) → a < length xs → b < length xs → AllPairs R xs → AllPairs R (swap xs a b)
pairs_swap {X} R symm xs a b a_in b_in all =
    let moved : (k : ℕ) (d : X) → get_or (swap xs a b) k d ≡ get_or xs (sigma a b k) d = λ k d.
    let sw = swapped_from_swap xs (swap xs a b) a b d a_in b_in refl in
    elim (same_or_not k a) [
      | inl at_a ↦
          let to : sigma a b k ≡ b = grind (arith, nat_tests) in
          rw (at_a) (sw.0) ∙ ap (λ (p : ℕ). get_or xs p d) (sym to)
      | inr not_a ↦
          elim (same_or_not k b) [
            | inl at_b ↦
                let to : sigma a b k ≡ a = grind (arith, nat_tests) in
                rw (at_b) (sw.1) ∙ ap (λ (p : ℕ). get_or xs p d) (sym to)
            | inr not_b ↦
                let to : sigma a b k ≡ k = grind (arith, nat_tests) in
                sw.2 k not_a not_b ∙ ap (λ (p : ℕ). get_or xs p d) (sym to)
          ]
    ] in
    let within : (k : ℕ) → k < length xs → sigma a b k < length xs = λ k h. grind (arith, nat_tests) in
    let separate : (i j : ℕ) → i < j → sigma a b i ≢ sigma a b j = λ i j h. grind (arith, nat_tests) in
    λ i j d lt j_in.
    let inside : j < length xs = rw (length-swap xs a b) at j_in in
    rw (moved i d, moved j d) (apart R symm xs (sigma a b i) (sigma a b j) d all (separate i j lt) (within i (omega arith)) (within j inside))

-- what holds of any two elements, in either order
pub AllPairs-permutation : {X : Type 0} (R : X → X → Type 0) → ((x y : X) → R x y → R y x) → (xs ys : List X) → IsPermutation xs ys → AllPairs R xs → AllPairs R ys
AllPairs-permutation {X} R symm xs ys same all =
    IsPermutation-keeps xs (λ (zs : List X). AllPairs R zs) all (λ zs a b a_in b_in. pairs_swap R symm zs a b a_in b_in) ys same

-- Values that are gathered one after the other.
use Rattle.std.proofs.Common.{◌≡◌, ◌∙◌, ◌+◌, ◌<◌, ℕ, List, [], ◌∷◌, ◌++◌, length, get_or, take, ap, sym, subst}
use Rattle.std.specs.Prelude.{map}
use Rattle.std.specs.List.{All, flat_map}
use Rattle.std.proofs.lemmas.List.{append-nil, map_push, take_more}
use Rattle.std.proofs.lemmas.List.Concat.{flat_map-append}
use Rattle.std.proofs.lemmas.List.Elements.{All-push}

-- of one more, what it is of
pub of_more : {X Y : Type 0} (f : X → Y) (xs new : List X) (x : X) (ys : List Y) (i : ℕ) (d : Y) → new ≡ xs ++ x ∷ [] → map f xs ≡ take i ys → i < length ys → f x ≡ get_or ys i d
    → map f new ≡ take (i + 1) ys
of_more {X} {Y} f xs new x ys i d is of lt at =
    ap (λ (zs : List X). map f zs) is ∙ map_push f xs x ∙ ap (λ (zs : List Y). zs ++ f x ∷ []) of ∙ ap (λ (y : Y). take i ys ++ y ∷ []) at ∙ sym (take_more ys i d lt)

-- what holds of each
pub each_more : {X : Type 0} (P : X → Type 0) (xs new : List X) (x : X) → new ≡ xs ++ x ∷ [] → All P xs → P x → All P new
each_more {X} P xs new x is each one = subst (λ (zs : List X). All P zs) (sym is) (All-push P xs x each one)

-- what some of a list's elements give
pub given_more : {X Y : Type 0} (f : X → List Y) (xs : List X) (old new : List Y) (i : ℕ) (x d : X) → i < length xs → x ≡ get_or xs i d → old ≡ flat_map f (take i xs)
    → new ≡ old ++ f x → new ≡ flat_map f (take (i + 1) xs)
given_more {X} {Y} f xs old new i x d lt at had is =
    is ∙ ap (λ (ys : List Y). ys ++ f x) had ∙ ap (λ (y : X). flat_map f (take i xs) ++ f y) at
    ∙ sym (ap (flat_map f) (take_more xs i d lt) ∙ flat_map-append f (take i xs) (get_or xs i d ∷ []) ∙ ap (λ (ys : List Y). flat_map f (take i xs) ++ ys) (append-nil (f (get_or xs i d))))

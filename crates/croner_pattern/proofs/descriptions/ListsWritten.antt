-- Lists of texts, as they are written item by item.
use Rattle.std.proofs.Common.{◌≡◌, ℕ, ◌+◌, ◌-◌, ◌<◌, ◌%◌, Bool, false, eqb, List, [], ◌∷◌, ◌++◌, length, drop, get_or, map, refl, ap, sym, ◌∙◌, append_assoc, arith}
use Rattle.std.specs.Prelude.{codes}
use Rattle.std.proofs.lemmas.Bool.Decides.{nat_tests}
use Rattle.std.proofs.lemmas.List.{at_drop_more, append-nil, length-drop, length-map, get_or-map}
use Rattle.std.proofs.Math.Nat.{mod-lt}
use Rattle.croner_pattern.specs.Description.{cyclic_name}
use Rattle.croner_pattern.specs.Lists.{but_last, last_of, each_after, joined, text_list}
use Rattle.croner_pattern.specs.Private.Lists.{is_empty, separator, comma, from_place}

is_empty-length : {X : Type 0} (xs : List X) → is_empty xs ≡ eqb (length xs) 0
is_empty-length [] = refl
is_empty-length (x ∷ xs) = grind (arith, nat_tests)

no_length : (n i : ℕ) → i < n → eqb (n - (i + 1)) 0 ≡ eqb (i + 1) n
no_length n i h = grind (arith, nat_tests)

-- an item is the last where its place is the last one
last_here : {X : Type 0} (xs : List X) (i : ℕ) → i < length xs → is_empty (drop (i + 1) xs) ≡ eqb (i + 1) (length xs)
last_here xs i h =
    is_empty-length (drop (i + 1) xs) ∙ ap (λ n. eqb n 0) (length-drop (i + 1) xs) ∙ no_length (length xs) i h

regrouped : (t b i r : List ℕ) → (t ++ (b ++ i)) ++ r ≡ t ++ (b ++ (i ++ r))
regrouped t b i r = append_assoc t (b ++ i) r ∙ ap (λ x. t ++ x) (append_assoc b i r)

-- one item more is written
pub item_more : (before : ℕ → Bool → List ℕ) (text item whole : List ℕ) (place : ℕ) (items : List (List ℕ)) → place < length items → get_or items place [] ≡ item
    → text ++ from_place before place (drop place items) ≡ whole
    → (text ++ (before place (eqb (place + 1) (length items)) ++ item)) ++ from_place before (place + 1) (drop (place + 1) items) ≡ whole
item_more before text item whole place items h e w =
    let rest = from_place before (place + 1) (drop (place + 1) items) in
    let f = at_drop_more (from_place before place) items place [] h in
    let l = last_here items place h in
    regrouped text (before place (eqb (place + 1) (length items))) item rest
    ∙ ap (λ x. text ++ x) (sym (f ∙ ap (λ b. before place b ++ (get_or items place [] ++ rest)) l ∙ ap (λ i. before place (eqb (place + 1) (length items)) ++ (i ++ rest)) e))
    ∙ w

not_place : (place k : ℕ) → k < place → eqb place k ≡ false
not_place place k h = grind (arith, nat_tests)

-- from the third item on
from_third : (and item : List ℕ) (more : List (List ℕ)) (place : ℕ) → 1 < place
    → from_place (separator and) place (item ∷ more) ≡ each_after (codes ", ") (but_last item more) ++ (codes ", " ++ (and ++ (codes " " ++ last_of item more)))
from_third and item [] place h =
    let zero = not_place place 0 (omega arith) in
    let one = not_place place 1 h in
    rw (zero, one) (simp (append_assoc, append-nil) refl)
from_third and item (next ∷ more) place h =
    let zero = not_place place 0 (omega arith) in
    let step = from_third and next more (place + 1) (omega arith) in
    rw (zero, step) (simp append_assoc refl)

-- a text list is its items, each after its separator
pub text_list-from_place : (and : List ℕ) (items : List (List ℕ)) → text_list and items ≡ from_place (separator and) 0 items
text_list-from_place and [] = refl
text_list-from_place and (one ∷ []) = sym (append-nil one)
text_list-from_place and (one ∷ two ∷ []) = simp (append_assoc, append-nil) refl
text_list-from_place and (one ∷ two ∷ three ∷ more) =
    let step = from_third and three more 2 (omega arith) in
    sym (rw step (simp append_assoc refl))

pub text_list-begun : (and text : List ℕ) (items : List (List ℕ)) → text ≡ [] → text ++ from_place (separator and) 0 (drop 0 items) ≡ text_list and items
text_list-begun and text items e = rw e (sym (text_list-from_place and items))

from_second : (items : List (List ℕ)) (place : ℕ) → 0 < place → from_place comma place items ≡ each_after (codes ", ") items
from_second [] place h = refl
from_second (item ∷ more) place h =
    let zero = not_place place 0 h in
    let step = from_second more (place + 1) (omega arith) in
    rw (zero, step) refl

pub joined-from_place : (items : List (List ℕ)) → joined (codes ", ") items ≡ from_place comma 0 items
joined-from_place [] = refl
joined-from_place (item ∷ more) = ap (λ x. item ++ x) (sym (from_second more 1 (omega arith)))

pub joined-begun : (text : List ℕ) (items : List (List ℕ)) → text ≡ [] → text ++ from_place comma 0 (drop 0 items) ≡ joined (codes ", ") items
joined-begun text items e = rw e (sym (joined-from_place items))

-- the name at a place, in a list of references
pub cyclic_name-map : {X : Type 0} (text : X → List ℕ) (names : List X) (place : ℕ) (other : X) → 0 < length names
    → text (get_or names (place % length names) other) ≡ cyclic_name (map text names) place
cyclic_name-map text names place other h =
    let within : place % length names < length names = mod-lt place h in
    let count = length-map names text in
    rw count (sym (get_or-map text names (place % length names) other [] within))

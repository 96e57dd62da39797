-- What a field's hash is made of: the sets of its supported modifiers, as binary numbers of 64 digits, and then the other
-- parts of the order's key. Fields that compare as equal write the same.
use Rattle.std.specs.Prelude.{◌≡◌, ℕ, zero, suc, ◌+◌, ◌*◌, ◌/◌, ◌^◌, ◌==◌, Bool, true, false, List, [], ◌∷◌, ◌++◌, slice_index, refl, if◌then◌else◌}
use Rattle.std.specs.Int.{bit_at}
use Rattle.std.specs.List.{flat_map, range_with_len}
use Rattle.std.specs.declared.cmp.Ordering.{Ordering}
use Rattle.std.specs.declared.cmp.Ordering.TheVariants.{Less, Equal, Greater}
use Rattle.std.specs.Ordering.{nat_cmp, bool_cmp, is_eq, ordering_then, eq_by_cmp}
use Rattle.std.specs.Cmp.Lexicographic.{slice_cmp}
use Rattle.std.specs.Hash as fed
use Rattle.std.proofs.Common.{arith}
use Rattle.std.proofs.lemmas.Bool.{false≢true}
use Rattle.std.proofs.lemmas.Bool.Decides.{nat_tests}
use Rattle.croner_base.specs.Field.{Field, room}
use Rattle.croner_base.specs.Order.{field_cmp}

-- the number whose first digits tell which of the values from a first one on have modifier k
unfoldable pub digits_of : List ℕ → ℕ → ℕ → ℕ → ℕ
digits_of marks k first zero = 0
digits_of marks k first (suc n) = digits_of marks k first n + bit_at (slice_index marks (first + n)) k * 2 ^ n

-- the values that have modifier k, 64 a number
unfoldable pub set_writes : List ℕ → ℕ → ℕ → List (List ℕ)
set_writes marks groups k = flat_map (λ i. fed.u64 (digits_of marks k (i * 64) 64)) (range_with_len 0 groups)

-- the same for each supported modifier
unfoldable pub sets_writes : List ℕ → ℕ → ℕ → List (List ℕ)
sets_writes marks max supported =
    flat_map (λ k. if bit_at supported k == 1 then set_writes marks ((room max + 63) / 64) k else []) (range_with_len 0 8)

-- what a field's hash is made of
abbrev pub field_writes : Field → List (List ℕ)
field_writes f =
    sets_writes f.marks f.shape.max f.shape.supported ++ fed.u16 f.shape.min ++ fed.u16 f.shape.max ++ fed.u16 f.step ++ fed.bool f.wildcard ++ fed.u8 f.shape.supported ++ fed.u8 f.enabled ++ fed.u16 f.shape.offset ++ fed.bool f.shape.sloppy

-- a tie of two orders is a tie of each
pub tie : (a b : Ordering) → is_eq (ordering_then a b) ≡ true → (is_eq a ≡ true) × (is_eq b ≡ true)
tie Less b h = absurd (false≢true h)
tie Equal b h = (refl, h)
tie Greater b h = absurd (false≢true h)

pub nat_tie : (a b : ℕ) → is_eq (nat_cmp a b) ≡ true → a ≡ b
nat_tie a b h = grind (arith, nat_tests)

pub bool_tie : (a b : Bool) → is_eq (bool_cmp a b) ≡ true → a ≡ b
bool_tie false false h = refl
bool_tie false true h = absurd (false≢true h)
bool_tie true false h = absurd (false≢true h)
bool_tie true true h = refl

pub list_tie : (xs ys : List ℕ) → is_eq (slice_cmp nat_cmp xs ys) ≡ true → xs ≡ ys
list_tie [] [] h = refl
list_tie [] (y ∷ ys) h = absurd (false≢true h)
list_tie (x ∷ xs) [] h = absurd (false≢true h)
list_tie (x ∷ xs) (y ∷ ys) h =
    let t = tie (nat_cmp x y) (slice_cmp nat_cmp xs ys) h in
    let one = nat_tie x y t.0 in
    let more = list_tie xs ys t.1 in
    cc

pub writes_alike : (x y : Field) → eq_by_cmp field_cmp x y ≡ true → field_writes x ≡ field_writes y
writes_alike x y h =
    let t8 = tie _ _ h in
    let t7 = tie _ _ t8.0 in
    let t6 = tie _ _ t7.0 in
    let t5 = tie _ _ t6.0 in
    let t4 = tie _ _ t5.0 in
    let t3 = tie _ _ t4.0 in
    let t2 = tie _ _ t3.0 in
    let t1 = tie _ _ t2.0 in
    let marks = list_tie x.marks y.marks t1.0 in
    let min = nat_tie x.shape.min y.shape.min t1.1 in
    let max = nat_tie x.shape.max y.shape.max t2.1 in
    let step = nat_tie x.step y.step t3.1 in
    let wildcard = bool_tie x.wildcard y.wildcard t4.1 in
    let supported = nat_tie x.shape.supported y.shape.supported t5.1 in
    let enabled = nat_tie x.enabled y.enabled t6.1 in
    let offset = nat_tie x.shape.offset y.shape.offset t7.1 in
    let sloppy = bool_tie x.shape.sloppy y.shape.sloppy t8.1 in
    cc
